-- The table of other packages' items, as it grows visit by visit.
use Rattle.std.specs.Prelude.{ℕ, not, List, [], ◌∷◌, ◌++◌, map, Option, Some, None, nat_eq, if◌then◌else◌}
use Rattle.std.specs.List.{filter, position_or_len}
use Rattle.std.specs.Map.{lookup}
use Rattle.std.specs.Option.{unwrap_or}
use Rattle.std.specs.Cmp.Lexicographic.{pointwise}
use Rattle.indexmap.specs.IndexMap.{insert_entry}
use Rattle.wit_types.specs.declared.stability.Stability.{Stability}
use Rattle.wit_model.specs.declared.ast_item.AstItem.{AstItem}
use Rattle.wit_package_names.specs.declared.package_name.PackageName.{PackageName}
use Rattle.wit_syntax.specs.Address.{same_package, same_address, package_of}
use Rattle.wit_syntax.specs.Metadata.{stability_of}
use Rattle.wit_syntax.specs.Repeats.{firsts}
use Rattle.wit_syntax.specs.Foreign.{ForeignVisit, visited, same_item}
use Rattle.wit_model.specs.declared.ast_item.AstItem.TheVariants as entry

abbrev pub Visited : Type 0
Visited = AstItem × List Stability

abbrev pub Items : Type 0
Items = List (List ℕ × Visited)

-- an item with one more visit, of a stability: it gets the entry if it had none
abbrev pub item_more : Option Visited → AstItem → Stability → Visited
item_more None e s = (e, s ∷ [])
item_more (Some i) e s = (i.0, i.1 ++ s ∷ [])

-- the items of a package with one more visit
abbrev pub row_more : Items → List ℕ → AstItem → Stability → Items
row_more es name e s = insert_entry (pointwise nat_eq) es name (item_more (lookup (pointwise nat_eq name) es) e s)

-- a table of packages with one more visit
abbrev pub table_more : List (PackageName × Items) → PackageName → List ℕ → AstItem → Stability → List (PackageName × Items)
table_more t p name e s = insert_entry same_package t p (row_more (unwrap_or (lookup (same_package p) t) []) name e s)

-- the items of visits, and among them interfaces and worlds
abbrev pub items_of : List ForeignVisit → List ForeignVisit
items_of vs = firsts same_item vs

abbrev pub interfaces_in : List ForeignVisit → List ForeignVisit
interfaces_in vs = filter (λ v. not v.wants_world) (items_of vs)

abbrev pub worlds_in : List ForeignVisit → List ForeignVisit
worlds_in vs = filter (λ (v : ForeignVisit). v.wants_world) (items_of vs)

abbrev pub packages_of : List ForeignVisit → List ForeignVisit
packages_of vs = firsts (λ a b. same_package (package_of a.of) (package_of b.of)) vs

-- the entry of an item of visits
abbrev pub entry_in : List ForeignVisit → ForeignVisit → AstItem
entry_in vs v = if v.wants_world then entry.World (position_or_len (λ (y : ForeignVisit). same_item y v) (worlds_in vs)) else entry.Interface (position_or_len (λ (y : ForeignVisit). same_item y v) (interfaces_in vs))

-- the stability that the attributes of a visit say
abbrev pub visit_stability : ForeignVisit → Stability
visit_stability v = stability_of v.attributes

-- an item of visits, with its entry and the stability of each of its visits
abbrev pub item_in : List ForeignVisit → ForeignVisit → Visited
item_in vs v = (entry_in vs v, map visit_stability (filter (λ u. same_address (visited u) (visited v)) vs))

-- the items of a package
abbrev pub row_in : List ForeignVisit → PackageName → Items
row_in vs p = map (λ v. (v.id.name.now, item_in vs v)) (filter (λ v. same_package (package_of v.of) p) (items_of vs))

-- the packages of visits, each with its items
abbrev pub table_in : List ForeignVisit → List (PackageName × Items)
table_in vs = map (λ v. (package_of v.of, row_in vs (package_of v.of))) (packages_of vs)
