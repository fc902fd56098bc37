-- What comes before the arenas, while it is made.
use Rattle.std.specs.Prelude.{◌≡◌, ℕ, suc, List, [], ◌∷◌, ◌++◌, not, None, map, if◌then◌else◌}
use Rattle.wit_arena.specs.Common.{Address, AddsForeign, AllDiffer, AstItem, ForeignUse, ForeignVisit, Interface, Names, PackageFile, ScopeName, Span, TypeDef, Unknown, Used, World, all_items, filter, first_foreign_uses, firsts, flat_map, foreign_entry, foreign_items, is_foreign, metadata, named, no_docs, owner_at, same_address, same_foreign_use, use_of_foreign, visited}
use Rattle.wit_types.specs.declared.types.TypeDefKind.TheVariants as kind
use Rattle.wit_model.specs.declared.ast_item.AstItem.TheVariants as entry
use Rattle.wit_items.specs.declared.items.Item.{Item as BorrowedItem}
use Rattle.wit_scopes.specs.BorrowedNames.{Borrowed, name_view}
use Rattle.wit_items.specs.BorrowedItems.{item_view, AreItemsOf, Inside}
use Rattle.wit_front.specs.declared.foreign.ForeignArenas.{ForeignArenas}

-- an interface of another package with these types
abbrev pub interface_with : Span → Names → Interface
interface_with span types = record { name = None; types = types; functions = []; docs = no_docs; stability = Unknown; «package» = None; span = span; clone_of = None }

-- an interface with other types
abbrev pub with_types : Interface → Names → Interface
with_types i types = record { name = i.name; types = types; functions = i.functions; docs = i.docs; stability = i.stability; «package» = i.«package»; span = i.span; clone_of = i.clone_of }

-- a world of another package
abbrev pub bare_world : Span → World
bare_world span = record { name = []; imports = []; exports = []; «package» = None; docs = no_docs; stability = Unknown; includes = []; span = span }

-- the interfaces among items, and the worlds
abbrev pub interfaces_among : List ForeignVisit → List ForeignVisit
interfaces_among vs = filter (λ v. not v.wants_world) vs

abbrev pub worlds_among : List ForeignVisit → List ForeignVisit
worlds_among vs = filter (λ (v : ForeignVisit). v.wants_world) vs

-- the addresses of the interfaces
abbrev pub addresses_among : List ForeignVisit → List Address
addresses_among vs = map visited (interfaces_among vs)

-- the entries of items
abbrev pub entries_after : ℕ → ℕ → List ForeignVisit → List AstItem
entries_after i w [] = []
entries_after i w (v ∷ vs) = (if v.wants_world then entry.World w else entry.Interface i) ∷ entries_after (if v.wants_world then i else suc i) (if v.wants_world then suc w else w) vs

-- the names of a scope that are used, each with its place, counted from n
abbrev pub used_from : ℕ → Address → List ForeignUse → Names
used_from n s [] = []
used_from n s (t ∷ ts) = if same_address t.from s then (t.id.name.now, n) ∷ used_from (suc n) s ts else used_from (suc n) s ts

-- the interface of a visit, with the types that are used from it
abbrev pub visited_interface : List ForeignUse → ForeignVisit → Interface
visited_interface ts v = interface_with v.id.span (used_from 0 (visited v) ts)

-- the arenas of these items, once these names were used from them
pub record AreAdded (vs : List ForeignVisit) (ts : List ForeignUse) (es : List TypeDef) (a : ForeignArenas) : Type 0 where
  pub types : es ≡ map (λ (t : ForeignUse). named (owner_at (addresses_among vs) (map visited (worlds_among vs)) t.from) t.id.name.now kind.Unknown (metadata no_docs t.attributes) t.id.span) (firsts same_foreign_use ts)
  pub interfaces : a.interfaces ≡ map (visited_interface (firsts same_foreign_use ts)) (interfaces_among vs)
  pub worlds : a.worlds ≡ map (λ v. bare_world v.id.span) (worlds_among vs)
  pub entries : a.entries.items ≡ entries_after 0 0 vs
  pub spans : a.spans.items ≡ map (λ t. t.id.span) (firsts same_foreign_use ts)

-- an item is added after these at its first visit
abbrev pub AddsVisit : ForeignArenas → ForeignArenas → ForeignVisit → Type 0
AddsVisit old new v = (vs : List ForeignVisit) → AreAdded vs [] [] old → AreAdded (vs ++ v ∷ []) [] [] new

-- the names among these that come from other packages
abbrev pub name_foreign_uses : ScopeName → List ForeignUse
name_foreign_uses (Used from attributes n) = filter (λ t. is_foreign t.from) (use_of_foreign from attributes n ∷ [])
name_foreign_uses _ = []

abbrev pub names_foreign_uses : List Borrowed → List ForeignUse
names_foreign_uses names = flat_map name_foreign_uses (map name_view names)

abbrev pub inside_uses : List Inside → List ForeignUse
inside_uses inside = flat_map (λ n. names_foreign_uses n.names.items) inside

-- those among the names of an item, and then among those of what is written in it, on the imported side and on the exported one
abbrev pub borrowed_foreign_uses : BorrowedItem → List ForeignUse
borrowed_foreign_uses i = names_foreign_uses i.names.items ++ (inside_uses i.imported.items ++ inside_uses i.exported.items)

-- some names were used from some items, at which what is at hand is placed
pub record HasUsed (types : List TypeDef) (a : ForeignArenas) (Placed : List Address → Type 0) : Type 0 where
  pub vs : List ForeignVisit
  pub ts : List ForeignUse
  pub apart : AllDiffer (addresses_among vs)
  pub in_use : AreAdded vs ts types a
  pub placed : Placed (addresses_among vs)

-- these names are added to those that were used from some items, which are apart, where what is at hand is placed
abbrev pub AddsUsed : (old : List TypeDef) (before : ForeignArenas) (new : List TypeDef) (after : ForeignArenas) → (List Address → Type 0) → List ForeignUse → Type 0
AddsUsed old before new after Placed uses = (vs : List ForeignVisit) (ts : List ForeignUse) → AllDiffer (addresses_among vs) → Placed (addresses_among vs) → AreAdded vs ts old before → AreAdded vs (ts ++ uses) new after

-- what files name of other packages comes before the arenas
pub record IsPrefix (files : List PackageFile) (types : List TypeDef) (a : ForeignArenas) : Type 0 where
  pub adds : AddsForeign files types a.interfaces a.worlds
  pub entries : a.entries.items ≡ map (foreign_entry files) (foreign_items files)
  pub spans : a.spans.items ≡ map (λ t. t.id.span) (first_foreign_uses files)

-- what the items of files, which are these, use of other packages is added to what files name of those
abbrev pub AddsPrefix : (old : List TypeDef) (before : ForeignArenas) (new : List TypeDef) (after : ForeignArenas) → List BorrowedItem → Type 0
AddsPrefix old before new after items = (files : List PackageFile) → AreAdded (foreign_items files) [] old before → AreItemsOf files items → map item_view items ≡ all_items files → IsPrefix files new after
