-- The theorem: what a resolved package is.
use Rattle.std.specs.Prelude.{if◌then◌else◌, ◌≡◌, ◌==◌, ℕ, List, [], ◌∷◌, ◌++◌, length, map, Option, Some, None, slice_get, position}
use Rattle.wit_arena.specs.Names.{Address, AllZip, AstItem, AtForeign, AtResource, EndsAt, ForeignUse, ForeignVisit, Id, Interface, PackageFile, PackageName, ScopeName, SourceFunction, Span, Stability, TypeOwner, WorldItem, WorldKey, address, all_handles, all_scopes, all_types, docs_of, filter, filter_map, flat_map, foreign_interfaces, foreign_items, foreign_uses, foreign_visits, foreign_worlds, functions as item_functions, item_at, local_id, local_name, no_docs, option_map, option_map_or, option_or, package_of, same_address, same_item, same_package, scope, stability_of, unwrap_or, visited, position_or_len, signature, Unknown}
use Rattle.wit_tree.specs.declared.tree.PackageName.{PackageName as Header}
use Rattle.wit_tree.specs.declared.tree.IncludeName.{IncludeName as Renaming}
use Rattle.wit_model.specs.declared.ast_item.AstItem.TheVariants as entry
use Rattle.wit_model.specs.declared.world.IncludeName.{IncludeName}
use Rattle.wit_model.specs.declared.world.WorldKey.TheVariants as key
use Rattle.wit_model.specs.declared.world.WorldItem.TheVariants.{Type_}
use Rattle.wit_types.specs.declared.types.TypeOwner.TheVariants as owner
use Rattle.wit_types.specs.declared.docs.Docs.{Docs}
use Rattle.wit_arena.specs.Occurrences.{Key, Def, Occurrence, name_occurrences, Decls, shape_occurrences}

-- a scope, with its names as they are resolved, and its functions
pub record Turned : Type 0 where
  pub address : Address
  pub names : List ScopeName
  pub functions : List SourceFunction

-- what occurs in a scope: in its names, and then in its functions, of each in its parameters and then in its result
abbrev pub turn_occurrences : Turned → List Occurrence
turn_occurrences t = flat_map (name_occurrences t.address) t.names ++ flat_map (λ (fn : SourceFunction). flat_map (shape_occurrences t.address Unknown) (signature fn)) t.functions

-- the place of an address among these
abbrev pub place_at : List Address → Address → Option ℕ
place_at ss s = position (λ a. same_address a s) ss

-- the owner that the package knows a scope by: its place, where the interfaces have these addresses and the worlds those
abbrev pub owner_at : List Address → List Address → Address → TypeOwner
owner_at is ws s = unwrap_or (option_or (option_map owner.Interface (place_at is s)) (option_map owner.World (place_at ws s))) owner.None

-- the names of each scope, and its owner, where the interfaces have these addresses and the worlds those
abbrev pub declarations : List PackageFile → List Address → List Address → Decls
declarations files is ws s = (scope files s, owner_at is ws s)

-- names of a scope as imports: each is the type that it means, at its local name
abbrev pub type_imports : List ScopeName → List (List ℕ × ℕ) → List (WorldKey × WorldItem)
type_imports (x ∷ xs) (t ∷ types) = (key.Name (local_name x), Type_ t.1 (local_id x).span) ∷ type_imports xs types
type_imports _ _ = []

-- what an include renames
abbrev pub renamed : Renaming → IncludeName
renamed n = record { name = n.name.name.now; as_ = n.as_.name.now }

-- the names in the handles of a scope, each with the scope, in the order in which they are resolved
abbrev pub turn_handles : Turned → List (Address × Id)
turn_handles t = map (λ id. (t.address, id)) (all_handles (all_types t.names t.functions))

-- What a name in a handle requires: nothing, where it ends at a resource; where it ends at a name of another package, that type, by the place
-- of its occurrence, and where the name in the handle is written.
abbrev pub HandleRequires : List PackageFile → List Key → Address × Id → Option (ℕ × Span) → Type 0
HandleRequires files ks h None = EndsAt files h.0 h.1 AtResource
HandleRequires files ks h (Some r) = (s : Address) × (name : List ℕ) × EndsAt files h.0 h.1 (AtForeign s name) × (slice_get ks r.0 ≡ Some (Def s name)) × (r.1 ≡ h.1.span)

-- these are what the names in handles require, in order
abbrev pub AreRequired : List PackageFile → List Key → List (Address × Id) → List (ℕ × Span) → Type 0
AreRequired files ks hs rs = (each : List (Option (ℕ × Span))) × AllZip (HandleRequires files ks) hs each × (rs ≡ filter_map (λ r. r) each)

-- what occurs in files: first the names that are used from other packages, then what is in these scopes
abbrev pub all_occurrences : List PackageFile → List Turned → List Occurrence
all_occurrences files ts = map (λ (t : ForeignUse). record { key = Def t.from t.id.name.now; span = t.id.span; given = stability_of t.attributes }) (foreign_uses files) ++ flat_map turn_occurrences ts

-- the entry of an item of another package, with its place among those: the arenas begin with these
abbrev pub foreign_entry : List PackageFile → ForeignVisit → AstItem
foreign_entry fs v = if v.wants_world then entry.World (position_or_len (λ u. same_item u v) (foreign_worlds fs)) else entry.Interface (position_or_len (λ u. same_item u v) (foreign_interfaces fs))

-- an item of another package by its name, with its entry and the stability of each of its visits
abbrev pub dep_item : List PackageFile → ForeignVisit → List ℕ × (AstItem × List Stability)
dep_item files v = (v.id.name.now, (foreign_entry files v, map (λ u. stability_of u.attributes) (filter (λ u. same_address (visited u) (visited v)) (foreign_visits files))))

-- a package with its items
abbrev pub dep : List PackageFile → ForeignVisit → PackageName × List (List ℕ × (AstItem × List Stability))
dep files v = (package_of v.of, map (dep_item files) (filter (λ u. same_package (package_of u.of) (package_of v.of)) (foreign_items files)))

-- the docs of the first of these headers that has some
abbrev pub first_docs : List Header → Docs
first_docs [] = no_docs
first_docs (h ∷ hs) = if length h.docs.docs.items == 0 then first_docs hs else docs_of h.docs

-- the functions of a scope
abbrev pub functions_at : List PackageFile → Address → List SourceFunction
functions_at files s = option_map_or item_functions (item_at (all_scopes files) s) []
