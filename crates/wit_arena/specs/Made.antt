-- The package that files make, as a value.
use Rattle.std.specs.Prelude.{if◌then◌else◌, ◌≡◌, ◌↔◌, ℕ, Bool, true, List, [], ◌∷◌, ◌++◌, length, map, take, Option, Some, None, Contains, slice_get}
use Rattle.wit_arena.specs.Names.{Address, Constructor, Exported, ExternalId, ForeignUse, ForeignVisit, Freestanding, Function, FunctionKind, Id, Imported, Include, Interface, IsOrder, Item, Metadata, Method, OnSide, PackageFile, Role, ScopeName, SideFunction, SideInline, SideItem, SideLink, SourceFunction, SourceParam, Span, Stability, Static, TopName, TypeDef, TypeDefKind, TypeOwner, UnresolvedPackage, World, WorldInclude, WorldItem, WorldKey, WorldNamed, WorldSide, about, about_name, address, all_items, all_params, all_scopes, declared_metadata, docs_of, filter_map, first_foreign_uses, first_known, firsts, flat_map, foreign_interfaces, foreign_packages, foreign_worlds, functions, headers, in_order, in_turn, includes, inline_items, interfaces_of, members, item_rows, last_header, leads, local_id, local_name, no_docs, option_map, package_of, path_id, path_scope, placed, position_or_len, role_side, rows_of, same_side, scope, scope_names, stability_of, stated_text, target_scope, unwrap_or, visited, worlds_of, metadata}
use Rattle.wit_tree.specs.declared.tree.PackageName.{PackageName as Header}
use Rattle.wit_types.specs.declared.types.TypeOwner.TheVariants as owner
use Rattle.wit_functions.specs.declared.function.FunctionKind.TheVariants as kind
use Rattle.wit_model.specs.declared.world.WorldKey.TheVariants as key
use Rattle.wit_model.specs.declared.world.WorldItem.TheVariants as item
use Rattle.wit_arena.specs.Kind.{kind_of}
use Rattle.wit_arena.specs.Occurrences.{expr_of, name_exprs, Key, Def, Whole, Occurrence, stability_at, type_of, types_of}
use Rattle.wit_arena.specs.SourceFunctions.{kinds_of, link_item, inline_entry, settled}
use Rattle.wit_arena.specs.Whole.{Turned, turn_handles, all_occurrences, AreRequired, place_at, owner_at, dep, renamed, first_docs}

-- an entry of the arena of types: one of this name, if it has one, in a scope of this owner, of which this is stated, which is there
abbrev pub entry : Option (List ℕ) → TypeOwner → Metadata → Span → TypeDefKind → TypeDef
entry name owner n span kind = record { name = name; kind = kind; owner = owner; docs = n.docs; stability = n.stability; external_id = n.external_id; span = span }

-- The entry of what occurs, after these. That of a name of a scope has the form that the name means, over the types of its parts, and what is
-- stated of the name. That of an unnamed type has its form over those of its parts, and the first known of the stability that it occurs with and of theirs.
abbrev pub IsEntryOf : (Address → List ScopeName) → (Address → TypeOwner) → (Key → ℕ) → List TypeDef → Key → Span → Stability → TypeDef → Type 0
IsEntryOf names owner_of id es (Def s name) span given e = (x : ScopeName) × (kind : TypeDefKind) × Contains (names s) x × (local_name x ≡ name)
    × (kind_of kind ≡ ((about_name x).body.form, types_of id (name_exprs s x))) × (e ≡ entry (Some name) (owner_of s) (about_name x).metadata span kind)
IsEntryOf names owner_of id es (Whole form parts) span given e = (kind : TypeDefKind) × (kind_of kind ≡ (form, types_of id parts))
    × (e ≡ entry None owner.None (record { docs = no_docs; stability = first_known (given ∷ map (stability_at es) (types_of id parts)); external_id = None }) span kind)

-- the names of a scope, with their places
abbrev pub name_places : (Key → ℕ) → Address → List ScopeName → List (List ℕ × ℕ)
name_places id s xs = map (λ x. (local_name x, id (Def s (local_name x)))) xs

-- the kind of a function of a role, where this gives the place of a resource
abbrev pub role_kind : (Id → ℕ) → Role → FunctionKind
role_kind place (Freestanding name form) = (kinds_of form).freestanding
role_kind place (Method of form) = (kinds_of form).method (place of)
role_kind place (Static of form) = (kinds_of form).static (place of)
role_kind place (Constructor of) = kind.Constructor (place of)
role_kind place (OnSide side name form) = (kinds_of form).freestanding

-- a written function of a scope, over the types of the package
abbrev pub function_in : (Key → ℕ) → Address → SourceFunction → Function
function_in id s fn = record {
  name = fn.name;
  kind = role_kind (λ of. id (Def s of.name.now)) fn.role;
  span = fn.span;
  params = map (λ (x : SourceParam). record { name = x.name; ty = type_of id (expr_of s x.shape); span = x.span }) (all_params fn);
  result = option_map (λ x. type_of id (expr_of s x)) fn.result;
  docs = docs_of fn.docs;
  stability = stability_of fn.attributes;
  external_id = stated_text ExternalId fn.attributes;
}

-- an interface of this name, if it has one, with these types and functions, of which this is stated, which is there
abbrev pub interface : Option (List ℕ) → List (List ℕ × ℕ) → List (List ℕ × Function) → Metadata → Span → Interface
interface name types functions n span = record { name = name; types = types; functions = functions; docs = n.docs; stability = n.stability; «package» = None; span = span; clone_of = None }

-- an interface of another package, where a path first leads to it, with the names that are used from it
abbrev pub foreign_interface : List PackageFile → (Key → ℕ) → ForeignVisit → Interface
foreign_interface files id v = interface None (name_places id (visited v) (scope files (visited v))) [] (metadata no_docs []) v.id.span

-- the names of an item as they are resolved: the used ones, and then the definitions in their order
abbrev pub names_in_turn : (Item → List ℕ) → Item → List ScopeName
names_in_turn order i = in_turn (scope_names i) (order i)

-- an interface of files, with its names in turn, and with its functions, each setter that is written before its getter directly after it
abbrev pub own_interface : (Key → ℕ) → (Item → List ℕ) → Item → Interface
own_interface id order i = interface (about i.declared).called (name_places id (address i) (names_in_turn order i)) (placed Some (map (λ fn. (fn.name, function_in id (address i) fn)) (functions i))) (declared_metadata i.declared) (about i.declared).id.span

-- the place of a scope among these
abbrev pub scope_place : List Address → Address → ℕ
scope_place ss s = unwrap_or (place_at ss s) 0

-- what is on a side of a world, with that side, where this makes its functions and the interfaces have these scopes
abbrev pub member_entries : (SourceFunction → Function) → List Address → List TopName → SideItem → List Item → List (WorldSide × (WorldKey × WorldItem))
member_entries function ss top (SideFunction fn) is = (role_side fn.role, (key.Name fn.name, item.Function (function fn))) ∷ []
member_entries function ss top (SideLink link) is = (link.side, link_item link (scope_place ss (path_scope top link.path))) ∷ []
member_entries function ss top (SideInline x name items) is = map (λ i. (x.side, inline_entry x name (scope_place ss (address i)))) is

-- those on a side
abbrev pub entries_on : WorldSide → List (WorldSide × (WorldKey × WorldItem)) → List (WorldKey × WorldItem)
entries_on side es = filter_map (λ e. if same_side side e.0 then Some e.1 else None) es

-- the names of a world as imports: each is the type that it means, at its local name
abbrev pub name_imports : (Key → ℕ) → Address → List ScopeName → List (WorldKey × WorldItem)
name_imports id s xs = map (λ x. (key.Name (local_name x), item.Type_ (id (Def s (local_name x))) (local_id x).span)) xs

-- an include, where the worlds have these scopes
abbrev pub include_in : List Address → List TopName → Include → WorldInclude
include_in ss top n = record { stability = stability_of n.attributes.items; id = scope_place ss (target_scope WorldNamed (leads top n.from)); names = map renamed n.names.items; span = (path_id n.from).span }

-- a world of this name, with these imports, exports and includes, of which this is stated, which is there
abbrev pub world : List ℕ → List (WorldKey × WorldItem) → List (WorldKey × WorldItem) → List WorldInclude → Metadata → Span → World
world name imports exports includes n span = record { name = name; imports = imports; exports = exports; «package» = None; docs = n.docs; stability = n.stability; includes = includes; span = span }

-- a world of another package, where a path first leads to it
abbrev pub foreign_world : ForeignVisit → World
foreign_world v = world [] [] [] [] (metadata no_docs []) v.id.span

-- what is on the sides of a world, where the interfaces have these scopes
abbrev pub world_entries : (Key → ℕ) → List Address → Item → List (WorldSide × (WorldKey × WorldItem))
world_entries id ss i = flat_map (λ m. member_entries (function_in id (address i)) ss i.top m.0 m.1) (members i)

-- a world of files, where the interfaces have these scopes and the worlds those: it imports its names in turn, and then what is on that side
abbrev pub own_world : (Key → ℕ) → (Item → List ℕ) → List Address → List Address → Item → World
own_world id order ss ws i = world (about i.declared).id.name.now
    (settled (includes i) (name_imports id (address i) (names_in_turn order i) ++ entries_on Imported (world_entries id ss i)))
    (settled (includes i) (entries_on Exported (world_entries id ss i))) (map (include_in ws i.top) (includes i)) (declared_metadata i.declared) (about i.declared).id.span

-- an interface, as it is resolved: whole
abbrev pub interface_turn : (Item → List ℕ) → Item → Turned
interface_turn order i = record { address = address i; names = names_in_turn order i; functions = functions i }

-- what is on a side of a world, as it is resolved: a function, by itself, or an interface that is written there, whole
abbrev pub member_turns : (Item → List ℕ) → Address → SideItem → List Item → List Turned
member_turns order s (SideFunction fn) is = record { address = s; names = []; functions = fn ∷ [] } ∷ []
member_turns order s x is = map (interface_turn order) is

-- a world, as it is resolved: its names, and then what is on its sides
abbrev pub turns_of_world : (Item → List ℕ) → Item → List Turned
turns_of_world order i = record { address = address i; names = names_in_turn order i; functions = [] } ∷ flat_map (λ m. member_turns order (address i) m.0 m.1) (members i)

-- interfaces and then worlds, as they are resolved
abbrev pub item_turns : (Item → List ℕ) → List Item → List Turned
item_turns order is = map (interface_turn order) (interfaces_of is) ++ flat_map (turns_of_world order) (worlds_of is)

-- the interfaces of the package: the declared ones, and then those that are written in worlds
abbrev pub own_interfaces : List Item → List Item
own_interfaces is = interfaces_of is ++ flat_map inline_items (worlds_of is)

-- the scopes of the interfaces, those of other packages first, and of the worlds
abbrev pub interface_scopes : List PackageFile → List Item → List Address
interface_scopes files is = map visited (foreign_interfaces files) ++ map address (own_interfaces is)

abbrev pub world_scopes : List PackageFile → List Item → List Address
world_scopes files is = map visited (foreign_worlds files) ++ map address (worlds_of is)

-- The package has the name and the version of the last header, and the docs of the first that has some. Its arenas of interfaces and of worlds
-- begin with the items of other packages, in the order of their first visits; then come the declared ones in the least order, and after the
-- interfaces the inline ones, in the order of the worlds and of their items. Its arena of types is the list of first occurrences: of what is used
-- from other packages, then of all declared interfaces, then of all worlds, each with its used names, its definitions in their order, and its
-- functions in source order; an inline interface is whole where its world imports or exports it.
pub record Makes (files : List PackageFile) (p : UnresolvedPackage) : Type 0 where
  pub name : option_map package_of (last_header files) ≡ Some p.name
  pub name_span : option_map (λ (h : Header). h.span) (last_header files) ≡ Some p.name_span
  pub docs : p.docs ≡ first_docs (headers files)
  pub deps : p.foreign_deps ≡ map (dep files) (foreign_packages files)
  pub dep_spans : p.foreign_dep_spans ≡ map (λ (v : ForeignVisit). v.of.span) (foreign_packages files)
  pub unknown : p.unknown_type_spans ≡ map (λ (t : ForeignUse). t.id.span) (first_foreign_uses files)
  -- the items of files, each after those that it needs, in the least such order
  pub items : List Item
  pub in_order : (places : List ℕ) × IsOrder (item_rows files) places × (items ≡ in_order (all_items files) places)
  pub order : Item → List ℕ
  pub by_address : (i j : Item) → address i ≡ address j → order i ≡ order j
  -- each scope has the least order in which its definitions come after those that they name
  pub names_in_order : (i : Item) → Contains (all_scopes files) i → IsOrder (rows_of (scope_names i)) (order i)
  -- a test of whether two are one and the same
  pub same : Key → Key → Bool
  pub gives : (a b : Key) → (same a b ≡ true) ↔ (a ≡ b)
  pub seen : List Occurrence
  pub first : seen ≡ firsts (λ a b. same a.key b.key) (all_occurrences files (item_turns order items))
  pub id : Key → ℕ
  pub places : (k : Key) → id k ≡ position_or_len (λ (m : Occurrence). same k m.key) seen
  pub count : length p.types ≡ length seen
  pub types : (n : ℕ) (m : Occurrence) (e : TypeDef) → slice_get seen n ≡ Some m → slice_get p.types n ≡ Some e → IsEntryOf (scope files) (owner_at (interface_scopes files items) (world_scopes files items)) id (take n p.types) m.key m.span m.given e
  pub interfaces : p.interfaces ≡ map (foreign_interface files id) (foreign_interfaces files) ++ map (own_interface id order) (own_interfaces items)
  pub worlds : p.worlds ≡ map foreign_world (foreign_worlds files) ++ map (own_world id order (interface_scopes files items) (world_scopes files items)) (worlds_of items)
  -- the types of other packages that must be resources: those at which names in handles end, of all interfaces and then of all worlds
  pub required : AreRequired files (map (λ (m : Occurrence). m.key) seen) (flat_map turn_handles (item_turns order items)) p.required_resource_types
