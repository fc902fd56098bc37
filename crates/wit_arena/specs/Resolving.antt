-- What resolving does: to the arena of types, from whatever occurred before, and to those of interfaces and worlds.
use Rattle.std.specs.Prelude.{◌≡◌, ℕ, List, [], ◌∷◌, ◌++◌, length, map, Option, Some, None, ◌⊎◌, slice_get, nat_eq, IsSome, ◌+◌, take, Contains}
use Rattle.wit_arena.specs.Names.{Address, AreDistinct, ForeignUse, Function, Id, Interface, InterfaceNamed, IsOrder, Item, Metadata, PackageFile, ScopeName, Shape, Shapes, SideFunction, SideInline, SideItem, SideLink, SourceFunction, Span, Stability, TypeDef, TypeDefKind, TypeOwner, Unknown, World, WorldNamed, about, address, all_handles, all_types, first_foreign_uses, flat_map, foreign_interfaces, foreign_worlds, functions as item_functions, in_turn, includes, inline_items, insert_entry, local_name, local_names, lookup, metadata, name_types, no_docs, pointwise, rows_of, scope_names, side_items, unwrap_or, visited, written_types, «Type» as Ty, signature, stability_of, WorldInclude, AllDiffer, about_name}
use Rattle.wit_arena.specs.Occurrences.{exprs_of, Key, Def, Occurrence, keys, IsSeen, Collects, Decls, name_occurrences, settled, shape_occurrences, shapes_occurrences, types_of}
use Rattle.wit_arena.specs.UnfoldedTypes.{At}
use Rattle.wit_arena.specs.SourceFunctions.{freestanding_names}
use Rattle.wit_arena.specs.Kind.{IsResource, IsUnknown as IsUnknownEntry, entry_end}
use Rattle.wit_types.specs.declared.types.TypeDefKind.TheVariants.{Unknown as UnknownKind}
use Rattle.wit_arena.specs.Made.{foreign_interface, foreign_world, function_in, include_in, interface_turn, name_places, own_interface, own_world, scope_place, IsEntryOf}
use Rattle.wit_arena.specs.Whole.{owner_at, turn_occurrences}
use Rattle.wit_types.specs.declared.types.TypeOwner.TheVariants as owner
use Rattle.wit_syntax.specs.Shape as shape

-- what occurs in functions: of each in its parameters, and then in its result
abbrev pub all_function_occurrences : Address → List SourceFunction → List Occurrence
all_function_occurrences s fns = flat_map (λ (fn : SourceFunction). flat_map (shape_occurrences s Unknown) (signature fn)) fns

-- a name of another package, where it is used
abbrev pub foreign_use_occurrence : ForeignUse → Occurrence
foreign_use_occurrence t = record { key = Def t.from t.id.name.now; span = t.id.span; given = stability_of t.attributes }

-- what the names of a scope mean
abbrev pub Env : Type 0
Env = List ℕ → Option ℕ

-- a table of names as an environment
abbrev pub Names : Type 0
Names = List (List ℕ × ℕ)

abbrev pub env_of : Names → Env
env_of names name = lookup (pointwise nat_eq name) names

-- the names of a table
abbrev pub names_in : Names → List (List ℕ)
names_in names = map (λ p. p.0) names

-- the names of a scope mean their places
pub record AreNames (ks : List Key) (s : Address) (env : Env) : Type 0 where
  pub present : (name : List ℕ) (i : ℕ) → env name ≡ Some i → slice_get ks i ≡ Some (Def s name)
  pub has : (j : ℕ) (name : List ℕ) → slice_get ks j ≡ Some (Def s name) → (i : ℕ) × (env name ≡ Some i)

-- this gives the place of each of these
pub record GivesPlaces {X : Type 0} (place : X → ℕ) (xs : List X) : Type 0 where
  pub at : (i : ℕ) (x : X) → slice_get xs i ≡ Some x → place x ≡ i

-- The arena is the list of first occurrences: each entry is that of what occurs, over the places of what occurs before it, and a name occurs
-- where a name of its scope is.
pub record IsOccurrence (decls : Decls) (ms : List Occurrence) (es : List TypeDef) : Type 0 where
  pub count : length es ≡ length ms
  pub once : AllDiffer (keys ms)
  pub named : (i : ℕ) (m : Occurrence) (s : Address) (name : List ℕ) → slice_get ms i ≡ Some m → m.key ≡ Def s name → (x : ScopeName) × Contains (decls s).0 x × (local_name x ≡ name) × (m.span ≡ (about_name x).span)
  pub each : (i : ℕ) (m : Occurrence) (e : TypeDef) → slice_get ms i ≡ Some m → slice_get es i ≡ Some e → (id : Key → ℕ) → GivesPlaces id (take i (keys ms)) → IsEntryOf (λ s. (decls s).0) (λ s. (decls s).1) id (take i es) m.key m.span m.given e

-- what occurred, extended by these, with the new arena of it, where something holds of all keys
pub record Extends (decls : Decls) (ms more : List Occurrence) (new : List TypeDef) (Holds : List Key → Type 0) : Type 0 where
  pub now : List Occurrence
  pub collects : Collects ms more now
  pub occurrence : IsOccurrence decls now new
  pub holds : Holds (keys now)

-- From whatever occurred, the new arena is that with what occurs in types that are written in a definition of this stability, and over the places
-- of it they are these.
pub record AreResolved (old new : List TypeDef) (s : Address) (env : Env) (given : Stability) (xs : Shapes) (tys : List Ty) : Type 0 where
  pub from : (decls : Decls) (ms : List Occurrence) → IsOccurrence decls ms old → AreNames (keys ms) s env → Extends decls ms (shapes_occurrences s given xs) new (λ ks. (id : Key → ℕ) → GivesPlaces id ks → tys ≡ types_of id (exprs_of s xs))

-- the unnamed type of a kind and a stability, written at a span
abbrev pub unnamed : TypeDefKind → Stability → Span → TypeDef
unnamed kind known span = record { name = None; kind = kind; owner = owner.None; docs = no_docs; stability = known; span = span; external_id = None }

-- an unnamed type of this kind
pub record IsUnnamedOf (what : TypeDefKind) (e : TypeDef) : Type 0 where
  pub name : e.name ≡ None
  pub kind : e.kind ≡ what

-- the unnamed type of a kind is at a place of the new arena: an old entry, or the one that was added, where this is the stability of the definition that it is in
pub record IsInterned (old new : List TypeDef) (kind : TypeDefKind) (given : Stability) (span : Span) (i : ℕ) : Type 0 where
  pub either : ((new ≡ old) × ((e : TypeDef) × At old i e × IsUnnamedOf kind e)) ⊎ ((new ≡ old ++ unnamed kind (settled old given kind) span ∷ []) × (i ≡ length old) × ((j : ℕ) (e : TypeDef) → At old j e → IsUnnamedOf kind e → ⊥))

-- the named type of an owner, with its metadata
abbrev pub named : TypeOwner → List ℕ → TypeDefKind → Metadata → Span → TypeDef
named o name kind n span = record { name = Some name; kind = kind; owner = o; docs = n.docs; stability = n.stability; span = span; external_id = n.external_id }

-- one entry was added, and its name means it
pub record IsAdded (old new : List TypeDef) (o : TypeOwner) (names names' : Names) (name : List ℕ) (n : Metadata) (span : Span) (kind : TypeDefKind) : Type 0 where
  pub last : new ≡ old ++ named o name kind n span ∷ []
  pub inserted : names' ≡ insert_entry (pointwise nat_eq) names name (length old)

-- a scope has these among its names, and this owner
abbrev pub AreOwned : Decls → TypeOwner → Address → List ScopeName → Type 0
AreOwned decls o s xs = (i : ℕ) (x : ScopeName) → slice_get xs i ≡ Some x → (k : ℕ) × (slice_get (decls s).0 k ≡ Some x) × ((decls s).1 ≡ o)

-- none of these occurred in the scope
pub record AreNew (ks : List Key) (s : Address) (xs : List ScopeName) : Type 0 where
  pub new : (i : ℕ) (x : ScopeName) → slice_get xs i ≡ Some x → IsSeen ks (Def s (local_name x)) → ⊥

-- a scope that was resolved, with what its names mean, and the names of its functions
pub record ResolvedScope : Type 0 where
  pub address : Address
  pub types : Names
  pub functions : List (List ℕ)

-- the written names of an interface's functions that are no resource's
abbrev pub free_functions : Interface → List (List ℕ)
free_functions i = flat_map (λ f. freestanding_names f.1.kind f.1.name) i.functions

-- an interface at an address
abbrev pub resolved_scope_at : Address → Interface → ResolvedScope
resolved_scope_at s i = record { address = s; types = i.types; functions = free_functions i }

-- an interface that was resolved, as a scope
abbrev pub resolved_scope : Interface → ResolvedScope
resolved_scope i = resolved_scope_at (InterfaceNamed (unwrap_or i.name [])) i

-- interfaces that were resolved: at first those of other packages, at these addresses
abbrev pub resolved_scopes : List Address → List Interface → List ResolvedScope
resolved_scopes [] is = map resolved_scope is
resolved_scopes (s ∷ ss) [] = []
resolved_scopes (s ∷ ss) (i ∷ is) = resolved_scope_at s i ∷ resolved_scopes ss is

-- the names of scopes that were resolved mean their places, and the scope is none of them
pub record AreKnown (ks : List Key) (s : Address) (cs : List ResolvedScope) : Type 0 where
  pub names : (t : ℕ) (c : ResolvedScope) → slice_get cs t ≡ Some c → AreNames ks c.address (env_of c.types)
  pub others : (t : ℕ) (c : ResolvedScope) → slice_get cs t ≡ Some c → c.address ≡ s → ⊥

-- From whatever occurred, the new arena is that with what occurs in the names; `cs` are the scopes that they may use.
pub record Defines (old new : List TypeDef) (cs : List ResolvedScope) (o : TypeOwner) (s : Address) (names names' : Names) (xs : List ScopeName) : Type 0 where
  pub from : (decls : Decls) (ms : List Occurrence) → AreOwned decls o s xs → AreDistinct xs → AreNew (keys ms) s xs → AreKnown (keys ms) s cs → IsOccurrence decls ms old → AreNames (keys ms) s (env_of names) → Extends decls ms (flat_map (name_occurrences s) xs) new (λ ks. AreNames ks s (env_of names') × (names_in names' ≡ names_in names ++ local_names xs))

-- a name was put into a table
pub record IsStored (names names' : Names) (name : List ℕ) : Type 0 where
  pub place : ℕ
  pub is : names' ≡ insert_entry (pointwise nat_eq) names name place

-- each of these is in a table of names
pub record HasNames (env : Env) (xs : List ScopeName) : Type 0 where
  pub has : (i : ℕ) (x : ScopeName) → slice_get xs i ≡ Some x → IsSome (env (local_name x))

-- places by name: among these addresses, a name has the place of the one that it is called by
pub record IsNameIndex (called : List ℕ → Address) (all : List Address) (by_name : Names) : Type 0 where
  pub present : (name : List ℕ) (t : ℕ) → env_of by_name name ≡ Some t → slice_get all t ≡ Some (called name)
  pub has : (t : ℕ) (name : List ℕ) → slice_get all t ≡ Some (called name) → IsSome (env_of by_name name)

-- From whatever occurred, the new arena is that with what occurs in functions of a scope, whose names these are, and over the places of it
-- they are these, in source order.
pub record AddsFunctions (old new : List TypeDef) (s : Address) (names : Names) (fns : List SourceFunction) (fs : List Function) : Type 0 where
  pub from : (decls : Decls) (ms : List Occurrence) → IsOccurrence decls ms old → AreNames (keys ms) s (env_of names) → Extends decls ms (all_function_occurrences s fns) new (λ ks. (id : Key → ℕ) → GivesPlaces id ks → fs ≡ map (function_in id s) fns)

-- a type of another package that a handle needs to be a resource, and where it is written
abbrev pub Required : Type 0
Required = ℕ × Span

-- The names in handles, one after another, end at resources or at unknown types, and these are the unknown ones, each where its name is
-- written.
abbrev pub AreEnded : Env → List TypeDef → List Id → List Required → Type 0
AreEnded env es [] rs = rs ≡ []
AreEnded env es (id ∷ ids) rs = (place : ℕ) × (steps : ℕ) × (env id.name.now ≡ Some place) × (((entry_end steps es place ≡ Some IsResource) × AreEnded env es ids rs) ⊎ ((unknown : ℕ) × (rest : List Required) × (entry_end steps es place ≡ Some (IsUnknownEntry unknown)) × (rs ≡ (unknown, id.span) ∷ rest) × AreEnded env es ids rest))

-- shapes, one after another
abbrev pub gathered : List Shape → Shapes
gathered [] = shape.End
gathered (x ∷ xs) = shape.More x (gathered xs)

-- what the names of a scope add to the arena of types, in the order of its table; `cs` are the scopes that they may use
pub record AddsScope (old new : List TypeDef) (cs : List ResolvedScope) (o : TypeOwner) (xs : List ScopeName) (types : Names) : Type 0 where
  pub order : List ℕ
  pub least : IsOrder (rows_of xs) order
  pub distinct : AreDistinct xs
  pub defines : (s : Address) → Defines old new cs o s [] types (in_turn xs order)

-- What an interface adds to the arena of types, where it is at this place, and these are the scopes that it may use: over the places of what
-- occurred it is this one.
pub record AddsInterface (cs : List ResolvedScope) (place : ℕ) (old new : List TypeDef) (added : Interface) (rs : List Required) (item : Item) : Type 0 where
  pub order : List ℕ
  pub least : IsOrder (rows_of (scope_names item)) order
  pub distinct : AreDistinct (scope_names item)
  pub called : added.name ≡ (about item.declared).called
  pub from : (decls : Decls) (ms : List Occurrence) → AreOwned decls (owner.Interface place) (address item) (in_turn (scope_names item) order) → AreNew (keys ms) (address item) (in_turn (scope_names item) order) → AreKnown (keys ms) (address item) cs → IsOccurrence decls ms old → AreNames (keys ms) (address item) (env_of [])
      → Extends decls ms (turn_occurrences (interface_turn (λ i. order) item)) new (λ ks. AreNames ks (address item) (env_of added.types) × ((id : Key → ℕ) → GivesPlaces id ks → added ≡ own_interface id (λ i. order) item))
  pub ended : AreEnded (env_of added.types) new (all_handles (all_types (in_turn (scope_names item) order) (item_functions item))) rs

-- the addresses of worlds: at first of those of other packages
abbrev pub worlds_at : List Address → List World → List Address
worlds_at [] ws = map (λ w. WorldNamed w.name) ws
worlds_at (s ∷ ss) [] = []
worlds_at (s ∷ ss) (w ∷ ws) = s ∷ worlds_at ss ws

-- these are the includes of an item, one each, wherever the worlds have these places
abbrev pub AreIncludes : List Address → Item → List WorldInclude → Type 0
AreIncludes worlds item is = (length is ≡ length (includes item)) × ((ws : List Address) → GivesPlaces (scope_place ws) worlds → is ≡ map (include_in ws item.top) (includes item))

-- the addresses of interfaces: at first of those of other packages
abbrev pub interfaces_at : List Address → List Interface → List Address
interfaces_at foreign is = map (λ c. c.address) (resolved_scopes foreign is)

-- What is on the sides of a world adds to the arenas, one after another, after its names: functions, and the interfaces that are written
-- there, which are these items, after so many others; `cs` are the scopes that these may use.
abbrev pub AddsSides : List ResolvedScope → ℕ → Address → Names → List TypeDef → List TypeDef → List Interface → List Interface → List Function → List Required → List SideItem → List Item → Type 0
AddsSides cs count s names old new is is' fs rs [] inside = (new ≡ old) × (is' ≡ is) × (fs ≡ []) × (rs ≡ [])
AddsSides cs count s names old new is is' fs rs (SideFunction fn ∷ xs) inside = (mid : List TypeDef) × (f : Function) × (more : List Function) × (own : List Required) × (rest : List Required) × (fs ≡ f ∷ more) × (rs ≡ own ++ rest) × AddsFunctions old mid s names (fn ∷ []) (f ∷ []) × AreEnded (env_of names) mid (all_handles (written_types fn)) own × AddsSides cs count s names mid new is is' more rest xs inside
AddsSides cs count s names old new is is' fs rs (SideLink link ∷ xs) inside = AddsSides cs count s names old new is is' fs rs xs inside
AddsSides cs count s names old new is is' fs rs (SideInline x name items ∷ xs) [] = ⊥
AddsSides cs count s names old new is is' fs rs (SideInline x name items ∷ xs) (i ∷ inside) = (mid : List TypeDef) × (added : Interface) × (own : List Required) × (rest : List Required) × (rs ≡ own ++ rest) × AddsInterface cs (count + length is) old mid added own i × AddsSides cs count s names mid new (is ++ added ∷ []) is' fs rest xs inside

-- What a world adds to the arenas, where these are the declared interfaces, and at first those at these addresses: over the places of what it
-- names, and wherever the interfaces and the worlds are, it is this one.
pub record AddsWorld (foreign others : List Address) (is : List Interface) (old new : List TypeDef) (arena arena' : List World) (inside inside' : List Interface) (rs : List Required) (item : Item) : Type 0 where
  pub added : World
  pub last : arena' ≡ arena ++ added ∷ []
  pub types : Names
  pub middle : List TypeDef
  pub adds : AddsScope old middle (resolved_scopes foreign is) (owner.World (length arena)) (scope_names item) types
  pub own : List Required
  pub ended : AreEnded (env_of types) middle (all_handles (flat_map name_types (in_turn (scope_names item) adds.order))) own
  pub functions : List Function
  pub rest : List Required
  pub requires : rs ≡ own ++ rest
  pub sides : AddsSides (resolved_scopes foreign is) (length is) (address item) types middle new inside inside' functions rest (side_items item) (inline_items item)
  pub made : (id : Key → ℕ) → types ≡ name_places id (address item) (in_turn (scope_names item) adds.order) → functions ≡ map (function_in id (address item)) (item_functions item) → (before : List Address) → length before ≡ length inside → (ss ws : List Address) → GivesPlaces (scope_place ss) (interfaces_at foreign is ++ (before ++ map address (inline_items item))) → GivesPlaces (scope_place ws) (worlds_at others arena) → added ≡ own_world id (λ i. adds.order) ss ws item

-- the entry of a name of another package: nothing is known of it but whose it is
abbrev pub foreign_type : List PackageFile → ForeignUse → TypeDef
foreign_type files t = named (owner_at (map visited (foreign_interfaces files)) (map visited (foreign_worlds files)) t.from) t.id.name.now UnknownKind (metadata no_docs t.attributes) t.id.span

-- what other packages' items put before the arenas: the names that are taken from them, and their interfaces and worlds
pub record AddsForeign (files : List PackageFile) (es : List TypeDef) (is : List Interface) (ws : List World) : Type 0 where
  pub types : es ≡ map (foreign_type files) (first_foreign_uses files)
  pub interfaces : (id : Key → ℕ) → GivesPlaces id (keys (map foreign_use_occurrence (first_foreign_uses files))) → is ≡ map (foreign_interface files id) (foreign_interfaces files)
  pub worlds : ws ≡ map foreign_world (foreign_worlds files)
