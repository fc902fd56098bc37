-- What the resolver holds by reference: names of a scope, used names and definitions, and interfaces of other packages at their places.
use Rattle.std.specs.Prelude.{◌≡◌, ◌++◌, ◌∷◌, [], List, Some, ⊤, map, slice_get, ℕ}
use Rattle.wit_scopes.specs.declared.definition_order.Turn.{Turn}
use Rattle.wit_scopes.specs.declared.scope_name.UsedName.{UsedName}
use denote.Ref.{Bor}
use Rattle.wit_type_tree.specs.declared.types.TypeDef.{TypeDef}
use Rattle.wit_scopes.specs.declared.scope_name.Lent.{Lent}
use Rattle.wit_scopes.specs.declared.scope_name.Named.{Named}
use Rattle.wit_scopes.specs.declared.scope_name.Source.{Source as BorrowedSource}
use Rattle.wit_arena.specs.Common.{Address, Defined, ForeignNamed, InterfaceNamed, ScopeName, Used, local_id, package_of}
use Rattle.wit_scopes.specs.declared.scope_name.Named.TheVariants as borrowed
use Rattle.wit_scopes.specs.declared.scope_name.Source.TheVariants as borrowed_source

-- the scope that a used name comes from
abbrev pub source_view : BorrowedSource → Address
source_view (borrowed_source.Declared id) = InterfaceNamed id.name.now
source_view (borrowed_source.Foreign id of name) = ForeignNamed (package_of of.now) name.name.now

-- the used name that is borrowed
abbrev pub use_view : UsedName → ScopeName
use_view u = Used (source_view u.from) u.attributes.now u.name.now

-- the definition that is borrowed
abbrev pub definition_view : Lent (Bor TypeDef) → ScopeName
definition_view d = Defined d.definition.now

-- the names of a turn: the used ones, and then those of its definitions
abbrev pub AreIdsOf : List UsedName → Turn → Type 0
AreIdsOf uses t = t.ids.items ≡ map local_id (map use_view uses ++ map definition_view t.definitions.items)

-- a borrowed name of a scope
abbrev pub Borrowed : Type 0
Borrowed = Named UsedName (Lent (Bor TypeDef))

-- the name of a scope that is borrowed
abbrev pub name_view : Borrowed → ScopeName
name_view (borrowed.Used u) = use_view u
name_view (borrowed.Defined d) = definition_view d

-- the used name that it is, if it is one
abbrev pub own_use : Borrowed → List UsedName
own_use (borrowed.Used u) = u ∷ []
own_use (borrowed.Defined d) = []

-- a used name comes from a declared interface, or from the one of another package at its place
abbrev pub IsPlaced : List Address → BorrowedSource → Type 0
IsPlaced prefix (borrowed_source.Declared id) = ⊤
IsPlaced prefix (borrowed_source.Foreign id of name) = slice_get prefix id ≡ Some (ForeignNamed (package_of of.now) name.name.now)

-- a used name is from a declared interface, or from that of another package at its place
abbrev pub IsNamePlaced : List Address → Borrowed → Type 0
IsNamePlaced prefix (borrowed.Used u) = IsPlaced prefix u.from
IsNamePlaced prefix (borrowed.Defined d) = ⊤

-- so is each of these names
pub record AreNamesPlaced (prefix : List Address) (names : List Borrowed) : Type 0 where
  pub each : (k : ℕ) (x : Borrowed) → slice_get names k ≡ Some x → IsNamePlaced prefix x
