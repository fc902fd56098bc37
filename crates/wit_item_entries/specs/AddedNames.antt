-- What the names of a scope add to the arena, one after another, in the order in which they are resolved.
use Rattle.std.specs.Prelude.{◌≡◌, List, [], map, ℕ, ◌++◌, ◌∷◌}
use Rattle.wit_arena.specs.Common.{Address, AddsScope, AreDistinct, Defines, Id, IsOrder, Names, Required, ResolvedScope, ScopeName, TypeDef, TypeOwner, all_handles, env_of, flat_map, in_turn, local_id, local_names, name_types, names_in, rows_of, used, local_name}
use Rattle.wit_entries.specs.EntryFaults.{AddsIn, Requires}
use Rattle.wit_entries.specs.declared.scope.Scope.{Scope}
use Rattle.wit_scopes.specs.BorrowedNames.{use_view}
use Rattle.wit_scopes.specs.declared.scope_name.UsedName.{UsedName}
use Rattle.wit_items.specs.ResolvedInterfaces.{resolved_scopes_of}
use Rattle.wit_items.specs.declared.interfaces.Interfaces.{Interfaces}

-- the names of a scope were added, these are they in turn, and this is what its handles require
pub record AddsTurn (old new : List TypeDef) (cs : List ResolvedScope) (o : TypeOwner) (xs : List ScopeName) (types : Names) (ids : List Id) (required : List Required) : Type 0 where
  pub adds : AddsScope old new cs o xs types
  pub turn : ids ≡ map local_id (in_turn xs adds.order)
  pub listed : names_in types ≡ local_names (in_turn xs adds.order)
  pub handled : Requires (env_of types) new (all_handles (flat_map name_types (in_turn xs adds.order))) [] required

-- this is what the handles of definitions require that were added to a scope
abbrev pub DefinitionsRequire : Scope → Scope → List TypeDef → List ScopeName → Type 0
DefinitionsRequire a b new ds = Requires (env_of b.names) new (all_handles (flat_map name_types ds)) a.required.items b.required.items

-- its definitions were added after the names that it uses, which were added from an arena on: all its names were, which are these in turn
abbrev pub AddsRest : Scope → Scope → List TypeDef → List TypeDef → List ScopeName → List Id → Type 0
AddsRest a b old new xs ids = (first : List TypeDef) (cs : List ResolvedScope) → ((s : Address) → Defines first old cs a.owner s [] a.names (used xs)) → a.required.items ≡ [] → AddsTurn first new cs a.owner xs b.names ids b.required.items

-- a used name was added to a scope, after its names
abbrev pub AddsUsed : Interfaces → Scope → Scope → List TypeDef → List TypeDef → UsedName → Type 0
AddsUsed is a b old new u = AddsIn (resolved_scopes_of is) a b old new (use_view u ∷ []) × (names_in b.names ≡ names_in a.names ++ local_name (use_view u) ∷ [])

-- these are the names of a scope as they are resolved
pub record IsTurn (xs : List ScopeName) (ids : List Id) : Type 0 where
  pub order : List ℕ
  pub least : IsOrder (rows_of xs) order
  pub distinct : AreDistinct xs
  pub are : ids ≡ map local_id (in_turn xs order)

-- what is required comes after what was required before
pub record Appends (old new : List Required) (P : List Required → Type 0) : Type 0 where
  pub own : List Required
  pub list : new ≡ old ++ own
  pub holds : P own
