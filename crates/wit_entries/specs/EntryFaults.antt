-- Where entries of an arena end, the first fault of written types and of definitions, by what the names of a scope mean in it, E15 and E27, and calls that resolve them.
use denote.Ref.{Bor}
use Rattle.std.specs.Prelude.{ℕ, suc, List, Option, Some, None, map, is_none, if◌then◌else◌, ◌≡◌, length, slice_get, [], ◌∷◌, ◌++◌, MatchResult, Result, Vec}
use Rattle.wit_arena.specs.Common.{Address, AreEnded, Defined, Defines, EntryEnd, Env, Fault, Global, Id, IsOther, IsResource, IsStored, IsUnknown, ParseError, Required, ResolvedScope, ScopeName, Stability, TypeDef, TypeDefKind, all_handles, body_types, entry_end, env_of, missing_type_at, no_resource, option_or, stability_at, «Type» as Ty, option_map_or}
use Rattle.wit_type_tree.specs.declared.types.«Type».{«Type» as Written}
use Rattle.wit_type_tree.specs.declared.types.TypeDef.{TypeDef as Definition}
use Rattle.wit_first.specs.AttributeFaults.{metadata_fault}
use Rattle.wit_first.specs.First.{first_in, Reports}
use Rattle.wit_first.specs.ListFaults.{list_fault}
use Rattle.wit_first.specs.TypeFaults.{type_fault}
use Rattle.wit_walk.specs.Functions.{lost_word}
use Rattle.wit_rules.specs.declared.borrowed.BorrowedFunction.{BorrowedFunction}
use Rattle.wit_rules.specs.Signatures.{function_view}
use Rattle.wit_entries.specs.declared.ends.End.{End}
use Rattle.wit_entries.specs.declared.names.TypeScope.{TypeScope}
use Rattle.wit_entries.specs.declared.scope.Scope.{Scope}
use Rattle.wit_types.specs.declared.types.«Type».TheVariants as type
use Rattle.wit_types.specs.declared.types.TypeDefKind.TheVariants as kind
use Rattle.wit_entries.specs.declared.ends.End.TheVariants as end
use Rattle.wit_types.specs.declared.stability.Stability.TheVariants as stability

-- where the entry at a place ends: in these steps it is found for each arena
abbrev pub end_in : List TypeDef → ℕ → Option EntryEnd
end_in es place = entry_end (suc (suc place)) es place

-- a name means nothing: `lost` says which fault that is
abbrev pub name_fault : (Id → Fault) → Env → Id → Option Fault
name_fault lost env id = if is_none (env id.name.now) then Some (lost id) else None

-- one in a handle means nothing, or it ends at something else than a resource
abbrev pub end_fault : Id → Option EntryEnd → Option Fault
end_fault id (Some IsOther) = Some (no_resource id)
end_fault id end = None

abbrev pub handle_fault : (Id → Fault) → Env → List TypeDef → Id → Option Fault
handle_fault lost env es id = option_map_or (λ place. end_fault id (end_in es place)) (env id.name.now) (Some (lost id))

-- of a written type, where `lost` is the fault of a name that means nothing, and of types one after another
abbrev pub written_fault : (Id → Fault) → Env → List TypeDef → Written → Option Fault
written_fault lost env es t = type_fault (name_fault lost env) (handle_fault lost env es) t

-- in the signature of the last of these functions that name is one of theirs, or of nothing; else it is none of a type
abbrev pub lost_in : Option (Bor (List BorrowedFunction)) → Id → Fault
lost_in fns = option_map_or (λ fs. lost_word (map function_view fs.now)) fns missing_type_at

-- of a definition: its attributes first
abbrev pub definition_fault : Env → List TypeDef → Definition → Option Fault
definition_fault env es d = option_or (metadata_fault d.attributes.items) (option_or (list_fault d.body) (first_in (written_fault missing_type_at env es) (body_types d.body)))

-- what an end means
abbrev pub end_means : End → EntryEnd
end_means end.Resource = IsResource
end_means (end.Unknown place) = IsUnknown place
end_means end.Other = IsOther

-- an entry of this kind ends there, if it is the next one: another word for a type where that does
abbrev pub EndsNext : List TypeDef → TypeDefKind → End → Type 0
EndsNext es kind.Resource x = x ≡ end.Resource
EndsNext es kind.Unknown x = x ≡ end.Unknown (length es)
EndsNext es (kind.Type_ (type.Id i)) x = end_in es i ≡ Some (end_means x)
EndsNext es _ x = x ≡ end.Other

-- each entry of an arena ends where it is stated to
pub record AreAsStated (ends : List End) (es : List TypeDef) : Type 0 where
  pub count : length ends ≡ length es
  pub each : (i : ℕ) (e : End) → slice_get ends i ≡ Some e → end_in es i ≡ Some (end_means e)

-- the new arena is the old one and more
pub record IsExtended (old new : List TypeDef) : Type 0 where
  pub more : List TypeDef
  pub is : new ≡ old ++ more

-- what the names in handles require comes after what was required before
pub record Requires (env : Env) (es : List TypeDef) (ids : List Id) (old new : List Required) : Type 0 where
  pub list : List Required
  pub added : new ≡ old ++ list
  pub ended : AreEnded env es ids list

-- Written types were resolved, and nothing is wrong in them: what is made of them is so, the arena has more entries, and what these names in handles
-- require comes after what was required before.
pub record Resolved (env : Env) (old new : List TypeDef) (before after : List Required) (ids : List Id) (wrong : Option Fault) (Made : Type 0) : Type 0 where
  pub made : Made
  pub handled : Requires env new ids before after
  pub extended : IsExtended old new
  pub first : wrong ≡ None

-- or an error reports the first fault of them in the arena, which may have more entries
pub record Stopped (old new : List TypeDef) (wrong : Option Fault) (e : ParseError) : Type 0 where
  pub extended : IsExtended old new
  pub first : Reports wrong e

abbrev pub Resolves : {T : Type 0} → Env → (old new : List TypeDef) → (before after : List Required) → List Id → Option Fault → (T → Type 0) → Result T ParseError → Type 0
Resolves env old new before after ids wrong Made r = MatchResult r (λ x. Resolved env old new before after ids wrong (Made x)) (Stopped old new wrong)

-- a call finds what a name in a handle means: a resource, or a type of another package, which has to be one
abbrev pub FindsResource : TypeScope → List TypeDef → (before after : Vec Required Global) → Id → Result ℕ ParseError → Type 0
FindsResource s es before after id r = Resolves (env_of s.names.now) es es before.items after.items (id ∷ []) (handle_fault (lost_in s.functions) (env_of s.names.now) es id) (λ place. env_of s.names.now id.name.now ≡ Some place) r

-- names were added to a scope, which are these
abbrev pub AddsIn : List ResolvedScope → Scope → Scope → List TypeDef → List TypeDef → List ScopeName → Type 0
AddsIn cs a b old new xs = (s : Address) → Defines old new cs a.owner s a.names b.names xs

-- a call adds a definition to a scope, after what is in it
abbrev pub DefinesOne : {T : Type 0} → Scope → Scope → (old new : List TypeDef) → Definition → Result T ParseError → Type 0
DefinesOne a b old new d r = Resolves (env_of a.names) old new a.required.items b.required.items (all_handles (body_types d.body)) (definition_fault (env_of a.names) new d) (λ _. ((cs : List ResolvedScope) → AddsIn cs a b old new (Defined d ∷ [])) × (b.owner ≡ a.owner) × IsStored a.names b.names d.name.name.now) r

-- a stability, where it is known
abbrev pub known : Stability → Option Stability
known stability.Unknown = None
known s = Some s

-- the stability of what is in a slot of a kind; of an empty one none is known
abbrev pub slot_stability : List TypeDef → Option Ty → Stability
slot_stability es t = option_map_or (stability_at es) t stability.Unknown
