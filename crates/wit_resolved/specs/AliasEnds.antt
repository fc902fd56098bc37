-- Where a chain of aliases ends.
use Rattle.std.specs.Prelude.{◌≡◌, ℕ, List, Option, Some, None, IsSomeAnd, MatchOption, slice_get}
use Rattle.std.specs.Option.{option_and_then}
use Rattle.wit_types.specs.InnerTypes.{handled_of, place_of}
use Rattle.wit_types.specs.declared.types.TypeDef.{TypeDef}
use Rattle.wit_types.specs.declared.types.TypeDefKind.{TypeDefKind}
use Rattle.wit_types.specs.declared.types.TypeDefKind.TheVariants as kind

-- the place of the type that a kind is an alias of
abbrev pub aliased : TypeDefKind → Option ℕ
aliased (kind.Type_ t) = place_of t
aliased _ = None

-- the same of the type at a place
abbrev pub aliased_at : List TypeDef → ℕ → Option ℕ
aliased_at types place = option_and_then (λ (e : TypeDef). aliased e.kind) (slice_get types place)

-- the type at a place is, or is an alias of, another one, through any number of aliases
pub data IsAlias (types : List TypeDef) (from : ℕ) : ℕ → Type 0 where
  Here : IsAlias types from from
  On : (at next : ℕ) → IsAlias types from at → aliased_at types at ≡ Some next → IsAlias types from next

-- this type ends a chain of aliases: it is an alias of no other
pub record IsEnd (types : List TypeDef) (from end : ℕ) : Type 0 where
  pub alias : IsAlias types from end
  pub last : aliased_at types end ≡ None

-- the type that the handle at a place names
abbrev pub handled_at : List TypeDef → ℕ → Option ℕ
handled_at types place = option_and_then (λ (e : TypeDef). handled_of e.kind) (slice_get types place)

-- the end of the type that the handle at a place names; none if the type there is no handle
abbrev pub IsResourceOf : List TypeDef → ℕ → Option ℕ → Type 0
IsResourceOf types place found = MatchOption (handled_at types place) (found ≡ None) (λ named. IsSomeAnd found (IsEnd types named))
