-- The futures and streams of a signature, each after those below it.
use Rattle.std.specs.Prelude.{ℕ, zero, suc, ◌++◌, ◌||◌, Bool, true, false, List, [], ◌∷◌, Option, Some, None, length, slice_get}
use Rattle.std.specs.List.{flat_map, list_any}
use Rattle.wit_types.specs.InnerTypes.{place_of_slot, slots}
use Rattle.wit_functions.specs.declared.function.Function.{Function}
use Rattle.wit_types.specs.declared.types.TypeDef.{TypeDef}
use Rattle.wit_types.specs.declared.types.TypeDefKind.{TypeDefKind}
use Rattle.wit_types.specs.declared.types.TypeDefKind.TheVariants as kind
use Rattle.wit_types.specs.declared.types.«Type».{«Type» as Ty}

-- a future or a stream
abbrev pub is_awaited : TypeDefKind → Bool
is_awaited (kind.Future t) = true
is_awaited (kind.Stream t) = true
is_awaited (kind.Record r) = false
is_awaited kind.Resource = false
is_awaited (kind.Handle h) = false
is_awaited (kind.Flags f) = false
is_awaited (kind.Tuple t) = false
is_awaited (kind.Variant v) = false
is_awaited (kind.Enum e) = false
is_awaited (kind.Option t) = false
is_awaited (kind.Result r) = false
is_awaited (kind.List t) = false
is_awaited (kind.Map k v) = false
is_awaited (kind.FixedLengthList t n) = false
is_awaited (kind.Type_ t) = false
is_awaited kind.Unknown = false

-- a type of another package
abbrev pub is_unknown : TypeDefKind → Bool
is_unknown kind.Unknown = true
is_unknown (kind.Future t) = false
is_unknown (kind.Stream t) = false
is_unknown (kind.Record r) = false
is_unknown kind.Resource = false
is_unknown (kind.Handle h) = false
is_unknown (kind.Flags f) = false
is_unknown (kind.Tuple t) = false
is_unknown (kind.Variant v) = false
is_unknown (kind.Enum e) = false
is_unknown (kind.Option t) = false
is_unknown (kind.Result r) = false
is_unknown (kind.List t) = false
is_unknown (kind.Map k v) = false
is_unknown (kind.FixedLengthList t n) = false
is_unknown (kind.Type_ t) = false

-- the place, where the entry is a future or a stream
abbrev pub itself : Bool → ℕ → List ℕ
itself true i = i ∷ []
itself false i = []

-- what the entry at a place gives: that of its slots, and then itself
abbrev pub given : (Option Ty → List ℕ) → ℕ → Option TypeDef → List ℕ
given under i None = []
given under i (Some d) = flat_map under (slots d.kind) ++ itself (is_awaited d.kind) i

-- the same of a place that may be left out
abbrev pub given_at : List TypeDef → (Option Ty → List ℕ) → Option ℕ → List ℕ
given_at types under None = []
given_at types under (Some i) = given under i (slice_get types i)

-- the futures and streams in a slot, at most n entries deep
abbrev pub futures : List TypeDef → ℕ → Option Ty → List ℕ
futures types zero slot = []
futures types (suc n) slot = given_at types (futures types n) (place_of_slot slot)

-- the futures and streams of a signature: of each parameter, and then of the result
abbrev pub futures_of : List TypeDef → Function → List ℕ
futures_of types f = flat_map (λ p. futures types (length types) (Some p.ty)) f.params ++ futures types (length types) f.result

abbrev pub unknown_in : (Option Ty → Bool) → Option TypeDef → Bool
unknown_in under None = false
unknown_in under (Some d) = is_unknown d.kind || list_any under (slots d.kind)

abbrev pub unknown_at : List TypeDef → (Option Ty → Bool) → Option ℕ → Bool
unknown_at types under None = false
unknown_at types under (Some i) = unknown_in under (slice_get types i)

-- a type of another package is in a slot, at most n entries deep
abbrev pub has_unknown : List TypeDef → ℕ → Option Ty → Bool
has_unknown types zero slot = false
has_unknown types (suc n) slot = unknown_at types (has_unknown types n) (place_of_slot slot)

-- a type of another package is in a signature or below it
abbrev pub reaches_unknown : List TypeDef → Function → Bool
reaches_unknown types f = list_any (λ p. has_unknown types (length types) (Some p.ty)) f.params || has_unknown types (length types) f.result
