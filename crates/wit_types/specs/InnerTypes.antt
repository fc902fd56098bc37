-- The types that a type is made of, and where they are.
use Rattle.std.specs.Prelude.{◌≡◌, ℕ, ◌+◌, ◌≤◌, All, List, [], ◌∷◌, Option, Some, None, map, slice_get}
use Rattle.wit_types.specs.declared.types.TypeDef.{TypeDef}
use Rattle.wit_types.specs.declared.types.TypeDefKind.{TypeDefKind}
use Rattle.wit_types.specs.declared.types.TypeDefKind.TheVariants as kind
use Rattle.wit_types.specs.declared.types.Handle.{Handle}
use Rattle.wit_types.specs.declared.types.Handle.TheVariants as handle
use Rattle.wit_types.specs.declared.types.«Type».{«Type» as Ty}
use Rattle.wit_types.specs.declared.types.«Type».TheVariants as ty

-- the place in the arena, if it is no primitive
abbrev pub place_of : Ty → Option ℕ
place_of (ty.Id i) = Some i
place_of _ = None

-- the same of a type that may be left out
abbrev pub place_of_slot : Option Ty → Option ℕ
place_of_slot None = None
place_of_slot (Some t) = place_of t

-- how many places reach up to this one
abbrev pub places_to : Option ℕ → ℕ
places_to None = 0
places_to (Some i) = i + 1

-- how many entries an arena needs at least to have the type
abbrev pub rank : Option Ty → ℕ
rank slot = places_to (place_of_slot slot)

-- the slots of a kind where a type can be, in written order; a handle's resource is no slot
abbrev pub slots : TypeDefKind → List (Option Ty)
slots (kind.Record r) = map (λ f. Some f.ty) r.fields
slots (kind.Tuple t) = map (λ p. Some p) t.types
slots (kind.Variant v) = map (λ c. c.ty) v.cases
slots (kind.Option t) = Some t ∷ []
slots (kind.Result r) = r.ok ∷ r.err ∷ []
slots (kind.List t) = Some t ∷ []
slots (kind.Map k v) = Some k ∷ Some v ∷ []
slots (kind.FixedLengthList t n) = Some t ∷ []
slots (kind.Future t) = t ∷ []
slots (kind.Stream t) = t ∷ []
slots (kind.Type_ t) = Some t ∷ []
slots _ = []

-- the place of a handle's resource
abbrev pub handled : Handle → ℕ
handled (handle.Own i) = i
handled (handle.Borrow i) = i

-- the place of the resource, of a handle
abbrev pub handled_of : TypeDefKind → Option ℕ
handled_of (kind.Handle h) = Some (handled h)
handled_of _ = None

-- every id in the kind is below a place
abbrev pub IsBelow : ℕ → TypeDefKind → Type 0
IsBelow k d = All (λ t. rank t ≤ k) (slots d) × (places_to (handled_of d) ≤ k)

-- every id in a kind is below the entry's own place
abbrev pub IsBackward : List TypeDef → Type 0
IsBackward types = (k : ℕ) (d : TypeDef) → slice_get types k ≡ Some d → IsBelow k d.kind
