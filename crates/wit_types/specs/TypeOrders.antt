-- How types and stabilities are ordered.
use Rattle.std.specs.Prelude.{ℕ, ◌+◌, List}
use Rattle.std.specs.Option.{option_cmp}
use Rattle.std.specs.Ordering.{nat_cmp, ordering_then}
use Rattle.std.specs.declared.cmp.Ordering.{Ordering}
use Rattle.std.specs.declared.cmp.Ordering.TheVariants as ordering
use Rattle.std.specs.Cmp.Lexicographic.{slice_cmp}
use Rattle.wit_values.specs.ReleaseOrder.{release_cmp}
use Rattle.wit_types.specs.declared.stability.Stability.{Stability}
use Rattle.wit_types.specs.declared.stability.Stability.TheVariants as stability
use Rattle.wit_types.specs.declared.types.«Type».{«Type» as Ty}
use Rattle.wit_types.specs.declared.types.«Type».TheVariants as ty

-- where a type is in the list of all: the primitives, and then the entries of an arena
abbrev pub listed : Ty → ℕ
listed ty.Bool = 0
listed ty.U8 = 1
listed ty.U16 = 2
listed ty.U32 = 3
listed ty.U64 = 4
listed ty.S8 = 5
listed ty.S16 = 6
listed ty.S32 = 7
listed ty.S64 = 8
listed ty.F32 = 9
listed ty.F64 = 10
listed ty.Char = 11
listed ty.String = 12
listed ty.ErrorContext = 13
listed (ty.Id i) = 14 + i

-- types as they are listed, entries by their places
abbrev pub type_cmp : Ty → Ty → Ordering
type_cmp a b = nat_cmp (listed a) (listed b)

-- texts byte by byte, and where one is the other's prefix the shorter first
abbrev pub text_cmp : List ℕ → List ℕ → Ordering
text_cmp = slice_cmp nat_cmp

-- what no attribute says, then what is unstable, then what is stable; each by its fields
abbrev pub stability_cmp : Stability → Stability → Ordering
stability_cmp stability.Unknown stability.Unknown = ordering.Equal
stability_cmp stability.Unknown (stability.Unstable g e) = ordering.Less
stability_cmp stability.Unknown (stability.Stable s e) = ordering.Less
stability_cmp (stability.Unstable f d) stability.Unknown = ordering.Greater
stability_cmp (stability.Unstable f d) (stability.Unstable g e) = ordering_then (text_cmp f g) (option_cmp release_cmp d e)
stability_cmp (stability.Unstable f d) (stability.Stable s e) = ordering.Less
stability_cmp (stability.Stable r d) stability.Unknown = ordering.Greater
stability_cmp (stability.Stable r d) (stability.Unstable g e) = ordering.Greater
stability_cmp (stability.Stable r d) (stability.Stable s e) = ordering_then (release_cmp r s) (option_cmp release_cmp d e)
