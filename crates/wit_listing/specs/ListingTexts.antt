-- Small texts of a listing.
use Rattle.std.specs.Prelude.{◌≡◌, ℕ, List, [], ◌∷◌, ◌++◌, Option, Some, None, String, codes, string_bytes}
use Rattle.std.specs.Fmt.{decimal}
use Rattle.std.specs.declared.alloc.Global.{Global}
use Rattle.wit_values.specs.declared.release.Release.{Release}
use Rattle.wit_values.specs.ReleaseText.{release_text}
use Rattle.wit_types.specs.declared.types.«Type».{«Type» as Ty}
use Rattle.wit_types.specs.declared.types.«Type».TheVariants as ty
use Rattle.wit_types.specs.declared.stability.Stability.{Stability}
use Rattle.wit_types.specs.declared.stability.Stability.TheVariants.{Unknown, Unstable, Stable}

-- the new text is the old one with more after it
abbrev pub Adds : String Global → String Global → List ℕ → Type 0
Adds old new more = string_bytes new ≡ string_bytes old ++ more

-- the word of a primitive type, or `#` and the place of an entry
abbrev pub type_text : Ty → List ℕ
type_text ty.Bool = codes "bool"
type_text ty.U8 = codes "u8"
type_text ty.U16 = codes "u16"
type_text ty.U32 = codes "u32"
type_text ty.U64 = codes "u64"
type_text ty.S8 = codes "s8"
type_text ty.S16 = codes "s16"
type_text ty.S32 = codes "s32"
type_text ty.S64 = codes "s64"
type_text ty.F32 = codes "f32"
type_text ty.F64 = codes "f64"
type_text ty.Char = codes "char"
type_text ty.String = codes "string"
type_text ty.ErrorContext = codes "error-context"
type_text (ty.Id place) = 35 ∷ decimal place

-- a type, or `_` where there is none
abbrev pub optional_text : Option Ty → List ℕ
optional_text None = codes "_"
optional_text (Some t) = type_text t

-- from which version on an item is deprecated
abbrev pub deprecated_text : Option Release → List ℕ
deprecated_text None = []
deprecated_text (Some r) = codes " deprecated " ++ release_text r

-- how stable an item is, where that is known
abbrev pub stability_text : Stability → List ℕ
stability_text Unknown = []
stability_text (Unstable feature deprecated) = codes " unstable " ++ (feature ++ deprecated_text deprecated)
stability_text (Stable since deprecated) = codes " since " ++ (release_text since ++ deprecated_text deprecated)
