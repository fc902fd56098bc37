-- What a stability says.
use Rattle.std.specs.Prelude.{Bool, true, false}
use Rattle.wit_types.specs.declared.stability.Stability.{Stability}
use Rattle.wit_types.specs.declared.stability.Stability.TheVariants as stability

-- no attribute says
abbrev pub is_unknown : Stability → Bool
is_unknown stability.Unknown = true
is_unknown (stability.Unstable feature deprecated) = false
is_unknown (stability.Stable since deprecated) = false

-- there since a version
abbrev pub is_stable : Stability → Bool
is_stable stability.Unknown = false
is_stable (stability.Unstable feature deprecated) = false
is_stable (stability.Stable since deprecated) = true
