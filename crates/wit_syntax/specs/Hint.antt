-- Hints: what may be wrong with the name of a type that is missing.
use Rattle.std.specs.Prelude.{ℕ, List, ◌++◌, Option, Some, None, codes, string_bytes, cond}
use Rattle.std.specs.Option.{option_map}
use Rattle.std.specs.Str.{bytes_eq}
use Rattle.wit_type_tree.specs.declared.error.ParseErrorKind.{ParseErrorKind}
use Rattle.wit_type_tree.specs.declared.error.ParseErrorKind.TheVariants.{ItemNotFound}

-- the hint that a refusal gives
abbrev pub hint_of : ParseErrorKind → Option (List ℕ)
hint_of (ItemNotFound span name kind hint) = option_map string_bytes hint
hint_of _ = None

-- a type has another name now
abbrev pub renamed : List ℕ → List ℕ → List ℕ
renamed old new = codes "the `" ++ (old ++ (codes "` type has been renamed to `" ++ (new ++ codes "` and is no longer accepted, but the `WIT_REQUIRE_F32_F64=0` environment variable can be used to temporarily disable this error")))

-- the hint that a missing type's name gets
abbrev pub type_hint : List ℕ → Option (List ℕ)
type_hint name = cond (bytes_eq name (codes "float32")) (Some (renamed (codes "float32") (codes "f32"))) (cond (bytes_eq name (codes "float64")) (Some (renamed (codes "float64") (codes "f64"))) None)
