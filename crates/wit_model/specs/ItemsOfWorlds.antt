-- What an item of a world says.
use Rattle.std.specs.Prelude.{ℕ, List, ◌++◌, ◌<◌, Bool, false, Option, Some, None, ⊤, codes, length, nat_eq, slice_get}
use Rattle.std.specs.Cmp.Lexicographic.{pointwise}
use Rattle.std.specs.Fmt.{decimal}
use Rattle.std.specs.Option.{option_map}
use Rattle.wit_values.specs.declared.span.Span.{Span}
use Rattle.wit_functions.specs.declared.function.Function.{Function}
use Rattle.wit_types.specs.declared.stability.Stability.{Stability}
use Rattle.wit_types.specs.declared.types.TypeDef.{TypeDef}
use Rattle.wit_model.specs.declared.world.WorldItem.{WorldItem}
use Rattle.wit_model.specs.declared.world.WorldItem.TheVariants as item
use Rattle.wit_model.specs.declared.world.WorldKey.{WorldKey}
use Rattle.wit_model.specs.declared.world.WorldKey.TheVariants as key

-- the name of a key, if it is one
abbrev pub name_of : WorldKey → Option (List ℕ)
name_of (key.Name name) = Some name
name_of (key.Interface i) = None

-- the key is this name
abbrev pub is_name : List ℕ → WorldKey → Bool
is_name name (key.Name own) = pointwise nat_eq name own
is_name name (key.Interface i) = false

-- the name, or `interface-` and the place
abbrev pub key_text : WorldKey → List ℕ
key_text (key.Name name) = name
key_text (key.Interface i) = codes "interface-" ++ decimal i

-- a type's place is in the arena
abbrev pub IsWithin : WorldItem → List TypeDef → Type 0
IsWithin (item.Interface id stability external_id docs span) types = ⊤
IsWithin (item.Function f) types = ⊤
IsWithin (item.Type_ id span) types = id < length types

-- its own stability, that of the function or of the type
abbrev pub stability_of : WorldItem → List TypeDef → Option Stability
stability_of (item.Interface id stability external_id docs span) types = Some stability
stability_of (item.Function f) types = Some f.stability
stability_of (item.Type_ id span) types = option_map (λ d. d.stability) (slice_get types id)

-- its own span or that of the function
abbrev pub span_of : WorldItem → Span
span_of (item.Interface id stability external_id docs span) = span
span_of (item.Function f) = f.span
span_of (item.Type_ id span) = span

-- the function, if it is one
abbrev pub function_of : WorldItem → Option Function
function_of (item.Function f) = Some f
function_of _ = None
