-- The first fault of the key of a map: E26.
use Rattle.std.specs.Prelude.{Bool, true, false, if◌then◌else◌, Option, None, Some}
use Rattle.wit_values.specs.declared.span.Span.{Span}
use Rattle.wit_type_tree.specs.declared.types.Primitive.TheVariants as primitive
use Rattle.wit_type_tree.specs.declared.types.«Type».{«Type» as Written}
use Rattle.wit_type_tree.specs.declared.types.«Type».TheVariants as written
use Rattle.wit_syntax.specs.Fault.{Fault, fault}

-- a map may have keys of a primitive type, but of no float and no context of errors
abbrev pub is_key : Written → Bool
is_key (written.Primitive span primitive.F32) = false
is_key (written.Primitive span primitive.F64) = false
is_key (written.Primitive span primitive.ErrorContext) = false
is_key (written.Primitive span p) = true
is_key _ = false

-- the key of a map is written as another type
abbrev pub key_fault : Written → Span → Option Fault
key_fault key span = if is_key key then None else Some (fault 26 span)
