-- What is said of types in a row, and of a type that is there or not, is said of them as a list.
use Rattle.std.proofs.Common.{◌≡◌, ◌∷◌, Some, None, Option, refl, ap, Vec, Box, rules}
use Rattle.std.specs.declared.alloc.Global.{Global}
use Rattle.wit_values.specs.declared.span.Span.{Span}
use Rattle.wit_type_tree.specs.declared.types.«Type».{«Type» as Written, Tuple, Row_of-Type, end_of-Type, more_of-Type, items-the_row-Type, back-Type-Future-1, the_lemmas}
use Rattle.wit_type_tree.specs.TypeParts.{row_types, part_types, borrowed_types, boxed_types}

types_of_row : (n : _) (row : Row_of-Type n) → row_types row ≡ items-the_row-Type n row
types_of_row n end_of-Type = refl
types_of_row n (more_of-Type t rest) = ap (λ ts. t ∷ ts) (types_of_row _ rest)

-- the parts of a tuple
pub tuple_types : (span : Span) (v : Vec Written Global) → part_types (Tuple span v) ≡ v.items
tuple_types span v = search (rules, the_lemmas, types_of_row)

-- a type that is there or not
pub types_of_borrowed : (t : Option (Box Written Global)) → borrowed_types (back-Type-Future-1 t) ≡ boxed_types t
types_of_borrowed None = refl
types_of_borrowed (Some b) = refl
