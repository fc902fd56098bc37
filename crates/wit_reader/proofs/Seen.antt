-- What types of several parts say.
use Rattle.std.proofs.Common.{◌≡◌, map, Vec, refl, rules, ap}
use Rattle.std.specs.declared.alloc.Global.{Global}
use Rattle.wit_values.specs.declared.span.Span.{Span}
use Rattle.wit_type_tree.specs.declared.types.«Type».{«Type» as Written, Tuple, Row_of-Type, end_of-Type, more_of-Type, items-the_row-Type, the_lemmas}
use Rattle.wit_type_tree.specs.declared.types.ResultTypes.{ResultTypes, Neither, Ok', Err', Both'}
use Rattle.wit_grammar.specs.Trees.{and, result, tuple, tys}
use Rattle.wit_grammar.specs.Seen.{see_type, see_row, see_result}
use Rattle.wit_reader.specs.ResultTypes.{see_result_types}

seen_row : (n : _) (row : Row_of-Type n) → see_row row ≡ tys (map see_type (items-the_row-Type n row))
seen_row n end_of-Type = refl
seen_row n (more_of-Type t rest) = ap (and (see_type t)) (seen_row _ rest)

pub seen_tuple : (span : Span) (v : Vec Written Global) → see_type (Tuple span v) ≡ tuple span (tys (map see_type v.items))
seen_tuple span v = search (rules, the_lemmas, seen_row)

pub seen_result : (span : Span) (types : ResultTypes) → see_result span types ≡ result span (see_result_types types).0 (see_result_types types).1
seen_result span Neither = refl
seen_result span (Ok' p t) = refl
seen_result span (Err' p t) = refl
seen_result span (Both' p t q u) = refl
