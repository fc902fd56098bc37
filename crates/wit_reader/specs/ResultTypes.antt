-- The types that a result is written with.
use Rattle.wit_type_tree.specs.declared.types.ResultTypes.{ResultTypes, Neither, Ok', Err', Both'}
use Rattle.wit_grammar.specs.Seen.{see_type}
use Rattle.wit_grammar.specs.Trees.{Perhaps, nothing, this}

-- that of the value and that of the error
abbrev pub see_result_types : ResultTypes → Perhaps × Perhaps
see_result_types Neither = (nothing, nothing)
see_result_types (Ok' p t) = (this (see_type t), nothing)
see_result_types (Err' p t) = (nothing, this (see_type t))
see_result_types (Both' p t q u) = (this (see_type t), this (see_type u))
