use Rattle.std.proofs.Common.{◌+◌, ◌-◌, ◌*◌, length}
use Rattle.wit_lex.specs.declared.kind.Kind.TheVariants.{OpenAngle, CloseAngle}
use Rattle.wit_grammar.specs.Grammar.{run, listed}
use Rattle.wit_grammar.specs.Rules.{types}
use Rattle.wit_grammar.specs.Seen.{see_type}
use Rattle.wit_reader.specs.Reading.{spot}
use Rattle.wit_reader.proofs.Lists.{IsListing}
use Rattle.wit_reader.proofs.reader.Reader.+types.Given as goal

abbrev pub decreases-read_type : goal.decreases-read_type
decreases-read_type l = 6 * l.left

abbrev pub decreases-read_boxed : goal.decreases-read_boxed
decreases-read_boxed l = 6 * l.left + 1

abbrev pub decreases-read_boxed_before : goal.decreases-read_boxed_before
decreases-read_boxed_before l = 6 * l.left + 2

abbrev pub decreases-read_payload : goal.decreases-read_payload
decreases-read_payload l = 6 * l.left + 3

abbrev pub decreases-read_error_type : goal.decreases-read_error_type
decreases-read_error_type l = 6 * l.left + 3

abbrev pub decreases-read_types : goal.decreases-read_types
decreases-read_types l = 6 * l.left + 3

abbrev pub decreases-read_result_types : goal.decreases-read_result_types
decreases-read_result_types l = 6 * l.left + 4

abbrev pub decreases-read_list : goal.decreases-read_list
decreases-read_list l = 6 * l.left + 5

abbrev pub decreases-read_map : goal.decreases-read_map
decreases-read_map l = 6 * l.left + 5

abbrev pub decreases-read_option : goal.decreases-read_option
decreases-read_option l = 6 * l.left + 5

abbrev pub decreases-read_result : goal.decreases-read_result
decreases-read_result l = 6 * l.left + 5

abbrev pub decreases-read_tuple : goal.decreases-read_tuple
decreases-read_tuple l = 6 * l.left + 5

abbrev pub decreases-read_future : goal.decreases-read_future
decreases-read_future l = 6 * l.left + 5

abbrev pub decreases-read_stream : goal.decreases-read_stream
decreases-read_stream l = 6 * l.left + 5

abbrev pub invariant-read_types-types : goal.invariant-read_types-types
invariant-read_types-types l =
    IsListing see_type (run (types l.fn.left)) CloseAngle l.fn.self (run (listed OpenAngle CloseAngle (types l.fn.left)) (spot l.fn.self)) l.types.items l.more l.self

abbrev pub decreases-read_types-types : goal.decreases-read_types-types
decreases-read_types-types l = length l.fn.self.source.now - l.self.before
