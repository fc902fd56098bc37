use Rattle.wit_parser.proofs.FunctionMarks.{functions_marked}
use Rattle.wit_parser.proofs.laws.functions_have_marks.Goals as goal

pub returns : goal.returns
returns c files is = functions_marked files c.args.«package».now is
