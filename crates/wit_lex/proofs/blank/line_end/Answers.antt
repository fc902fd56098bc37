use Rattle.wit_lex.proofs.LineEnds.{line_found, line_last}
use Rattle.wit_lex.proofs.blank.line_end.Goals as goal

pub returns-in-Some : goal.returns-in-Some
returns-in-Some c = line_found c.args.bytes.now c.args.from c.in-Some.count c.requires c.in-Some.ensures

pub returns-in-None : goal.returns-in-None
returns-in-None c = line_last c.args.bytes.now c.args.from c.requires c.in-None.ensures
