use Rattle.wit_lex.proofs.LineEnds.{end_found, end_last}
use Rattle.wit_lex.proofs.place.line_end.Goals as goal

pub returns-in-Some : goal.returns-in-Some
returns-in-Some c = end_found c.args.text.now c.args.at c.in-Some.count c.requires c.in-Some.ensures

pub returns-in-None : goal.returns-in-None
returns-in-None c = end_last c.args.text.now c.args.at c.requires c.in-None.ensures
