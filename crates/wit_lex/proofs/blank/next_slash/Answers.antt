use Rattle.wit_lex.proofs.LineEnds.{slash_found, no_slash}
use Rattle.wit_lex.proofs.blank.next_slash.Goals as goal

pub returns-in-Some-clause-found : goal.returns-in-Some-clause-found
returns-in-Some-clause-found c = slash_found c.args.bytes.now c.args.from c.in-Some.count c.requires c.in-Some.ensures

pub returns-in-None-clause-none : goal.returns-in-None-clause-none
returns-in-None-clause-none c = no_slash c.args.bytes.now c.args.from c.requires c.in-None.ensures
