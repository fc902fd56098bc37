use Rattle.wit_parser.proofs.PartsMade.{arena_of_made, faithful_of_made}
use Rattle.wit_parser.proofs.laws.packages_are_faithful.Goals as goal

pub returns-clause-arena : goal.returns-clause-arena
returns-clause-arena c files = arena_of_made files c.args.«package».now

pub returns-clause-faithful : goal.returns-clause-faithful
returns-clause-faithful c files = faithful_of_made files c.args.«package».now
