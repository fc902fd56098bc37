use Rattle.wit_parser.proofs.Ids.{ids_within}
use Rattle.wit_parser.proofs.laws.ids_are_within.Goals as goal

pub returns : goal.returns
returns c files legal made = ids_within files c.args.«package».now legal made
