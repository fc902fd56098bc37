use Rattle.wit_arena.proofs.Backward.{ids_backward}
use Rattle.wit_parser.proofs.PartsMade.{faithful_of_made}
use Rattle.wit_parser.proofs.laws.ids_point_backward.Goals as goal

pub returns : goal.returns
returns c files legal made = (let p = c.args.«package».now in ids_backward files p (faithful_of_made files p legal made))
