use Rattle.wit_walk.proofs.Legal.{legal as law}
use Rattle.wit_walk.proofs.laws.faultless_is_legal.Goals as goal

pub returns : goal.returns
returns c = law
