use Rattle.wit_walk.proofs.One.{one_first as law}
use Rattle.wit_walk.proofs.laws.one_first.Goals as goal

pub returns : goal.returns
returns c = law
