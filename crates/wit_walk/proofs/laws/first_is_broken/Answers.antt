use Rattle.wit_walk.proofs.Broken.{broken as law}
use Rattle.wit_walk.proofs.laws.first_is_broken.Goals as goal

pub returns : goal.returns
returns c = law
