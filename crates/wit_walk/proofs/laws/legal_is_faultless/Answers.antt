use Rattle.wit_walk.proofs.Legal.{faultless as law}
use Rattle.wit_walk.proofs.laws.legal_is_faultless.Goals as goal

pub returns : goal.returns
returns c = law
