use Rattle.wit_walk.proofs.Decided.{decided as law}
use Rattle.wit_walk.proofs.laws.legal_or_first.Goals as goal

pub returns : goal.returns
returns c = law
