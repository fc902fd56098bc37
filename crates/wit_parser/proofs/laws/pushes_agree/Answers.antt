use Rattle.wit_parser.proofs.Pushing.{push_agrees as law}
use Rattle.wit_parser.proofs.laws.pushes_agree.Goals as goal

pub returns : goal.returns
returns c = law
