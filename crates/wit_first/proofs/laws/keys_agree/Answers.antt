use Rattle.wit_first.proofs.Bridge.{key_agrees as law}
use Rattle.wit_first.proofs.laws.keys_agree.Goals as goal

pub returns : goal.returns
returns c = law
