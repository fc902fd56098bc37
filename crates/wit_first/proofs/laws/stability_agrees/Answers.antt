use Rattle.wit_first.proofs.Bridge.{stability_agrees as law}
use Rattle.wit_first.proofs.laws.stability_agrees.Goals as goal

pub returns : goal.returns
returns c = law
