use Rattle.wit_first.proofs.Bridge.{list_agrees as law}
use Rattle.wit_first.proofs.laws.lists_agree.Goals as goal

pub returns : goal.returns
returns c = law
