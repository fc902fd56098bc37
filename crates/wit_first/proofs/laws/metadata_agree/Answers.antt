use Rattle.wit_first.proofs.Bridge.{metadata_agree as law}
use Rattle.wit_first.proofs.laws.metadata_agree.Goals as goal

pub returns : goal.returns
returns c = law
