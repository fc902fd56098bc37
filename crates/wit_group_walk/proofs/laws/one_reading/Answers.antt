use Rattle.wit_group_walk.proofs.Texts.{one_reading as law}
use Rattle.wit_group_walk.proofs.laws.one_reading.Goals as goal

pub returns : goal.returns
returns c = law
