use Rattle.wit_group_walk.proofs.Plain.{one_plain as law}
use Rattle.wit_group_walk.proofs.laws.one_plain.Goals as goal

pub returns : goal.returns
returns c = law
