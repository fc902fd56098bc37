use Rattle.wit_group_walk.proofs.Lines.{one_line as law}
use Rattle.wit_group_walk.proofs.laws.one_line_of_fault.Goals as goal

pub returns : goal.returns
returns c = law
