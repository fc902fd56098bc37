use Rattle.wit_tool.proofs.FaultLines.{line_is as law}
use Rattle.wit_group_walk.proofs.laws.line_is_of_fault.Goals as goal

pub returns : goal.returns
returns c = law
