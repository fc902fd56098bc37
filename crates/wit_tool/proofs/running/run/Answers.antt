use Rattle.wit_tool.proofs.Outputs.{writes_line, writes_listing}
use Rattle.wit_tool.proofs.running.run.Goals as goal

pub returns-in-Ok-clause-output : goal.returns-in-Ok-clause-output
returns-in-Ok-clause-output g c = writes_listing _ c.in-Ok.group _ _ c.list.result c.in-Ok.ensures.group c.list.ensures

pub returns-in-Err-clause-output : goal.returns-in-Err-clause-output
returns-in-Err-clause-output g c = writes_line _ c.in-Err.fault _ _ c.refuse.result c.in-Err.ensures.first (rw c.in-Err.ensures.returned at c.refuse.ensures)
