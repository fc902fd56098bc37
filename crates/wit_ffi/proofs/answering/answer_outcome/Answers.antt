use Rattle.wit_ffi.proofs.Answers.{answer_of}
use Rattle.wit_ffi.proofs.answering.answer_outcome.Goals as goal

pub returns-in-Ok : goal.returns-in-Ok
returns-in-Ok c parts is = answer_of parts c.args.outcome.now is c.status_of.result c.in-Ok.json.items c.status_of.ensures c.in-Ok.ensures
