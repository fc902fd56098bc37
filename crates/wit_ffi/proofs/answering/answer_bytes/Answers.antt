use Rattle.wit_ffi.specs.Answer.IsTextAnswer.{Text}
use Rattle.wit_ffi.proofs.answering.answer_bytes.Goals as goal

pub returns-in-Ok : goal.returns-in-Ok
returns-in-Ok c =
    let text = c.in-Ok.ensures.cases in
    Text text.1 (rw text.0 at c.answer_text.ensures)
