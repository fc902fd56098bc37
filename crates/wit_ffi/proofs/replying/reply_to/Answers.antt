use Rattle.wit_ffi.specs.Reply.IsReply.{Text}
use Rattle.wit_ffi.proofs.replying.reply_to.Goals as goal

pub returns-in-Ok-Some : goal.returns-in-Ok-Some
returns-in-Ok-Some c =
    let text = c.in-Ok.ensures.cases in
    let w = rw (text.0, c.new-output.ensures.items, c.in-Ok-Some.field-0-is) at c.in-Ok-Some.ensures.output in
    Text text.1 (rw w.2 w.1)

pub returns-in-Ok-None : goal.returns-in-Ok-None
returns-in-Ok-None c =
    let text = c.in-Ok.ensures.cases in
    let w = rw (text.0, c.new-output.ensures.items, c.in-Ok-None.field-0-is) at c.in-Ok-None.ensures.output in
    Text text.1 (rw w.2 w.1)
