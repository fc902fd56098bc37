use Rattle.wit_ffi.proofs.answering.answer_parts.Goals as goal

pub returns-in-Ok : goal.returns-in-Ok
returns-in-Ok c = c.answer_found.ensures c.args.bytes.now c.args.lens.now c.in-Ok.ensures
