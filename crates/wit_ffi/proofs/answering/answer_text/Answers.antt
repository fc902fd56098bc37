use Rattle.wit_bundle.specs.Bundle.{sources_of}
use Rattle.wit_ffi.proofs.answering.answer_text.Goals as goal

pub returns-in-Ok : goal.returns-in-Ok
returns-in-Ok c = c.answer_outcome.ensures (sources_of c.args.text.now) c.in-Ok.ensures
