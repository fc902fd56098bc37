use Rattle.wit_grammar.proofs.Whole.{read_is_spelled}
use Rattle.wit_text.proofs.Outcomes.{fault_of, no_other, none_spelled, stops_within}
use Rattle.wit_text.proofs.file.read_file.Goals as goal

pub returns-in-Ok-clause-spelled : goal.returns-in-Ok-clause-spelled
returns-in-Ok-clause-spelled c = read_is_spelled _ _ _ (rw c.in-Ok.is at c.read_source.ensures.reads)

pub returns-in-Ok-clause-only : goal.returns-in-Ok-clause-only
returns-in-Ok-clause-only c = λ tree k. no_other _ _ _ tree (rw c.in-Ok.is at c.read_source.ensures.reads) k

pub returns-in-Err-clause-only : goal.returns-in-Err-clause-only
returns-in-Err-clause-only c = λ tree k. none_spelled _ _ c.in-Err.e _ (rw c.in-Err.is at c.read_source.ensures.stops) c.refusal.ensures.as_stated tree k

pub returns-in-Err-clause-refused : goal.returns-in-Err-clause-refused
returns-in-Err-clause-refused c = fault_of _ _ c.in-Err.e _ (rw c.in-Err.is at c.read_source.ensures.stops) c.refusal.ensures.as_stated

pub refusal-requires-clause-within : goal.refusal-requires-clause-within
refusal-requires-clause-within c = stops_within _ c.args.offset c.in-Err.e (rw c.in-Err.is at c.read_source.ensures.stops)
