use Rattle.std.specs.declared.io.Error.{Error}
use Rattle.std.proofs.lemmas.Result.{err_from_is_err_and}
use Rattle.wit_package_program.proofs.Kept.{ended_kept, failed, failed_kept}
use Rattle.wit_package_program.proofs.status.answer_whole.Goals as goal

pub returns-in_err-outcome : goal.returns-in_err-outcome
returns-in_err-outcome g c =
    let p = err_from_is_err_and c.from_residual.result c.from_residual.ensures.1 in
    failed _ _ _ c.answer_text.result c.from_residual.result p.0 p.1 c.answer_text.ensures

pub returns-in_err-flush : goal.returns-in_err-flush
returns-in_err-flush g c =
    let p = err_from_is_err_and c.from_residual-in_err-flush.result c.from_residual-in_err-flush.ensures.1 in
    failed_kept _ _ _ _ c.answer_text.result c.from_residual-in_err-flush.result p.0 p.1 c.answer_text.ensures c.flush.ensures.bytes

pub returns : goal.returns
returns g c = rw c.is_group-made.ensures (ended_kept Error _ _ _ _ c.in_ok-outcome.outcome c.in_ok-outcome.ensures c.flush.ensures.bytes)
