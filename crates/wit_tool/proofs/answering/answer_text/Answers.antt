use Rattle.std.proofs.Common.{◌≡◌}
use Rattle.wit_arena.proofs.Common.{err_from_is_err_and}
use Rattle.wit_tool.proofs.Outputs.{fails_size, writes_size, writes_text}
use Rattle.wit_tool.proofs.answering.answer_text.Goals as goal

pub returns-in-Ok-clause-output : goal.returns-in-Ok-clause-output
returns-in-Ok-clause-output g c = writes_text _ c.in-Ok.map.sources.items _ _ c.run.result c.in-Ok.ensures.fits c.in-Ok.ensures.laid c.run.ensures.output

pub returns-in_err-error_line-in-Err-clause-output : goal.returns-in_err-error_line-in-Err-clause-output
returns-in_err-error_line-in-Err-clause-output g c =
    let rule : c.in-Err.fault.rule ≡ 52 = cc (c.rule.ensures, c.if-rule-ne52.false) in
    let p = err_from_is_err_and c.from_residual.result c.from_residual.ensures.1 in
    rw (p.1, p.2) (fails_size _ _ c.in-Err.fault _ _ c.in_err-error_line-in-Err.field-0.0 c.new.ensures.sources rule c.in-Err.ensures.too_large c.in_err-error_line-in-Err.ensures)

pub returns-in_ok-error_line-in-Err-clause-output : goal.returns-in_ok-error_line-in-Err-clause-output
returns-in_ok-error_line-in-Err-clause-output g c =
    let rule : c.in-Err.fault.rule ≡ 52 = cc (c.rule.ensures, c.if-rule-ne52.false) in
    writes_size _ c.in-Err.fault _ _ rule c.in-Err.ensures.too_large (rw c.new.ensures.sources at c.in_ok-error_line-in-Err.ensures)
