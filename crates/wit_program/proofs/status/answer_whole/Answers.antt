use Rattle.std.specs.declared.io.Error.{Error}
use Rattle.std.proofs.lemmas.Result.{err_from_is_err_and}
use Rattle.std.specs.Prelude.{Ok}
use Rattle.wit_tool.specs.Output.{IsPrinted}
use Rattle.wit_program.proofs.Kept.{ended, failed, writes_kept}
use Rattle.wit_program.proofs.status.answer_whole.Goals as goal

pub returns-in_err-listed : goal.returns-in_err-listed
returns-in_err-listed g c =
    let p = err_from_is_err_and c.from_residual.result c.from_residual.ensures.1 in
    failed _ _ _ c.answer_text.result c.from_residual.result p.0 p.1 c.answer_text.ensures.output

pub returns-in_err-flush : goal.returns-in_err-flush
returns-in_err-flush g c =
    let p = err_from_is_err_and c.from_residual-in_err-flush.result c.from_residual-in_err-flush.ensures.1 in
    failed _ _ _ c.answer_text.result c.from_residual-in_err-flush.result p.0 p.1 (writes_kept (IsPrinted c.args.text.now) (g.W.Write.contents c.args.out.now) (g.W.Write.contents c.answer_text.new.out) _ c.answer_text.result c.answer_text.ensures.output c.flush.ensures.bytes)

pub returns : goal.returns
returns g c = rw c.is_some-is_listing.ensures (ended Error _ _ _ c.in_ok-listed.listed (writes_kept (IsPrinted c.args.text.now) (g.W.Write.contents c.args.out.now) (g.W.Write.contents c.answer_text.new.out) _ (Ok c.in_ok-listed.listed) c.in_ok-listed.ensures.output c.flush.ensures.bytes))
