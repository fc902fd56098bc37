use Rattle.std.proofs.Common.{◌∙◌, string_bytes}
use Rattle.std.proofs.lemmas.Result.{err_from_is_err_and}
use Rattle.wit_program.proofs.Kept.{of_read, unread}
use Rattle.wit_program.proofs.status.answer_input.Goals as goal

pub returns-in_err-text : goal.returns-in_err-text
returns-in_err-text g c =
    let p = err_from_is_err_and c.from_residual.result c.from_residual.ensures.1 in
    unread (g.R.Read.remaining c.args.input) _ c.from_residual.result p.0 p.1

pub returns : goal.returns
returns g c = of_read (g.R.Read.remaining c.args.input) (string_bytes c.in_ok-text.text) c.as_str.result.now _ _ _ c.in_ok-text.ensures (c.as_str.ensures.value ∙ c.shrink_to_fit.ensures.bytes) c.answer_whole.ensures
