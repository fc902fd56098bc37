use Rattle.std.proofs.lemmas.Result.{err_from_is_err_and}
use Rattle.wit_package_program.proofs.Kept.{unread}
use Rattle.wit_package_program.proofs.status.answer_input.Goals as goal

pub returns-in_err-text : goal.returns-in_err-text
returns-in_err-text g c =
    let p = err_from_is_err_and c.from_residual.result c.from_residual.ensures.1 in
    unread (g.R.Read.remaining c.args.input) _ c.from_residual.result p.0 p.1
