use Rattle.std.proofs.Common.{None, inl, inr}
use Rattle.wit_syntax.proofs.Common.{err_from_is_err_and}
use Rattle.wit_files.proofs.Gathering.{items_first, tops_first}
use Rattle.wit_files.proofs.tables.Tables.gather.Goals as goal

pub returns-in_err-names-clause-first : goal.returns-in_err-names-clause-first
returns-in_err-names-clause-first c =
    let q = err_from_is_err_and c.from_residual.result c.from_residual.ensures.1 in
    rw (q.1, q.2) (elim c.in_err-names.ensures.first [ inl memory ↦ inl memory | inr is ↦ inr (items_first c.args.files.now _ is) ])

pub returns-in_err-check_tops-clause-first : goal.returns-in_err-check_tops-clause-first
returns-in_err-check_tops-clause-first c =
    let q = err_from_is_err_and c.from_residual-in_err-check_tops.result c.from_residual-in_err-check_tops.ensures.1 in
    rw (q.1, q.2) (elim c.in_err-check_tops.ensures [ inl memory ↦ inl memory | inr is ↦ inr (tops_first c.args.files.now _ c.in_ok-names.ensures.first is) ])

pub returns-clause-first : goal.returns-clause-first
returns-clause-first c = tops_first c.args.files.now None c.in_ok-names.ensures.first c.in_ok-check_tops.ensures
