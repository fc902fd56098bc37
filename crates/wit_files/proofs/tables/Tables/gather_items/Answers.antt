use Rattle.std.proofs.Common.{None, inl, inr}
use Rattle.wit_syntax.proofs.Common.{err_from_is_err_and}
use Rattle.wit_first.specs.OrderFaults.{IsItemOrderFault, items_prefix, names_prefix}
use Rattle.wit_first.proofs.First.{reports_prefix}
use Rattle.wit_first.proofs.OrderFaults.{reports_or}
use Rattle.wit_files.proofs.Gathering.{after_visits}
use Rattle.wit_files.proofs.tables.Tables.gather_items.Goals as goal

pub returns-in_err-names-clause-first : goal.returns-in_err-names-clause-first
returns-in_err-names-clause-first c =
    let p = err_from_is_err_and c.from_residual.result c.from_residual.ensures.1 in
    let files = c.args.files.now in
    rw (p.1, p.2) (reports_or (IsItemOrderFault files) (names_prefix files) _ (reports_prefix (items_prefix files) c.in_err-names.ensures.first))

pub returns-in_err-add_all-clause-first : goal.returns-in_err-add_all-clause-first
returns-in_err-add_all-clause-first c =
    let p = err_from_is_err_and c.from_residual-in_err-add_all.result c.from_residual-in_err-add_all.ensures.1 in
    rw (p.1, p.2) (elim c.in_err-add_all.ensures.first [ inl memory ↦ inl memory | inr is ↦ inr (after_visits c.args.files.now _ c.in_ok-names.ensures.first is) ])

pub returns-clause-first : goal.returns-clause-first
returns-clause-first c = after_visits c.args.files.now None c.in_ok-names.ensures.first c.in_ok-add_all.ensures.first
