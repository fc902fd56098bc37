use Rattle.wit_syntax.proofs.Common.{err_from_is_err_and, file_items}
use Rattle.wit_first.specs.FileFaults.{paths_fault}
use Rattle.wit_first.specs.First.{first_in}
use Rattle.wit_first.proofs.First.{none_both, reports_back, reports_prefix}
use Rattle.wit_files.proofs.tables.Tables.add_file.Goals as goal

pub returns-in_err-top-clause-first : goal.returns-in_err-top-clause-first
returns-in_err-top-clause-first c =
    let p = err_from_is_err_and c.from_residual-in_err-top.result c.from_residual-in_err-top.ensures.1 in
    rw (p.1, p.2) (λ is all. reports_prefix (first_in (paths_fault is) (file_items c.args.file.now)) c.in_err-top.ensures.first)

pub returns-in_err-add_items-clause-first : goal.returns-in_err-add_items-clause-first
returns-in_err-add_items-clause-first c =
    let p = err_from_is_err_and c.from_residual-in_err-add_items.result c.from_residual-in_err-add_items.ensures.1 in
    rw (p.1, p.2) (λ is all. reports_back c.in_ok-top.ensures.first (c.in_err-add_items.ensures.first is all))

pub returns-clause-first : goal.returns-clause-first
returns-clause-first c = λ is all. none_both c.in_ok-top.ensures.first (c.in_ok-add_items.ensures.first is all)

pub returns-clause-tops : goal.returns-clause-tops
returns-clause-tops c = record { top = c.in_ok-top.top; last = c.in_ok-push.ensures.items; named = c.in_ok-top.ensures.named }
