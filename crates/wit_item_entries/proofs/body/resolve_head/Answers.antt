use Rattle.wit_items.proofs.Common.{err_from_is_err_and, none_both, reports_back, reports_prefix}
use Rattle.wit_item_entries.proofs.body.resolve_head.Goals as goal

pub returns-clause-adds : goal.returns-clause-adds
returns-clause-adds c =
    rw c.requires.named at c.in_ok-names.ensures.adds

pub returns-in_err-metadata-clause-first : goal.returns-in_err-metadata-clause-first
returns-in_err-metadata-clause-first c =
    let p = err_from_is_err_and c.from_residual.result c.from_residual.ensures.1 in
    rw (p.1, p.2) (λ outcome right handle along. reports_prefix _ c.in_err-metadata.ensures.first)

pub returns-in_err-names-clause-first : goal.returns-in_err-names-clause-first
returns-in_err-names-clause-first c =
    let p = err_from_is_err_and c.from_residual-in_err-names.result c.from_residual-in_err-names.ensures.1 in
    rw (p.1, p.2) (λ outcome right handle along. reports_back c.in_ok-metadata.ensures.first (c.in_err-names.ensures.first outcome right handle along))

pub returns-clause-first : goal.returns-clause-first
returns-clause-first c = λ outcome right handle along. none_both c.in_ok-metadata.ensures.first (c.in_ok-names.ensures.first outcome right handle along)
