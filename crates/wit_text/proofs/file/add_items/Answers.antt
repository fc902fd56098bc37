use Rattle.std.proofs.Common.{rules}
use Rattle.std.proofs.lemmas.Result.{err_from_is_err_and}
use Rattle.wit_text.proofs.FileBeginning.{items_closed, items_more, items_opened, items_stop}
use Rattle.wit_text.proofs.file.add_items.Goals as goal

pub items-init : goal.items-init
items-init c = items_opened _ _ _

pub items-preserved : goal.items-preserved
items-preserved c = items_more c.items.invariant (search rules) c.in_ok-add_item.ensures.adds

pub returns-clause-adds : goal.returns-clause-adds
returns-clause-adds c = items_closed c.items.invariant (search rules)

pub returns-in_err-add_item-clause-stops : goal.returns-in_err-add_item-clause-stops
returns-in_err-add_item-clause-stops c =
    let p = err_from_is_err_and c.from_residual.result c.from_residual.ensures.1 in
    rw (p.1, p.2) (items_stop c.in_err-add_item.field-0.0 c.items.invariant (search rules) c.in_err-add_item.ensures.stops)
