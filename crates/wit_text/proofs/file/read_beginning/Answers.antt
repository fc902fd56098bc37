use Rattle.std.proofs.Common.{rules, refl}
use Rattle.std.proofs.lemmas.Result.{err_from_is_err_and}
use Rattle.wit_text.proofs.FileBeginning.{begun, begun_by_item, item_stops, package_stops}
use Rattle.wit_text.proofs.file.read_beginning.Goals as goal

pub returns-then-at_word-clause-adds : goal.returns-then-at_word-clause-adds
returns-then-at_word-clause-adds c = begun (search rules) c.in_ok-header.ensures.adds

pub returns-clause-adds : goal.returns-clause-adds
returns-clause-adds c =
    let added = c.in_ok-add_item.ensures.adds in
    record { begins = _; reads = begun_by_item (search rules) added.reads; header = refl; added = added.added }

pub returns-in_err-header-clause-stops : goal.returns-in_err-header-clause-stops
returns-in_err-header-clause-stops c =
    let p = err_from_is_err_and c.from_residual.result c.from_residual.ensures.1 in
    rw (p.1, p.2) (package_stops c.args.reader.now c.in_err-header.field-0.0 (search rules) c.in_err-header.ensures.stops)

pub returns-in_err-add_item-clause-stops : goal.returns-in_err-add_item-clause-stops
returns-in_err-add_item-clause-stops c =
    let p = err_from_is_err_and c.from_residual-in_err-add_item.result c.from_residual-in_err-add_item.ensures.1 in
    rw (p.1, p.2) (item_stops c.args.reader.now c.in_err-add_item.field-0.0 (search rules) c.in_err-add_item.ensures.stops)
