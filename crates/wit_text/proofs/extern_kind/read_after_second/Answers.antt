use Rattle.std.proofs.Common.{rules}
use Rattle.std.proofs.lemmas.Result.{err_from_is_err_and}
use Rattle.wit_text.proofs.Externs.{item_closed, item_stops, item_unclosed, rest_closed, rest_stops, rest_unclosed}
use Rattle.wit_text.proofs.extern_kind.read_after_second.Goals as goal

pub returns-then-at-clause-reads : goal.returns-then-at-clause-reads
returns-then-at-clause-reads c = rw c.in_ok-closed.ensures.value (item_closed _ _ (search rules) c.in_ok-path.ensures.reads c.in_ok-closed.ensures.reads)

pub returns-clause-reads : goal.returns-clause-reads
returns-clause-reads c = rw c.in_ok-closed-2.ensures.value (rest_closed _ _ (search rules) c.in_ok-path-2.ensures.reads c.in_ok-closed-2.ensures.reads)

pub returns-in_err-path-clause-stops : goal.returns-in_err-path-clause-stops
returns-in_err-path-clause-stops c =
    let p = err_from_is_err_and c.from_residual.result c.from_residual.ensures.1 in
    rw (p.1, p.2) (item_stops c.args.reader.now c.in_err-path.field-0.0 (search rules) c.in_err-path.ensures.stops)

pub returns-in_err-closed-clause-stops : goal.returns-in_err-closed-clause-stops
returns-in_err-closed-clause-stops c =
    let p = err_from_is_err_and c.from_residual-in_err-closed.result c.from_residual-in_err-closed.ensures.1 in
    rw (p.1, p.2) (item_unclosed _ _ c.in_err-closed.field-0.0 c.in_ok-path.ensures.reads (search rules) c.in_err-closed.ensures.stops)

pub returns-in_err-path-2-clause-stops : goal.returns-in_err-path-2-clause-stops
returns-in_err-path-2-clause-stops c =
    let p = err_from_is_err_and c.from_residual-in_err-path-2.result c.from_residual-in_err-path-2.ensures.1 in
    rw (p.1, p.2) (rest_stops c.args.reader.now c.in_err-path-2.field-0.0 (search rules) c.in_err-path-2.ensures.stops)

pub returns-in_err-closed-2-clause-stops : goal.returns-in_err-closed-2-clause-stops
returns-in_err-closed-2-clause-stops c =
    let p = err_from_is_err_and c.from_residual-in_err-closed-2.result c.from_residual-in_err-closed-2.ensures.1 in
    rw (p.1, p.2) (rest_unclosed _ c.in_err-closed-2.field-0.0 c.in_ok-path-2.ensures.reads (search rules) c.in_err-closed-2.ensures.stops)
