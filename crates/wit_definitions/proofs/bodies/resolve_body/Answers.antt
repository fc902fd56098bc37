use Rattle.wit_arena.proofs.Common.{err_from_is_err_and}
use Rattle.wit_first.proofs.First.{reports_back}
use Rattle.wit_definitions.proofs.bodies.resolve_body.Goals as goal

pub returns-in_err-fields-in-Record : goal.returns-in_err-fields-in-Record
returns-in_err-fields-in-Record c =
    let p = err_from_is_err_and c.from_residual-in_err-fields-in-Record.result c.from_residual-in_err-fields-in-Record.ensures.1 in
    let stop = rw c.deref-in-Record.ensures.value at c.in_err-fields-in-Record.ensures.resolves in
    rw (c.in-Record.is, p.1, p.2) (record { extended = stop.extended; first = reports_back (rw c.deref.ensures.value at c.in_ok-check_record-in-Record.ensures) stop.first })

pub returns-in_err-cases-in-Variant : goal.returns-in_err-cases-in-Variant
returns-in_err-cases-in-Variant c =
    let p = err_from_is_err_and c.from_residual-in_err-cases-in-Variant.result c.from_residual-in_err-cases-in-Variant.ensures.1 in
    let stop = rw c.deref-in-Variant-2.ensures.value at c.in_err-cases-in-Variant.ensures.resolves in
    rw (c.in-Variant.is, p.1, p.2) (record { extended = stop.extended; first = reports_back (rw c.deref-in-Variant.ensures.value at c.in_ok-check_variant-in-Variant.ensures) stop.first })

pub returns-in_err-kind-in-Plain : goal.returns-in_err-kind-in-Plain
returns-in_err-kind-in-Plain c =
    let p = err_from_is_err_and c.from_residual-in_err-kind-in-Plain.result c.from_residual-in_err-kind-in-Plain.ensures.1 in
    rw (c.in-Plain.is, p.1, p.2) c.in_err-kind-in-Plain.ensures
