use Rattle.std.proofs.Common.{rules, ◌≡◌, ◌<◌, take, length, true, false, Some, None, refl, sym, ap, ◌∙◌, arith}
use Rattle.wit_syntax.proofs.Common.{ExternalId, err_from_is_err_and, is_of, slice_get, slice_get-get_or}
use Rattle.wit_first.specs.AttributeFaults.{counted_fault}
use Rattle.wit_first.proofs.First.{after-all, after-next, reports-after}
use Rattle.wit_notes.proofs.attributes.check_external_once.Goals.{then-is_of+in_ok-check_new, else-is_of}
use Rattle.wit_notes.proofs.attributes.check_external_once.Goals as goal

pub returns-in_err-check_new : goal.returns-in_err-check_new
returns-in_err-check_new c =
    let p = err_from_is_err_and c.from_residual.result c.from_residual.ensures.1 in
    let xs = c.args.attributes.now in
    let i = c.loop-place.place in
    let a = c.index-attributes-place.result in
    let within : i < length xs = omega arith in
    let at : slice_get xs i ≡ Some a = slice_get-get_or xs i a within ∙ ap Some (sym c.index-attributes-place.is) in
    let own : is_of ExternalId a ≡ true = search rules in
    rw (p.1, p.2) (reports-after (counted_fault (is_of ExternalId)) xs i a _ at c.loop-place.invariant (rw own c.in_err-check_new.ensures))

pub loop-place-preserved : goal.loop-place-preserved
loop-place-preserved c =
    let xs = c.args.attributes.now in
    let i = c.loop-place.place in
    let a = c.index-attributes-place.result in
    let right : counted_fault (is_of ExternalId) (take i xs) a ≡ None = elim c.if-is_of.branch [
      | then-is_of+in_ok-check_new w ↦ (let own : is_of ExternalId a ≡ true = search rules in rw own w.in_ok-check_new.ensures)
      | else-is_of w ↦ (let other : is_of ExternalId a ≡ false = search rules in rw other refl)
    ] in
    after-next (counted_fault (is_of ExternalId)) xs i a (omega arith) c.index-attributes-place.is c.loop-place.invariant right

pub returns : goal.returns
returns c = after-all (counted_fault (is_of ExternalId)) c.args.attributes.now c.loop-place.place (omega arith) c.loop-place.invariant
