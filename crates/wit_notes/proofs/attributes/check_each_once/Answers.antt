use Rattle.std.proofs.Common.{rules, ◌≡◌, ◌<◌, take, length, true, false, Some, None, refl, sym, ap, ◌∙◌, arith}
use Rattle.wit_syntax.proofs.Common.{ExternalId, err_from_is_err_and, is_of, not, slice_get, slice_get-get_or}
use Rattle.wit_first.specs.AttributeFaults.{counted_fault}
use Rattle.wit_first.proofs.First.{after-all, after-next, reports-after}
use Rattle.wit_notes.proofs.attributes.check_each_once.Goals.{then-not-is_of+in_ok-check_new, else-not-is_of}
use Rattle.wit_notes.proofs.attributes.check_each_once.Goals as goal

pub returns-in_err-check_new : goal.returns-in_err-check_new
returns-in_err-check_new c =
    let p = err_from_is_err_and c.from_residual.result c.from_residual.ensures.1 in
    let xs = c.args.attributes.now in
    let i = c.loop-place.place in
    let a = c.index-attributes-place.result in
    let within : i < length xs = omega arith in
    let at : slice_get xs i ≡ Some a = slice_get-get_or xs i a within ∙ ap Some (sym c.index-attributes-place.is) in
    let other : is_of ExternalId a ≡ false = search rules in
    rw (p.1, p.2) (reports-after (counted_fault (λ b. not (is_of ExternalId b))) xs i a _ at c.loop-place.invariant (rw other c.in_err-check_new.ensures))

pub loop-place-preserved : goal.loop-place-preserved
loop-place-preserved c =
    let xs = c.args.attributes.now in
    let i = c.loop-place.place in
    let a = c.index-attributes-place.result in
    let right : counted_fault (λ b. not (is_of ExternalId b)) (take i xs) a ≡ None = elim c.if-not-is_of.branch [
      | then-not-is_of+in_ok-check_new w ↦ (let other : is_of ExternalId a ≡ false = search rules in rw other w.in_ok-check_new.ensures)
      | else-not-is_of w ↦ (let own : is_of ExternalId a ≡ true = search rules in rw own refl)
    ] in
    after-next (counted_fault (λ b. not (is_of ExternalId b))) xs i a (omega arith) c.index-attributes-place.is c.loop-place.invariant right

pub returns : goal.returns
returns c = after-all (counted_fault (λ a. not (is_of ExternalId a))) c.args.attributes.now c.loop-place.place (omega arith) c.loop-place.invariant
