use Rattle.std.proofs.Common.{arith, ◌≡◌, ◌∙◌, ap, Some, slice_get, length, refl}
use Rattle.std.proofs.lemmas.Option.{slice_get_read, slice_get_within}
use Rattle.wit_types.specs.InnerTypes.{IsBelow}
use Rattle.wit_types.proofs.Moving.{covers_one_more}
use Rattle.wit_types.proofs.backward.is_backward.Goals as goal

pub loop-place-preserved : goal.loop-place-preserved
loop-place-preserved c =
    let es = c.as_slice-entries.result.now in
    let i = c.loop-place.place in
    let inside = c.loop-place-test.true in
    let here : slice_get es i ≡ Some c.index-entries-place.result = slice_get_read es (length es) i c.index-entries-place.result refl inside c.index-entries-place.is in
    covers_one_more (λ k d. IsBelow k d.kind) es i _ (here ∙ ap (λ y. Some y) c.index-entries-place.is) c.if-not-is_below.ensures c.loop-place.invariant

pub returns : goal.returns
returns c = λ k d at.
    let found = ap (λ l. slice_get l k) c.as_slice-entries.ensures ∙ at in
    c.loop-place.invariant k d (omega (arith, slice_get_within c.as_slice-entries.result.now k d found, c.loop-place-test.false)) found
