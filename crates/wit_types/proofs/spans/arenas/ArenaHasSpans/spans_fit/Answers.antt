use Rattle.std.proofs.Common.{◌≡◌, ◌∙◌, ap, arith, Some, length, refl, slice_get, sym}
use Rattle.std.proofs.lemmas.Option.{slice_get_read, slice_get_within}
use Rattle.wit_types.specs.Spans.{AllFit}
use Rattle.wit_types.proofs.Moving.{AllFit-at, AllFit-each, covers_one_more}
use Rattle.wit_types.proofs.spans.arenas.ArenaHasSpans.spans_fit.Goals as goal

pub returns-then-not-spans_fit : goal.returns-then-not-spans_fit
returns-then-not-spans_fit g c = λ all.
    let xs = c.as_slice-values.result.now in
    let i = c.loop-place.place in
    let here : slice_get xs i ≡ Some c.index-values-place.result = slice_get_read xs (length xs) i c.index-values-place.result refl c.loop-place-test.true c.index-values-place.is in
    c.if-not-spans_fit.ensures (AllFit-at g.T.HasSpans.spans c.args.offset c.args.self.now i _ all (ap (λ l. slice_get l i) (sym c.as_slice-values.ensures) ∙ here))

pub loop-place-preserved : goal.loop-place-preserved
loop-place-preserved g c =
    let xs = c.as_slice-values.result.now in
    let i = c.loop-place.place in
    let here : slice_get xs i ≡ Some c.index-values-place.result = slice_get_read xs (length xs) i c.index-values-place.result refl c.loop-place-test.true c.index-values-place.is in
    covers_one_more (λ k x. AllFit c.args.offset (g.T.HasSpans.spans x)) xs i _ here c.if-not-spans_fit.ensures c.loop-place.invariant

pub returns : goal.returns
returns g c = AllFit-each g.T.HasSpans.spans c.args.offset c.args.self.now (λ j x at.
    let found = ap (λ l. slice_get l j) c.as_slice-values.ensures ∙ at in
    c.loop-place.invariant j x (omega (arith, slice_get_within c.as_slice-values.result.now j x found, c.loop-place-test.false)) found)
