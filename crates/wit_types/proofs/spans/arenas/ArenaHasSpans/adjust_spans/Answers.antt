use Rattle.std.proofs.Common.{◌≡◌, ◌∙◌, ap, arith, Some, slice_get, slice_set, sym}
use Rattle.wit_types.proofs.Moving.{AllFit-at, seen, slice_set-turned, some_at}
use Rattle.wit_types.proofs.spans.arenas.ArenaHasSpans.adjust_spans.Goals as goal

pub adjust_at-requires-clause-fits : goal.adjust_at-requires-clause-fits
adjust_at-requires-clause-fits g c = λ x at.
    let xs = c.args.self.now in
    let i = c.loop-place.place in
    let f = g.T.HasSpans.moved c.args.offset in
    AllFit-at g.T.HasSpans.spans c.args.offset xs i x c.requires (sym (seen f xs i) ∙ ap (λ l. slice_get l i) (sym c.loop-place.invariant) ∙ at)

pub loop-place-preserved : goal.loop-place-preserved
loop-place-preserved g c =
    let xs = c.args.self.now in
    let i = c.loop-place.place in
    let f = g.T.HasSpans.moved c.args.offset in
    let x = some_at xs i (omega (arith, c.loop-place-test.true, c.len-place-end.ensures)) in
    let at : slice_get c.loop-place.self i ≡ Some x.0 = ap (λ l. slice_get l i) c.loop-place.invariant ∙ seen f xs i ∙ x.1 in
    c.adjust_at.ensures x.0 at ∙ ap (λ l. slice_set l i (f x.0)) c.loop-place.invariant ∙ slice_set-turned f xs i x.0 x.1
