use Rattle.std.proofs.Common.{◌≡◌, ◌∙◌, ap, arith, Some, slice_get, sym}
use Rattle.indexmap.specs.IndexMap.{set_value_at}
use Rattle.wit_types.specs.Spans.{on_value}
use Rattle.wit_types.proofs.Moving.{AllFit-at_entry, seen, set_value_at-turned, some_at}
use Rattle.wit_types.proofs.spans.tables.TableHasSpans.adjust_spans.Goals as goal

pub adjust_at-requires-clause-fits : goal.adjust_at-requires-clause-fits
adjust_at-requires-clause-fits g c = λ e at.
    let es = c.args.self.now in
    let i = c.loop-place.place in
    let f = on_value (g.V.HasSpans.moved c.args.offset) in
    AllFit-at_entry g.V.HasSpans.spans c.args.offset es i e c.requires (sym (seen f es i) ∙ ap (λ l. slice_get l i) (sym c.loop-place.invariant) ∙ at)

pub loop-place-preserved : goal.loop-place-preserved
loop-place-preserved g c =
    let es = c.args.self.now in
    let i = c.loop-place.place in
    let f = g.V.HasSpans.moved c.args.offset in
    let e = some_at es i (omega (arith, c.loop-place-test.true, c.len-place-end.ensures)) in
    let at : slice_get c.loop-place.self i ≡ Some e.0 = ap (λ l. slice_get l i) c.loop-place.invariant ∙ seen (on_value f) es i ∙ e.1 in
    c.adjust_at.ensures e.0 at ∙ ap (λ l. set_value_at l i (f e.0.1)) c.loop-place.invariant ∙ set_value_at-turned f es i e.0 e.1
