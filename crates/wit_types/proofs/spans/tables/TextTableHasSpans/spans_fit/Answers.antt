use Rattle.std.proofs.Common.{arith}
use Rattle.std.proofs.lemmas.Option.{slice_get_within}
use Rattle.wit_types.proofs.Moving.{AllFit-at_entry, AllFit-each_entry, some_at}
use Rattle.wit_types.proofs.spans.tables.TextTableHasSpans.spans_fit.Goals as goal

pub returns-then-not-text_fits_at : goal.returns-then-not-text_fits_at
returns-then-not-text_fits_at g c = λ all.
    let es = c.args.self.now in
    let i = c.loop-place.place in
    let e = some_at es i (omega (arith, c.loop-place-test.true, c.len-place-end.ensures)) in
    c.if-not-text_fits_at.ensures e.0 e.1 (AllFit-at_entry g.V.HasSpans.spans c.args.offset es i e.0 all e.1)

pub returns : goal.returns
returns g c = AllFit-each_entry g.V.HasSpans.spans c.args.offset c.args.self.now (λ j e at. c.loop-place.invariant j e (omega (arith, slice_get_within c.args.self.now j e at, c.loop-place-test.false, c.len-place-end.ensures)) at)
