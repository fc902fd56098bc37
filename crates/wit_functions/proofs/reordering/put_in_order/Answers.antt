use Rattle.std.proofs.Common.{◌≤◌, ◌∙◌, ap, length, rules, arith, refl, sym}
use Rattle.std.proofs.lemmas.List.Edits.{length-swap}
use Rattle.std.proofs.lemmas.Option.{slice_get_read}
use Rattle.wit_functions.proofs.Swaps.{all_brought, brought_next, no_less, same_after}
use Rattle.wit_functions.proofs.reordering.put_in_order.Goals.{in-Some, in-None}
use Rattle.wit_functions.proofs.reordering.put_in_order.Goals as goal

pub loop-place-preserved : goal.loop-place-preserved
loop-place-preserved g c =
    let was = c.loop-place.invariant in
    let entries = g.E.Entries.entries in
    let first = entries c.args.entries.now in
    let cur = entries c.loop-place.entries in
    elim c.match-bring.branch [
      | in-Some w ↦ (
          let moved = w.in-Some.ensures.exchanged in
          let now_is = ap entries w.entries-is ∙ w.exchange.ensures in
          record {
            same = ap length now_is ∙ length-swap cur c.loop-place.place w.in-Some.from ∙ same_after _ _ _ _ _ moved _ was.same;
            inverse = c.bring.ensures.inverse;
            brought = λ now is. rw now_is (brought_next _ _ _ _ _ moved first cur now c.args.order.items is (slice_get_read c.args.order.items _ _ _ refl (search rules) c.index.ensures) (was.brought now is) was.same);
          })
      | in-None w ↦ (
          let now_is = ap entries w.entries-is in
          record {
            same = ap length now_is ∙ was.same ∙ ap length (sym w.in-None.ensures.unchanged);
            inverse = c.bring.ensures.inverse;
            brought = λ now is. absurd (no_less _ _ _ _ first cur now c.args.order.items is (slice_get_read c.args.order.items _ _ _ refl (search rules) c.index.ensures) (was.brought now is) was.same w.in-None.ensures.missing);
          })
    ]

pub returns : goal.returns
returns g c = λ now is.
    let end : length c.args.order.items ≤ c.loop-place.place = omega (arith, c.loop-place-test.false, c.loop-place.auto.place-end, c.len-place-end.ensures) in
    let was = c.loop-place.invariant in
    let brought = was.brought now is in
    all_brought (g.E.Entries.entries c.args.entries.now) (g.E.Entries.entries c.loop-place.entries) now c.args.order.items c.loop-place.positions.entries.items c.loop-place.place is end brought (sym was.same ∙ brought.long)
