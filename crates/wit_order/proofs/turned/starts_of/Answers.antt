use Rattle.std.proofs.Common.{◌≡◌, ◌+◌, ℕ, arith, ap, sym, ◌∙◌, length, sum, take, get_or}
use Rattle.std.proofs.lemmas.List.{length_push, take_all}
use Rattle.std.proofs.lemmas.List.Sums.{sum_by_more, sum_by_more_le}
use Rattle.wit_order.proofs.Spread.{starts_more}
use Rattle.wit_order.proofs.turned.starts_of.Goals as goal

pub overflow_add-end : goal.overflow_add-end
overflow_add-end c = omega (arith, c.loop-length.invariant.end, sum_by_more_le (λ (n : ℕ). n) c.args.lengths.now c.loop-length.length-index 0 c.loop-length-test.true)

pub loop-length-preserved : goal.loop-length-preserved
loop-length-preserved c =
    let s = c.loop-length.invariant in
    record {
      long = ap length c.in_ok-push.ensures.items ∙ length_push c.loop-length.starts.items c.loop-length.end ∙ ap (λ n. n + 1) s.long;
      end = ap (λ n. n + get_or c.args.lengths.now c.loop-length.length-index 0) s.end ∙ sym (sum_by_more (λ (n : ℕ). n) c.args.lengths.now c.loop-length.length-index 0 c.loop-length-test.true);
      starts = starts_more c.loop-length.starts.items _ c.args.lengths.now c.loop-length.length-index c.loop-length.end s.long s.end s.starts c.in_ok-push.ensures.items;
    }

pub returns-clause-starts : goal.returns-clause-starts
returns-clause-starts c =
    let s = c.loop-length.invariant in
    λ i below. starts_more c.loop-length.starts.items _ c.args.lengths.now c.loop-length.length-index c.loop-length.end s.long s.end s.starts c.in_ok-push-2.ensures.items i (omega arith)
