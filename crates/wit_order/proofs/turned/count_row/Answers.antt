use Rattle.std.proofs.Common.{arith, ℕ, ◌<◌, ◌+◌, get_or, length}
use Rattle.std.proofs.lemmas.List.{length-set}
use Rattle.std.proofs.lemmas.List.Sums.{sum_by-set, get_or-le-sum_by}
use Rattle.wit_order.proofs.Counts.{counts_step}
use Rattle.wit_order.proofs.turned.count_row.Goals as goal

pub overflow_add-counts : goal.overflow_add-counts
overflow_add-counts c =
    let x = get_or c.args.row.now c.loop-w.w-index 0 in
    let within : x < length c.loop-w.counts = omega (arith, c.requires.within c.loop-w.w-index 0 c.loop-w-test.true, c.loop-w.invariant.long) in
    omega (arith, get_or-le-sum_by (λ (y : ℕ). y) c.loop-w.counts x 0 within, c.loop-w.invariant.all, c.requires.room, c.loop-w-test.true)

pub loop-w-preserved : goal.loop-w-preserved
loop-w-preserved c =
    let x = get_or c.args.row.now c.loop-w.w-index 0 in
    let within : x < length c.loop-w.counts = omega (arith, c.requires.within c.loop-w.w-index 0 c.loop-w-test.true, c.loop-w.invariant.long) in
    record {
      long = omega (arith, length-set c.loop-w.counts x (get_or c.loop-w.counts x 0 + 1), c.loop-w.invariant.long);
      counts = counts_step c.loop-w.counts c.args.counts.now c.args.row.now c.loop-w.w-index c.loop-w-test.true within c.loop-w.invariant.counts;
      all = omega (arith, sum_by-set (λ (y : ℕ). y) c.loop-w.counts x (get_or c.loop-w.counts x 0 + 1) 0 within, c.loop-w.invariant.all);
    }
