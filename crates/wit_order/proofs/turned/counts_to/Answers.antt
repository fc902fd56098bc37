use Rattle.std.proofs.Common.{arith, ℕ, ◌+◌, ◌<◌, List, ap, length, ◌≡◌}
use Rattle.std.proofs.lemmas.List.{with_items_is}
use Rattle.std.proofs.lemmas.List.Sums.{sum_by_more, sum_by-take-le}
use Rattle.std.proofs.lemmas.Option.{get_or_from_slice_get}
use Rattle.wit_order.specs.Heap.{times}
use Rattle.wit_order.proofs.turned.counts_to.Goals as goal

pub count_row-requires-clause-room : goal.count_row-requires-clause-room
count_row-requires-clause-room c =
    let graph = c.args.graph.now in
    let p = c.loop-p.p in
    let row = get_or_from_slice_get graph p c.row.result.now c.row.result.now c.row.ensures in
    let more = sum_by_more (λ (r : List ℕ). length r) graph p c.row.result.now (omega (arith, c.loop-p-test.true, c.len-p-end.ensures.long)) in
    let le = sum_by-take-le (λ (r : List ℕ). length r) graph (p + 1) in
    rw c.deref_mut.ensures.value (omega (arith, c.loop-p.invariant.all, more, ap length row, le, c.len.ensures.few))

pub loop-p-preserved : goal.loop-p-preserved
loop-p-preserved c =
    let graph = c.args.graph.now in
    let p = c.loop-p.p in
    let row = get_or_from_slice_get graph p c.row.result.now c.row.result.now c.row.ensures in
    let inside : p < length graph = omega (arith, c.loop-p-test.true, c.len-p-end.ensures.long) in
    let long : length c.count_row.new.counts ≡ c.loop-p.counts.len = omega (arith, c.count_row.ensures.long, c.deref_mut.ensures.len) in
    rw (with_items_is c.loop-p.counts c.count_row.new.counts long) (record {
      long = omega (arith, long, c.loop-p.counts.ok, c.loop-p.invariant.long);
      counts = λ w. omega (
        arith,
        rw c.deref_mut.ensures.value at c.count_row.ensures.counts w,
        c.loop-p.invariant.counts w,
        sum_by_more (λ r. times w r) graph p c.row.result.now inside,
        ap (times w) row,
      );
      all = omega (
        arith,
        rw c.deref_mut.ensures.value at c.count_row.ensures.all,
        c.loop-p.invariant.all,
        sum_by_more (λ (r : List ℕ). length r) graph p c.row.result.now inside,
        ap length row,
      );
    })
