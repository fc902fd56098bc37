use Rattle.std.proofs.Common.{◌≡◌, ℕ, ◌+◌, length, take, slice_index, sum}
use Rattle.wit_order.specs.Heap.{times}
use Rattle.wit_order.proofs.turned.count_row.Given as goal

abbrev pub invariant-loop-w : goal.invariant-loop-w
invariant-loop-w l = record {
  long : length l.counts ≡ length l.initial.counts;
  counts : (w : ℕ) → slice_index l.counts w ≡ slice_index l.initial.counts w + times w (take l.w-index l.row);
  all : sum l.counts ≡ sum l.initial.counts + l.w-index;
}
