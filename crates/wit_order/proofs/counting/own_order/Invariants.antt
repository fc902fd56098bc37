use Rattle.std.proofs.Common.{◌≡◌, ℕ, ◌<◌, length, slice_index}
use Rattle.wit_order.proofs.counting.own_order.Given as goal

abbrev pub invariant-loop-p : goal.invariant-loop-p
invariant-loop-p l = record {
  long : length l.order.items ≡ l.p;
  own : (i : ℕ) → i < l.p → slice_index l.order.items i ≡ i;
}
