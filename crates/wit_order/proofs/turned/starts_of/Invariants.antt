use Rattle.std.proofs.Common.{◌≡◌, ℕ, ◌<◌, length, take, slice_index, sum}
use Rattle.wit_order.proofs.turned.starts_of.Given as goal

abbrev pub invariant-loop-length : goal.invariant-loop-length
invariant-loop-length l = record {
  long : length l.starts.items ≡ l.length-index;
  end : l.end ≡ sum (take l.length-index l.lengths);
  starts : (i : ℕ) → i < l.length-index → slice_index l.starts.items i ≡ sum (take i l.lengths);
}
