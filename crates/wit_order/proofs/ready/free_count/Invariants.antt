use Rattle.std.proofs.Common.{◌≡◌, ◌≤◌, take}
use Rattle.wit_order.specs.Heap.{zeros}
use Rattle.wit_order.proofs.ready.free_count.Given as goal

abbrev pub invariant-loop-count : goal.invariant-loop-count
invariant-loop-count l = record {
  free : l.free ≡ zeros (take l.count-index l.counts);
  few : l.free ≤ l.count-index;
}
