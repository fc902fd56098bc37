use Rattle.std.proofs.Common.{◌≡◌, take, length, cond, nat_lt}
use Rattle.wit_order.specs.Heap.{times, row_at}
use Rattle.wit_order.specs.Turned.{edges_to, IsFilling}
use Rattle.wit_order.proofs.turned.turned.Given as goal

abbrev pub invariant-loop-p : goal.invariant-loop-p
invariant-loop-p l = record {
  filling : IsFilling l.starts.items (λ w. edges_to w (take l.p l.graph)) (λ w q. cond (nat_lt q l.p) (times w (row_at l.graph q)) 0) l.targets.items l.prefixes.items;
  long : length l.prefixes.items ≡ length l.starts.items;
}
