use Rattle.std.proofs.Common.{◌≡◌, ℕ, length, take, slice_index, sum}
use Rattle.wit_graph.specs.Graph.{edge_count}
use Rattle.wit_order.specs.Turned.{edges_to}
use Rattle.wit_order.proofs.turned.counts_to.Given as goal

abbrev pub invariant-loop-p : goal.invariant-loop-p
invariant-loop-p l = record {
  long : length l.counts.items ≡ length l.graph;
  counts : (w : ℕ) → slice_index l.counts.items w ≡ edges_to w (take l.p l.graph);
  all : sum l.counts.items ≡ edge_count (take l.p l.graph);
}
