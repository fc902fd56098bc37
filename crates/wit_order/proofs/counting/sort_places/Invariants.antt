use Rattle.std.proofs.Common.{◌≡◌, ◌+◌, length, sum}
use Rattle.wit_order.specs.Heap.{zeros}
use Rattle.wit_graph.specs.Graph.{edge_count}
use Rattle.wit_order.specs.Released.{times_in}
use Rattle.wit_order.proofs.HeapState.{HeapState}
use Rattle.wit_order.proofs.counting.sort_places.Given as goal

abbrev pub invariant-loop-turn : goal.invariant-loop-turn
invariant-loop-turn l = record {
  state : HeapState l.graph l.done.items l.order.items l.ready.counts.items (λ q. times_in q l.ready);
  turn : length l.order.items ≡ l._turn;
  entered : l.ready.steps.entered ≡ zeros l.ready.counts.items;
  closed : l.ready.steps.closed + sum l.ready.counts.items ≡ edge_count l.graph;
}
