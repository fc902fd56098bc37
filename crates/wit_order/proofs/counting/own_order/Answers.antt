use Rattle.std.proofs.Common.{◌≡◌, arith, length}
use Rattle.wit_graph.specs.Graph.{HasEdge}
use Rattle.wit_graph.proofs.Greedy.{own_greedy, greedy_sorted, greedy_least}
use Rattle.wit_graph.proofs.Sorting.{edge_back}
use Rattle.wit_order.proofs.counting.own_order.Goals as goal

pub returns : goal.returns
returns c =
    let g = c.args.graph.now in
    let long : length c.loop-p.order.items ≡ length g = omega (arith, c.loop-p.invariant.long, c.loop-p.auto.p-end, c.loop-p-test.false, c.len-p-end.ensures.long) in
    let greedy = own_greedy (HasEdge g) (length g) c.loop-p.order.items long (λ i h. c.loop-p.invariant.own i (omega (arith, h, long, c.loop-p.invariant.long))) (λ a b e. edge_back g a b c.requires e) in
    (greedy_sorted (HasEdge g) (length g) c.loop-p.order.items greedy long, greedy_least (HasEdge g) (length g) c.loop-p.order.items greedy long)
