use Rattle.std.proofs.Common.{◌∙◌}
use Rattle.wit_graph.specs.Table.{rows}
use Rattle.wit_graph.proofs.Outcome.{graph_closed, graph_long, edges_counted}
use Rattle.wit_order.proofs.least_order.order_counted.Goals as goal

pub sort_places-requires : goal.sort_places-requires
sort_places-requires g c = graph_closed (rows (g.T.NameTable.entries c.args.deps.now)) c.in_ok-graph.graph c.in_ok-graph.ensures.ok

pub conclude-requires-clause-closed : goal.conclude-requires-clause-closed
conclude-requires-clause-closed g c = graph_closed (rows (g.T.NameTable.entries c.args.deps.now)) c.in_ok-graph.graph c.in_ok-graph.ensures.ok

pub returns-clause-steps : goal.returns-clause-steps
returns-clause-steps g c =
    let s = rw c.in_ok-places.ensures.placed at c.in_ok-sorted.ensures.steps in
    record {
      entered = s.0 ∙ graph_long (rows (g.T.NameTable.entries c.args.deps.now)) c.in_ok-graph.graph c.in_ok-graph.ensures.ok;
      closed = s.1 ∙ edges_counted (rows (g.T.NameTable.entries c.args.deps.now)) c.in_ok-graph.graph c.in_ok-graph.ensures.ok;
    }
