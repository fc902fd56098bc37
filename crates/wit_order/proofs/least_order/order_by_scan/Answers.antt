use Rattle.wit_graph.specs.Table.{rows}
use Rattle.wit_graph.proofs.Outcome.{graph_closed}
use Rattle.wit_order.proofs.least_order.order_by_scan.Goals as goal

pub sort_places-requires : goal.sort_places-requires
sort_places-requires g c = graph_closed (rows (g.T.NameTable.entries c.args.deps.now)) c.in_ok-graph.graph c.in_ok-graph.ensures.ok

pub conclude-requires-clause-closed : goal.conclude-requires-clause-closed
conclude-requires-clause-closed g c = graph_closed (rows (g.T.NameTable.entries c.args.deps.now)) c.in_ok-graph.graph c.in_ok-graph.ensures.ok
