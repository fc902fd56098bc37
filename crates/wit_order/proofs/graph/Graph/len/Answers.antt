use Rattle.std.proofs.Common.{arith, ap, length}
use Rattle.wit_graph.specs.Graph.{edge_count}
use Rattle.wit_order.proofs.Cut.{cut_long, cut_count}
use Rattle.wit_order.proofs.graph.Graph.len.Goals as goal

pub returns-clause-long : goal.returns-clause-long
returns-clause-long c = omega (arith, c.len.ensures, ap length c.self.view_is, c.self.inside.starts.ok, cut_long c.self.inside.starts.items c.self.inside.targets.items c.self.invariant.some)

pub returns-clause-few : goal.returns-clause-few
returns-clause-few c = omega (arith, ap edge_count c.self.view_is, cut_count c.self.inside.starts.items c.self.inside.targets.items c.self.invariant, c.self.inside.targets.ok, c.self.inside.targets.small)
