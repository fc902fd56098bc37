use Rattle.wit_graph.proofs.SameEdges.{same_edges}
use Rattle.wit_order.proofs.laws.same_edges.Goals as goal

pub returns : goal.returns
returns c = same_edges
