use Rattle.wit_graph.proofs.SameEdges.{one_answer}
use Rattle.wit_order.proofs.laws.one_answer.Goals as goal

pub returns : goal.returns
returns c = one_answer
