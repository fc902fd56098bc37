use Rattle.wit_grammar.proofs.Whole.{one_tree as law}
use Rattle.wit_grammar.proofs.laws.one_tree.Goals as goal

pub returns : goal.returns
returns c = law
