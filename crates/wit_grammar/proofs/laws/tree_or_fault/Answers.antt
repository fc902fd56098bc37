use Rattle.wit_grammar.proofs.Whole.{tree_or_fault as law}
use Rattle.wit_grammar.proofs.laws.tree_or_fault.Goals as goal

pub returns : goal.returns
returns c = law
