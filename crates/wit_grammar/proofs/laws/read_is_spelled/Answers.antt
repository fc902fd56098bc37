use Rattle.wit_grammar.proofs.Whole.{read_is_spelled as law}
use Rattle.wit_grammar.proofs.laws.read_is_spelled.Goals as goal

pub returns : goal.returns
returns c = law
