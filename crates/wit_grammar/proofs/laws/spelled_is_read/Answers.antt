use Rattle.wit_grammar.proofs.Whole.{spelled_is_read as law}
use Rattle.wit_grammar.proofs.laws.spelled_is_read.Goals as goal

pub returns : goal.returns
returns c = law
