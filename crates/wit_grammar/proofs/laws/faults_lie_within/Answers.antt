use Rattle.wit_grammar.proofs.Within.{faults_lie_within as law}
use Rattle.wit_grammar.proofs.laws.faults_lie_within.Goals as goal

pub returns : goal.returns
returns c = law
