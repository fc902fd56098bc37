use Rattle.wit_grammar.proofs.Whole.{stopped_spells_none as law}
use Rattle.wit_grammar.proofs.laws.stopped_spells_none.Goals as goal

pub returns : goal.returns
returns c = law
