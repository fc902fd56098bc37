use Rattle.wit_first.proofs.First.{finds_back}
use Rattle.wit_notes.proofs.attributes.check_stability.Goals as goal

pub returns : goal.returns
returns c = finds_back _ c.check_together.result c.in_ok-check_each_once.ensures c.check_together.ensures
