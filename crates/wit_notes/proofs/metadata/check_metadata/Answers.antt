use Rattle.wit_first.proofs.First.{finds_back}
use Rattle.wit_notes.proofs.metadata.check_metadata.Goals as goal

pub returns : goal.returns
returns c = finds_back _ c.check_external_once.result c.in_ok-check_stability.ensures c.check_external_once.ensures
