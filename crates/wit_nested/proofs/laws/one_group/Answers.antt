use Rattle.wit_nested.proofs.OneGroup.{one_main, one_nested}
use Rattle.wit_nested.proofs.laws.one_group.Goals as goal

pub returns-clause-main : goal.returns-clause-main
returns-clause-main c = one_main

pub returns-clause-nested : goal.returns-clause-nested
returns-clause-nested c = one_nested
