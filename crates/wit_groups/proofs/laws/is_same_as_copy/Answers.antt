use Rattle.wit_groups.proofs.Same.{group_same}
use Rattle.wit_groups.proofs.laws.is_same_as_copy.Goals as goal

pub returns : goal.returns
returns c = let it = c.in_ok-copy.ensures.cases in c.is_same_group.ensures.1 (group_same c.in_ok-copy.copy c.args.group.now it.0 it.1 it.2)
