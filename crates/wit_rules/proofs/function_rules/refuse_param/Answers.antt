use Rattle.wit_arena.proofs.Common.{codes, defined_twice}
use Rattle.wit_rules.proofs.function_rules.refuse_param.Goals as goal

pub returns : goal.returns
returns c = c.refuse_in.ensures (defined_twice (codes "param") c.args.name.name.now) c.defined_twice.ensures
