use Rattle.std.proofs.Common.{◌++◌}
use Rattle.wit_syntax.proofs.Common.{codes}
use Rattle.wit_refusals.proofs.refusal.refuse_world.Goals as goal

pub returns : goal.returns
returns c = c.refuse_in.ensures (codes "name `" ++ (c.args.id.name.now ++ codes "` is defined as a world, not an interface")) c.a_world.ensures
