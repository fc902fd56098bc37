use Rattle.std.proofs.Common.{arith}
use Rattle.wit_listing.proofs.Written.{appends_then, take_rest}
use Rattle.std.proofs.lemmas.Grind.{common_steps}
use Rattle.wit_listing.proofs.output.put.Goals as goal

pub loop-at-preserved : goal.loop-at-preserved
loop-at-preserved g c =
    (grind (arith, common_steps, c.in-Ok.ensures.bound), appends_then _ _ _ c.loop-at.at c.in-Ok.count c.args.text.now c.loop-at.invariant.1 (rw (take_rest c.loop-at.at c.args.text.now) at c.in-Ok.ensures.bytes))
