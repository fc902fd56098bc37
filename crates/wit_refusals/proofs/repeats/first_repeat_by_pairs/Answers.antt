use Rattle.std.proofs.Common.{map}
use Rattle.wit_refusals.proofs.Few.{differ_more}
use Rattle.wit_refusals.proofs.repeats.first_repeat_by_pairs.Goals as goal

pub loop-place-preserved : goal.loop-place-preserved
loop-place-preserved c = differ_more (map (λ t. t.now) c.args.texts.now) c.loop-place.place c.loop-place.invariant c.in_default.ensures.none
