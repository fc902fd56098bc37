use Rattle.std.proofs.Common.{◌∙◌}
use Rattle.wit_syntax.proofs.Common.{take_all}
use Rattle.wit_refusals.proofs.repeats.lent.Goals as goal

pub returns : goal.returns
returns c = c.loop-text.invariant ∙ take_all c.loop-text.text-index c.args.texts.now c.loop-text-test.false
