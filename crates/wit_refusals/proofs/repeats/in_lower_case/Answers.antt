use Rattle.std.proofs.Common.{List, ℕ, Bor, map, ap, ◌∙◌}
use Rattle.wit_syntax.proofs.Common.{lower_case, take_all}
use Rattle.wit_refusals.proofs.repeats.in_lower_case.Goals as goal

pub returns : goal.returns
returns c = c.loop-text.invariant ∙ ap (map (λ (t : Bor (List ℕ)). lower_case t.now)) (take_all c.loop-text.text-index c.args.texts.now c.loop-text-test.false)
