use Rattle.std.proofs.Common.{◌≡◌, map, take}
use Rattle.wit_syntax.proofs.Common.{lower_case}
use Rattle.wit_refusals.proofs.repeats.in_lower_case.Given as goal

abbrev pub invariant-loop-text : goal.invariant-loop-text
invariant-loop-text l = l.lower.items ≡ map (λ t. lower_case t.now) (take l.text-index l.texts)
