use Rattle.std.proofs.Common.{map, take}
use Rattle.wit_syntax.proofs.Common.{AllDiffer}
use Rattle.wit_refusals.proofs.repeats.first_repeat_by_pairs.Given as goal

abbrev pub invariant-loop-place : goal.invariant-loop-place
invariant-loop-place l = AllDiffer (take l.place (map (λ t. t.now) l.texts))
