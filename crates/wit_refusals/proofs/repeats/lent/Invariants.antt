use Rattle.std.proofs.Common.{◌≡◌, map, take}
use Rattle.wit_refusals.proofs.repeats.lent.Given as goal

abbrev pub invariant-loop-text : goal.invariant-loop-text
invariant-loop-text l = map (λ t. t.now) l.lent.items ≡ take l.text-index l.texts
