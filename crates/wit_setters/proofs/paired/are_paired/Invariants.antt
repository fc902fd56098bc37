use Rattle.std.proofs.Common.{ℕ, ◌<◌}
use Rattle.wit_setters.specs.Paired.{IsPaired}
use Rattle.wit_setters.proofs.paired.are_paired.Given as goal

abbrev pub invariant-loop-place : goal.invariant-loop-place
invariant-loop-place l = (i : ℕ) → i < l.place → IsPaired l.functions i
