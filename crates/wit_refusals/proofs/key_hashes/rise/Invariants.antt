use Rattle.std.proofs.Common.{ℕ, ◌+◌, ◌<◌}
use Rattle.wit_syntax.proofs.Common.{slice_index}
use Rattle.wit_refusals.proofs.key_hashes.rise.Given as goal

abbrev pub invariant-loop-place : goal.invariant-loop-place
invariant-loop-place l = (k : ℕ) → k + 1 < l.place → slice_index l.numbers k < slice_index l.numbers (k + 1)
