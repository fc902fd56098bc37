use Rattle.std.proofs.Common.{take, length, ◌≤◌, ◌-◌}
use Rattle.std.specs.Io.KnownBytes.{Appends}
use Rattle.wit_listing.proofs.output.put.Given as goal

abbrev pub invariant-loop-at : goal.invariant-loop-at
invariant-loop-at g l = (l.at ≤ length l.text) × Appends (g.W.Write.contents l.fn.out) (g.W.Write.contents l.out) (take l.at l.text)

abbrev pub decreases-loop-at : goal.decreases-loop-at
decreases-loop-at g l = length l.text - l.at
