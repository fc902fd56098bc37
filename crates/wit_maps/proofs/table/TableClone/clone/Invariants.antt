use Rattle.std.proofs.Common.{◌≡◌}
use Rattle.wit_maps.proofs.table.TableClone.clone.Given as goal

abbrev pub invariant-loop-key : goal.invariant-loop-key
invariant-loop-key g l = l.copy ≡ l.yielded
