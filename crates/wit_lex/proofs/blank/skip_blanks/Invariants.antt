use Rattle.std.proofs.Common.{◌-◌, ◌≤◌}
use Rattle.wit_lex.specs.Blanks.{IsSkipped}
use Rattle.wit_lex.proofs.blank.skip_blanks.Given as goal

abbrev pub invariant-loop-at : goal.invariant-loop-at
invariant-loop-at l = (l.from ≤ l.at) × (l.at ≤ l.len) × IsSkipped l.bytes l.from l.at

abbrev pub decreases-loop-at : goal.decreases-loop-at
decreases-loop-at l = l.len - l.at
