use Rattle.std.proofs.Common.{◌-◌, ◌≤◌, ◌<◌, get_or}
use Rattle.wit_lex.specs.VersionEnds.{IsDotted}
use Rattle.wit_lex.proofs.version_end.run_end.Given as goal

abbrev pub invariant-loop-at : goal.invariant-loop-at
invariant-loop-at l = (l.from ≤ l.at) × (l.at ≤ l.len) × (l.from < l.at → get_or l.bytes (l.at - 1) 0 < 128) × IsDotted l.bytes l.from l.at

abbrev pub decreases-loop-at : goal.decreases-loop-at
decreases-loop-at l = l.len - l.at
