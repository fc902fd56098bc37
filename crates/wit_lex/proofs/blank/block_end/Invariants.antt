use Rattle.std.proofs.Common.{◌-◌, ◌≤◌, ◌<◌, ◌+◌}
use Rattle.wit_type_tree.specs.Comments.{IsNested}
use Rattle.wit_lex.proofs.blank.block_end.Given as goal

abbrev pub invariant-loop-slash : goal.invariant-loop-slash
invariant-loop-slash l = (l.from + 2 ≤ l.at) × (l.at ≤ l.len) × (0 < l.depth) × (l.depth < l.at) × IsNested l.bytes l.from l.depth l.at

abbrev pub decreases-loop-slash : goal.decreases-loop-slash
decreases-loop-slash l = l.len - l.at
