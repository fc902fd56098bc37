use Rattle.std.proofs.Common.{◌-◌, ◌≤◌}
use Rattle.wit_lex.proofs.Comments.{IsStretch}
use Rattle.wit_lex.proofs.docs.docs_after.Given as goal

abbrev pub invariant-loop-at : goal.invariant-loop-at
invariant-loop-at l = (l.from ≤ l.at) × (l.at ≤ l.len) × IsStretch l.source l.offset l.from l.docs.docs.items l.docs.span l.at

abbrev pub decreases-loop-at : goal.decreases-loop-at
decreases-loop-at l = l.len - l.at
