use Rattle.std.proofs.Common.{◌≡◌}
use denote.Text.{Utf8}
use denote.Shadow.{shadow}
use Rattle.wit_notes.proofs.comments.after_spaces.Given as goal
use Rattle.wit_notes.specs.Texts.{after_spaces}

abbrev pub invariant-loop-left : goal.invariant-loop-left
invariant-loop-left l = shadow (Utf8 l.rest) × (after_spaces l.count l.text ≡ after_spaces l.left l.rest)

abbrev pub decreases-loop-left : goal.decreases-loop-left
decreases-loop-left l = l.left
