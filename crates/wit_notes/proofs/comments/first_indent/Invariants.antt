use Rattle.std.proofs.Common.{◌≡◌, map, drop}
use Rattle.wit_notes.specs.PlainComments.{first_indent}
use Rattle.wit_notes.proofs.comments.first_indent.Given as goal
use Rattle.wit_notes.specs.Texts.{said}

abbrev pub invariant-loop-comment : goal.invariant-loop-comment
invariant-loop-comment l = first_indent (map (λ m. said m.now) l.comments) ≡ first_indent (map (λ m. said m.now) (drop l.comment-index l.comments))
