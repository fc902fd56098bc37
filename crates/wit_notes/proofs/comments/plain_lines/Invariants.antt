use Rattle.std.proofs.Common.{◌≡◌, map, take, string_bytes}
use Rattle.std.specs.List.{All}
use Rattle.wit_notes.specs.PlainComments.{HasNoReturn, IsIndented, all_lines}
use Rattle.wit_notes.proofs.comments.plain_lines.Given as goal
use Rattle.wit_notes.specs.Texts.{said}

abbrev pub invariant-loop-comment : goal.invariant-loop-comment
invariant-loop-comment l = record {
  lines : HasNoReturn (string_bytes l.text) → string_bytes l.text ≡ all_lines l.count (map (λ m. said m.now) (take l.comment-index l.comments));
  indented : All (λ m. IsIndented l.count (said m.now)) (take l.comment-index l.comments);
}
