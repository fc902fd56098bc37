use Rattle.std.proofs.Common.{◌≡◌, map, take, string_bytes}
use Rattle.wit_syntax.proofs.Common.{ended_lines, flat_map, without_spaces}
use Rattle.wit_notes.proofs.comments.all_lines.Given as goal
use Rattle.wit_notes.specs.Texts.{said}

abbrev pub invariant-loop-comment : goal.invariant-loop-comment
invariant-loop-comment l = string_bytes l.text ≡ flat_map (λ t. ended_lines (without_spaces l.count t)) (map (λ m. said m.now) (take l.comment-index l.comments))
