use Rattle.std.proofs.Common.{◌≡◌, ◌++◌, map, string_bytes, List, [], ℕ, ◌∷◌}
use Rattle.wit_syntax.proofs.Common.{flat_map}
use Rattle.wit_notes.proofs.comments.push_lines.Given as goal

abbrev pub invariant-loop-line : goal.invariant-loop-line
invariant-loop-line l = string_bytes l.text ≡ string_bytes l.initial.text ++ flat_map (λ (line : List ℕ). line ++ 10 ∷ []) (map (λ t. t.now) l.yielded)
