use Rattle.std.proofs.Common.{◌≡◌, ℕ, ◌-◌, ◌≤◌, ◌<◌, true, get_or}
use Rattle.wit_lex.specs.Starts.{is_in_word}
use Rattle.wit_lex.proofs.scan.word_end.Given as goal

abbrev pub invariant-loop-at : goal.invariant-loop-at
invariant-loop-at l = (l.from ≤ l.at) × (l.at ≤ l.len) × (l.from < l.at → get_or l.bytes (l.at - 1) 0 < 128) × ((i : ℕ) → l.from ≤ i → i < l.at → is_in_word (get_or l.bytes i 0) ≡ true)

abbrev pub decreases-loop-at : goal.decreases-loop-at
decreases-loop-at l = l.len - l.at
