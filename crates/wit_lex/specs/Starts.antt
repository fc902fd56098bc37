-- Where tokens begin.
use Rattle.std.specs.Prelude.{◌≡◌, ℕ, ◌+◌, ◌<◌, ◌≤◌, ◌==◌, ◌||◌, min, Bool, true, false, cond, nat_lt, List, length, slice_index}
use Rattle.std.specs.Char.{is_ascii_digit, is_ascii_lowercase, is_ascii_uppercase}
use Rattle.wit_type_tree.specs.Comments.{IsPair}

abbrev pub is_letter : ℕ → Bool
is_letter c = is_ascii_lowercase c || is_ascii_uppercase c

-- a letter, a digit or `-`
abbrev pub is_in_word : ℕ → Bool
is_in_word c = is_letter c || is_ascii_digit c || c == 45

-- a token by itself: one of `=`, `,`, `:`, `;`, `(`, `)`, `{`, `}`, `<`, `>`, `.`, `/`, `@` and `_`
abbrev pub is_sign : ℕ → Bool
is_sign c = c == 61 || c == 44 || c == 58 || c == 59 || c == 40 || c == 41 || c == 123 || c == 125 || c == 60 || c == 62 || c == 46 || c == 47 || c == 64 || c == 95

-- how many bytes the character has whose first one this is
abbrev pub width_of : ℕ → ℕ
width_of c = cond (nat_lt c 0xC0) 1 (cond (nat_lt c 0xE0) 2 (cond (nat_lt c 0xF0) 3 4))

-- from one place to another are such bytes alone, and none directly after
pub record IsRun (test : ℕ → Bool) (source : List ℕ) (from end : ℕ) : Type 0 where
  pub order : from ≤ end
  pub within : end ≤ length source
  pub inside : (i : ℕ) → from ≤ i → i < end → test (slice_index source i) ≡ true
  pub stop : end < length source → test (slice_index source end) ≡ false

-- `%` and a run of letters, digits and `-` that begins with a letter
pub record IsEscaped (source : List ℕ) (start end : ℕ) : Type 0 where
  pub prefix : slice_index source start ≡ 37
  pub letter : is_letter (slice_index source (start + 1)) ≡ true
  pub run : IsRun is_in_word source (start + 1) end

-- where what begins at a place ends: a word or a name, a number, an escaped name, an arrow, or nothing
pub record IsEnd (source : List ℕ) (start end : ℕ) : Type 0 where
  pub word : is_letter (slice_index source start) ≡ true → IsRun is_in_word source start end
  pub number : is_letter (slice_index source start) ≡ false → is_ascii_digit (slice_index source start) ≡ true → IsRun is_ascii_digit source start end
  pub escape : slice_index source start ≡ 37 → start < end → IsEscaped source start end
  pub arrow : slice_index source start ≡ 45 → start < end → IsPair source start 45 62 × (end ≡ start + 2)
  pub other : is_letter (slice_index source start) ≡ false → is_ascii_digit (slice_index source start) ≡ false → (slice_index source start ≡ 37 → ⊥) → (slice_index source start ≡ 45 → ⊥) → end ≡ start

-- no word, number, escaped name or arrow begins at the place
pub record IsNoStart (source : List ℕ) (at : ℕ) : Type 0 where
  pub letter : is_letter (slice_index source at) ≡ false
  pub digit : is_ascii_digit (slice_index source at) ≡ false
  pub arrow : IsPair source at 45 62 → ⊥
  pub escape : slice_index source at ≡ 37 → at + 1 < length source → is_letter (slice_index source (at + 1)) ≡ true → ⊥

-- the character from the place to the end begins no token
pub record IsStrange (source : List ℕ) (at end : ℕ) : Type 0 where
  pub within : at < length source
  pub start : IsNoStart source at
  pub sign : is_sign (slice_index source at) ≡ false
  pub whole : end ≡ min (at + width_of (slice_index source at)) (length source)
