-- Blanks and comments in a source, and no docs.
use Rattle.std.specs.Prelude.{◌≡◌, ℕ, ◌+◌, ◌-◌, ◌<◌, ◌≤◌, ◌==◌, ◌||◌, Bool, true, List, [], length, slice_index}
use Rattle.wit_type_tree.specs.declared.leaves.Docs.{Docs}

-- space, LF, tab or CR
abbrev pub is_blank : ℕ → Bool
is_blank c = c == 32 || c == 10 || c == 9 || c == 13

-- these two bytes are at the place
pub record IsPair (source : List ℕ) (at one two : ℕ) : Type 0 where
  pub within : at + 2 ≤ length source
  pub first : slice_index source at ≡ one
  pub second : slice_index source (at + 1) ≡ two

-- a comment from `//` to the end of its line, without the LF, or to the end of the source
pub record IsLine (source : List ℕ) (at end : ℕ) : Type 0 where
  pub prefix : IsPair source at 47 47
  pub order : at + 2 ≤ end
  pub within : end ≤ length source
  pub inside : (i : ℕ) → at + 2 ≤ i → i < end → slice_index source i ≡ 10 → ⊥
  pub last : end < length source → slice_index source end ≡ 10

-- from a `/*` at a place on, so many comments are open up to a place
pub data IsNested (source : List ℕ) (at : ℕ) : ℕ → ℕ → Type 0 where
  Opened : IsPair source at 47 42 → IsNested source at 1 (at + 2)
  Deeper : (depth place : ℕ) → IsNested source at depth place → 0 < depth → IsPair source place 47 42 → IsNested source at (depth + 1) (place + 2)
  Closed : (depth place : ℕ) → IsNested source at depth place → 0 < depth → IsPair source place 42 47 → IsNested source at (depth - 1) (place + 2)
  Inside : (depth place : ℕ) → IsNested source at depth place → 0 < depth → place < length source → (IsPair source place 47 42 → ⊥) → (IsPair source place 42 47 → ⊥) → IsNested source at depth (place + 1)

-- a comment of a line, or one from `/*` to its own `*/`, where none is open any more
pub data IsComment (source : List ℕ) (at end : ℕ) : Type 0 where
  Line : IsLine source at end → IsComment source at end
  Block : IsNested source at 0 end → IsComment source at end

-- neither a blank nor a comment begins at the place
pub record IsStop (source : List ℕ) (at : ℕ) : Type 0 where
  pub blank : at < length source → is_blank (slice_index source at) ≡ true → ⊥
  pub line : IsPair source at 47 47 → ⊥
  pub block : IsPair source at 47 42 → ⊥

-- no docs
pub record IsNoDocs (docs : Docs) : Type 0 where
  pub comments : docs.docs.items ≡ []
  pub span : docs.span ≡ record { start = 0; end = 0 }
