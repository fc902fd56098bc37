-- What begins at a place between tokens.
use Rattle.std.specs.Prelude.{◌≡◌, ℕ, ◌+◌, ◌-◌, ◌<◌, ◌≤◌, true, List, length, slice_index}
use Rattle.wit_type_tree.specs.Comments.{IsComment, IsNested, IsPair, IsStop, is_blank}
use Rattle.wit_lex.specs.declared.blank.Blank.{Blank}
use Rattle.wit_lex.specs.declared.blank.Blank.TheVariants.{Space, Comment, Endless, Nothing}

-- a comment whole, which can be cut out of its source
pub record IsWhole (source : List ℕ) (at end : ℕ) : Type 0 where
  pub comment : IsComment source at end
  pub order : at + 2 ≤ end
  pub within : end ≤ length source
  pub first : slice_index source at ≡ 47
  pub last : end < length source → 128 ≤ slice_index source end → slice_index source (end - 1) < 128

-- from one place to another there are blanks and comments alone
pub data IsSkipped (source : List ℕ) (from : ℕ) : ℕ → Type 0 where
  Here : IsSkipped source from from
  PastBlank : (at : ℕ) → IsSkipped source from at → at < length source → is_blank (slice_index source at) ≡ true → IsSkipped source from (at + 1)
  PastComment : (at end : ℕ) → IsSkipped source from at → IsComment source at end → IsSkipped source from end

-- the first place from another one on where neither a blank nor a comment begins
pub record IsFirst (source : List ℕ) (from at : ℕ) : Type 0 where
  pub skipped : IsSkipped source from at
  pub stop : IsStop source at

-- block comments from a place on, of which some are still open where at most one byte is left
pub record IsEndless (source : List ℕ) (at : ℕ) : Type 0 where
  pub prefix : IsPair source at 47 42
  pub depth : ℕ
  pub place : ℕ
  pub nested : IsNested source at depth place
  pub some : 0 < depth
  pub last : length source ≤ place + 1

-- no `/` from one place up to another
abbrev pub IsNoSlash : List ℕ → ℕ → ℕ → Type 0
IsNoSlash source from to = (i : ℕ) → from ≤ i → i < to → slice_index source i ≡ 47 → ⊥

-- the first `/` from a place on
pub record IsNextSlash (source : List ℕ) (from at : ℕ) : Type 0 where
  pub low : from ≤ at
  pub high : at < length source
  pub slash : slice_index source at ≡ 47
  pub before : IsNoSlash source from at

abbrev pub Begins : List ℕ → ℕ → Blank → Type 0
Begins source at Space = is_blank (slice_index source at) ≡ true
Begins source at (Comment end) = IsWhole source at end
Begins source at Endless = IsEndless source at
Begins source at Nothing = IsStop source at
