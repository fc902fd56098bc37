-- A list in one piece, cut into rows where each begins.
use Rattle.std.specs.Prelude.{ℕ, ◌+◌, ◌-◌, ◌<◌, ◌≤◌, List, [], ◌∷◌, length, take, drop, slice_index}

-- what is from a on and before b
abbrev pub between : ℕ → ℕ → List ℕ → List ℕ
between a b xs = take (b - a) (drop a xs)

-- the rows from start on, each up to the start of the next
abbrev pub cut_from : ℕ → List ℕ → List ℕ → List (List ℕ)
cut_from start [] xs = []
cut_from start (next ∷ more) xs = between start next xs ∷ cut_from next more xs

-- the rows that begin at these places; the last place is where the last row ends
abbrev pub cut : List ℕ → List ℕ → List (List ℕ)
cut [] xs = []
cut (start ∷ more) xs = cut_from start more xs

-- the list can be cut at these places
pub record IsCut (starts xs : List ℕ) : Type 0 where
  pub some : 0 < length starts
  pub rises : (i : ℕ) → i + 1 < length starts → slice_index starts i ≤ slice_index starts (i + 1)
  pub within : (i : ℕ) → i < length starts → slice_index starts i ≤ length xs
