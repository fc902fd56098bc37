-- Items that are twice in a list.
use Rattle.std.specs.Prelude.{◌≡◌, ℕ, ◌<◌, Bool, not, List, [], ◌∷◌, Some, slice_get}
use Rattle.std.specs.List.{filter}

-- what is at an earlier place is at a later one too
pub record IsRepeatAt {X : Type 0} (xs : List X) (first second : ℕ) : Type 0 where
  pub x : X
  pub before : first < second
  pub at_first : slice_get xs first ≡ Some x
  pub at_second : slice_get xs second ≡ Some x

-- what is at two places is not equal
pub record AllDiffer {X : Type 0} (xs : List X) : Type 0 where
  pub differ : (i j : ℕ) (x : X) → slice_get xs i ≡ Some x → slice_get xs j ≡ Some x → i ≡ j

-- the first of each, where `same` says which are one
abbrev pub firsts : {X : Type 0} → (X → X → Bool) → List X → List X
firsts same [] = []
firsts same (x ∷ xs) = x ∷ filter (λ y. not (same x y)) (firsts same xs)
