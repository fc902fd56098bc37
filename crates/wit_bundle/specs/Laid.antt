-- Sources laid out one after the other, each with a range of places of its own.
use Rattle.std.specs.Prelude.{◌≡◌, ℕ, ◌+◌, List, [], ◌∷◌, length, sum_by}
use Rattle.wit_lex.specs.declared.source.Source.{Source}
use Rattle.wit_lex.specs.Sources.{as_stated}

-- paths and texts with their places: the first begins at this one, each other one place after the end of the one before
abbrev pub laid_out : ℕ → List (List ℕ × List ℕ) → List (List ℕ × List ℕ × ℕ)
laid_out place [] = []
laid_out place (s ∷ rest) = (s.0, s.1, place) ∷ laid_out (place + (length s.1 + 1)) rest

-- the places that they take: as many as they have bytes, and one more for each
abbrev pub room : List (List ℕ × List ℕ) → ℕ
room parts = sum_by (λ s. length s.1 + 1) parts

-- these are the sources of these paths and texts
pub record AreLaid (parts : List (List ℕ × List ℕ)) (sources : List Source) : Type 0 where
  pub are : as_stated sources ≡ laid_out 0 parts
