-- Sources that come apart: paths and texts one after the other, with the length of each.
use Rattle.std.specs.Prelude.{◌≡◌, ℕ, List, [], ◌∷◌, All, IsUtf8, MatchOption, Option, length, map}
use Rattle.std.specs.List.{concat, flat_map}

-- texts one after the other, and the length of each
pub record ArePieces (bytes lens : List ℕ) (pieces : List (List ℕ)) : Type 0 where
  pub joined : concat pieces ≡ bytes
  pub lengths : map length pieces ≡ lens
  pub texts : All IsUtf8 pieces

-- the pieces of sources: of each its path and its text
abbrev pub flat : List (List ℕ × List ℕ) → List (List ℕ)
flat parts = flat_map (λ p. p.0 ∷ p.1 ∷ []) parts

-- sources of these paths and texts
abbrev pub AreParts : List ℕ → List ℕ → List (List ℕ × List ℕ) → Type 0
AreParts bytes lens parts = ArePieces bytes lens (flat parts)

-- every other piece is a path, with its text after it
abbrev pub pairs_of : List (List ℕ) → List (List ℕ × List ℕ)
pairs_of [] = []
pairs_of (path ∷ []) = []
pairs_of (path ∷ text ∷ rest) = (path, text) ∷ pairs_of rest

-- these texts are the pieces, where there are such
abbrev pub AreFound : {P : Type 0} → Option P → (P → List (List ℕ)) → List ℕ → List ℕ → Type 0
AreFound found texts bytes lens = MatchOption found ((ps : List (List ℕ)) → ArePieces bytes lens ps → ⊥) (λ pieces. ArePieces bytes lens (texts pieces))
