-- Names are the same, or are not.
use Rattle.std.proofs.Common.{◌≡◌, ℕ, Bool, true, false, List, ◌⊎◌, inl, inr, nat_eq, refl}
use Rattle.std.specs.Cmp.Lexicographic.{pointwise}
use Rattle.std.proofs.lemmas.Slice.Eq.{bytes_eq-Decides}

pub name_cases : (xs ys : List ℕ) → (xs ≡ ys) ⊎ (pointwise nat_eq xs ys ≡ false)
name_cases xs ys = go (pointwise nat_eq xs ys) refl
  where
    go : (b : Bool) → pointwise nat_eq xs ys ≡ b → (xs ≡ ys) ⊎ (pointwise nat_eq xs ys ≡ false)
    go true e = inl ((bytes_eq-Decides xs ys).0 e)
    go false e = inr e

pub name_itself : (xs : List ℕ) → pointwise nat_eq xs xs ≡ true
name_itself xs = (bytes_eq-Decides xs xs).1 refl

pub name_equal : (xs ys : List ℕ) → pointwise nat_eq xs ys ≡ true → xs ≡ ys
name_equal xs ys h = (bytes_eq-Decides xs ys).0 h
