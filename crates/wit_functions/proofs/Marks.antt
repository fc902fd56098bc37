-- A list that holds what a search looks for.
use Rattle.std.proofs.Common.{◌≡◌, ◌<◌, Bool, true, List, [], ◌∷◌, length, inl, inr, arith}
use Rattle.std.proofs.lemmas.Bool.{cases_Bool}
use Rattle.std.specs.List.{list_any, position_or_len}

-- the search ends before the list does
pub position_or_len-found : {X : Type 0} (t : X → Bool) (xs : List X) → list_any t xs ≡ true → position_or_len t xs < length xs
position_or_len-found t [] h = cc
position_or_len-found t (x ∷ xs) h = elim (cases_Bool (t x)) [
  | inl hit ↦ rw hit (omega arith)
  | inr miss ↦ let more = position_or_len-found t xs (rw miss at h) in rw miss (omega (arith, more))
]
