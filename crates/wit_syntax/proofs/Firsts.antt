-- The first of each in a list, where what is the same has the same key.
use Rattle.std.proofs.Common.{◌≡◌, ℕ, zero, suc, Bool, true, false, not, List, [], ◌∷◌, ◌++◌, Some, ◌⊎◌, inl, inr, refl, sym, ap, ◌∙◌}
use Rattle.std.specs.Prelude.{slice_get, map}
use Rattle.std.specs.List.{filter}
use Rattle.std.proofs.lemmas.Bool.{both_ways, cases_Bool, cond-true, cond-false, not-true, not_from_true, not_from_false}
use Rattle.std.proofs.lemmas.List.{append-nil}
use Rattle.std.proofs.lemmas.List.Elements.{filter-append}
use Rattle.wit_syntax.specs.Repeats.{AllDiffer, firsts}
use Rattle.wit_syntax.proofs.Repeated.{differ_none}
use Rattle.wit_syntax.proofs.Kept.{after_one, kept_at, kept_has, kept_differ, differ_cons}

-- one of a list is the same as this one
pub record IsListed {X : Type 0} (same : X → X → Bool) (xs : List X) (x : X) : Type 0 where
  pub place : ℕ
  pub y : X
  pub at : slice_get xs place ≡ Some y
  pub is : same y x ≡ true

-- none of a list is
abbrev pub IsUnlisted : {X : Type 0} → (X → X → Bool) → List X → X → Type 0
IsUnlisted {X} same xs x = (i : ℕ) (y : X) → slice_get xs i ≡ Some y → same y x ≡ false

module _ {X : Type 0} (same : X → X → Bool) where
  -- what is listed is in the list
  pub firsts_at : (xs : List X) (j : ℕ) (x : X) → slice_get (firsts same xs) j ≡ Some x → (i : ℕ) × (slice_get xs i ≡ Some x)
  firsts_at [] j x at = absurd (let f : ⊥ = cc in f)
  firsts_at (y ∷ xs) j x at = elim (after_one y (filter (λ z. not (same y z)) (firsts same xs)) j x at) [
    | inl here ↦ (0, ap Some here)
    | inr rest ↦ (
        let k = kept_at (λ z. not (same y z)) (firsts same xs) rest.0 x rest.1 in
        let it = firsts_at xs k.0 x k.1 in
        (suc it.0, it.1))
  ]

  -- one more is either known, or listed last
  pub firsts-more : (xs : List X) (x : X) → (IsListed same xs x × (firsts same (xs ++ x ∷ []) ≡ firsts same xs)) ⊎ (IsUnlisted same xs x × (firsts same (xs ++ x ∷ []) ≡ firsts same xs ++ x ∷ []))
  firsts-more [] x = inr (λ i y at. absurd (let f : ⊥ = cc in f), refl)
  firsts-more (y ∷ xs) x = elim (firsts-more xs x) [
    | inl known ↦ inl (record { place = suc known.0.place; y = known.0.y; at = known.0.at; is = known.0.is }, ap (λ l. y ∷ filter (λ z. not (same y z)) l) known.1)
    | inr fresh ↦ (
        let test = λ (z : X). not (same y z) in
        let whole : firsts same (y ∷ (xs ++ x ∷ [])) ≡ y ∷ (filter test (firsts same xs) ++ filter test (x ∷ [])) = ap (λ l. y ∷ filter test l) fresh.1 ∙ ap (λ l. y ∷ l) (filter-append test (firsts same xs) (x ∷ [])) in
        elim (cases_Bool (same y x)) [
          | inl hit ↦ inl (record { place = 0; y = y; at = refl; is = hit }, whole ∙ ap (λ l. y ∷ (filter test (firsts same xs) ++ l)) (cond-false (test x) (x ∷ []) [] (not_from_true (same y x) hit)) ∙ ap (λ l. y ∷ l) (append-nil (filter test (firsts same xs))))
          | inr miss ↦ inr (none_of y xs x miss fresh.0, whole ∙ ap (λ l. y ∷ (filter test (firsts same xs) ++ l)) (cond-true (test x) (x ∷ []) [] (not_from_false (same y x) miss)))
        ])
  ]
    where
      none_of : (y : X) (xs : List X) (x : X) → same y x ≡ false → IsUnlisted same xs x → IsUnlisted same (y ∷ xs) x
      none_of y xs x miss rest zero z at = (let here : y ≡ z = cc in ap (λ w. same w x) (sym here) ∙ miss)
      none_of y xs x miss rest (suc i) z at = rest i z at

  module _ {K : Type 0} (key : X → K) (from : (x y : X) → key x ≡ key y → same x y ≡ true) (equal : (x y : X) → same x y ≡ true → key x ≡ key y) where
    -- each of the list is the same as a listed one
    pub firsts_has : (xs : List X) (i : ℕ) (x : X) → slice_get xs i ≡ Some x → (j : ℕ) × (y : X) × (slice_get (firsts same xs) j ≡ Some y) × (key y ≡ key x)
    firsts_has [] i x at = absurd (let f : ⊥ = cc in f)
    firsts_has (y ∷ xs) zero x at = (let here : y ≡ x = cc in (0, y, refl, ap key here))
    firsts_has (y ∷ xs) (suc i) x at =
        let it = firsts_has xs i x at in
        elim (cases_Bool (same y it.1)) [
          | inl hit ↦ (0, y, refl, equal y it.1 hit ∙ it.3)
          | inr miss ↦ (let k = kept_has (λ z. not (same y z)) (firsts same xs) it.0 it.1 (not_from_false (same y it.1) miss) it.2 in (suc k.0, it.1, k.1, it.3))
        ]

    -- no two that are listed are the same
    pub firsts_differ : (xs : List X) → AllDiffer (map key (firsts same xs))
    firsts_differ [] = differ_none
    firsts_differ (x ∷ xs) =
        let other = λ (y : X). not (same x y) in
        differ_cons key x (filter other (firsts same xs)) (λ i y at is. (
        let k = kept_at other (firsts same xs) i y at in
        both_ways (same x y) (not-true (same x y) k.2) (from x y (sym is)))) (kept_differ key other (firsts same xs) (firsts_differ xs))
