-- An entry that passes is sought from the prefix of a list.
use Rattle.std.proofs.Common.{◌≡◌, ℕ, zero, suc, ◌<◌, ◌≤◌, Bool, true, false, ◌||◌, List, [], ◌∷◌, length, slice_get, Some, refl, ap, ◌∙◌, arith, unwrap_or}
use Rattle.wit_syntax.proofs.Common.{list_any}

same_entry : {A : Type 0} {x y : A} → Some x ≡ Some y → x ≡ y
same_entry {A} {x} e = ap (λ r. unwrap_or r x) e

or-true : (b : Bool) → b || true ≡ true
or-true true = refl
or-true false = refl

module _ {E : Type 0} (p : E → Bool) where
  -- no entry before a place passes
  abbrev pub NoneBefore : List E → ℕ → Type 0
  NoneBefore es i = (j : ℕ) (e : E) → j < i → slice_get es j ≡ Some e → p e ≡ false

  pub list_any-none : (es : List E) (n : ℕ) → length es ≤ n → NoneBefore es n → list_any p es ≡ false
  list_any-none [] n l none = refl
  list_any-none (x ∷ es) zero l none = absurd (let f : ⊥ = omega (arith, l) in f)
  list_any-none (x ∷ es) (suc n) l none =
      ap (λ b. b || list_any p es) (none zero x (omega arith) refl)
      ∙ list_any-none es n (omega (arith, l)) (λ j e before at. none (suc j) e (omega (arith, before)) at)

  pub list_any-here : (es : List E) (i : ℕ) (e : E) → slice_get es i ≡ Some e → p e ≡ true → list_any p es ≡ true
  list_any-here [] i e at hit = absurd (let f : ⊥ = cc in f)
  list_any-here (x ∷ es) zero e at hit = ap (λ b. b || list_any p es) (ap p (same_entry at) ∙ hit)
  list_any-here (x ∷ es) (suc i) e at hit = ap (λ b. p x || b) (list_any-here es i e at hit) ∙ or-true (p x)
