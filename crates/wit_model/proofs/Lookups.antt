-- The value at the first key of a list that passes.
use Rattle.std.proofs.Common.{◌≡◌, ℕ, zero, suc, ◌<◌, ◌≤◌, Bool, true, false, cond, List, [], ◌∷◌, length, slice_get, Some, None, refl, ap, ◌∙◌, arith, unwrap_or}
use Rattle.std.specs.Map.{lookup}

same_entry : {A : Type 0} {x y : A} → Some x ≡ Some y → x ≡ y
same_entry {A} {x} e = ap (λ r. unwrap_or r x) e

module _ {K X : Type 0} (t : K → Bool) where
  -- no key before a place passes
  abbrev pub NoneBefore : List (K × X) → ℕ → Type 0
  NoneBefore es i = (j : ℕ) (e : K × X) → j < i → slice_get es j ≡ Some e → t e.0 ≡ false

  pub lookup-none : (es : List (K × X)) (n : ℕ) → length es ≤ n → NoneBefore es n → lookup t es ≡ None
  lookup-none [] n l none = refl
  lookup-none (x ∷ es) zero l none = absurd (let f : ⊥ = omega (arith, l) in f)
  lookup-none (x ∷ es) (suc n) l none =
      ap (λ b. cond b (Some x.1) (lookup t es)) (none zero x (omega arith) refl)
      ∙ lookup-none es n (omega (arith, l)) (λ j e before at. none (suc j) e (omega (arith, before)) at)

  pub lookup-here : (es : List (K × X)) (i : ℕ) (e : K × X) → NoneBefore es i → slice_get es i ≡ Some e → t e.0 ≡ true → lookup t es ≡ Some e.1
  lookup-here [] i e none at hit = absurd (let f : ⊥ = cc in f)
  lookup-here (x ∷ es) zero e none at hit =
      ap (λ b. cond b (Some x.1) (lookup t es)) (ap (λ (y : K × X). t y.0) (same_entry at) ∙ hit)
      ∙ ap (λ (y : K × X). Some y.1) (same_entry at)
  lookup-here (x ∷ es) (suc i) e none at hit =
      ap (λ b. cond b (Some x.1) (lookup t es)) (none zero x (omega arith) refl)
      ∙ lookup-here es i e (λ j y before there. none (suc j) y (omega (arith, before)) there) at hit
