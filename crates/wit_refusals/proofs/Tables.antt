-- Maps from texts, as contracts see their entries.
use Rattle.std.proofs.Common.{◌≡◌, ◌≢◌, ℕ, zero, suc, List, [], ◌∷◌, true, Some, None, nat_eq, inl, inr, sym, ap, ◌∙◌}
use Rattle.wit_syntax.proofs.Common.{lookup, name_cases, name_itself, pointwise, slice_get}

-- where a value that is found is
pub lookup-at : {V : Type 0} (es : List (List ℕ × V)) (key : List ℕ) (v : V) → lookup (pointwise nat_eq key) es ≡ Some v → (i : ℕ) × (slice_get es i ≡ Some (key, v))
lookup-at [] key v h = absurd (let f : ⊥ = cc in f)
lookup-at {V} (e ∷ es) key v h = elim (name_cases key e.0) [
  | inl same ↦ (
      let hit : pointwise nat_eq key e.0 ≡ true = ap (λ n. pointwise nat_eq n e.0) same ∙ name_itself e.0 in
      let value : Some e.1 ≡ Some v = rw hit at h in
      let is : e.1 ≡ v = cc in
      (0, ap (λ (n : List ℕ). Some (n, e.1)) (sym same) ∙ ap (λ (x : V). Some (key, x)) is))
  | inr other ↦ (let rest = lookup-at es key v (rw other at h) in (suc rest.0, rest.1))
]

-- no entry has a key that is not found
pub lookup-none : {V : Type 0} (es : List (List ℕ × V)) (key : List ℕ) (i : ℕ) (e : List ℕ × V) → lookup (pointwise nat_eq key) es ≡ None → slice_get es i ≡ Some e → e.0 ≢ key
lookup-none [] key i e none at is = absurd (let f : ⊥ = cc in f)
lookup-none {V} (x ∷ es) key i e none at is = elim (name_cases key x.0) [
  | inl same ↦ absurd (hit same)
  | inr other ↦ further i at (λ j there. lookup-none es key j e (rw other at none) there is)
]
  where
    hit : key ≡ x.0 → ⊥
    hit same =
        let found : pointwise nat_eq key x.0 ≡ true = ap (λ n. pointwise nat_eq n x.0) same ∙ name_itself x.0 in
        let wrong : Some x.1 ≡ None = rw found at none in
        cc

    further : (i : ℕ) → slice_get (x ∷ es) i ≡ Some e → ((j : ℕ) → slice_get es j ≡ Some e → ⊥) → ⊥
    further zero at rest = let here : x ≡ e = cc in hit (sym is ∙ sym (ap (λ (y : List ℕ × V). y.0) here))
    further (suc i) at rest = rest i at
