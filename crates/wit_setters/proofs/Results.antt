-- What a name finds in a map once something was put at a name.
use Rattle.std.proofs.Common.{◌≡◌, ℕ, true, false, cond, List, [], ◌∷◌, Some, inl, inr, nat_eq, refl, sym, ap, ◌∙◌}
use Rattle.wit_syntax.proofs.Common.{insert_entry, lookup, name_cases, name_itself, pointwise}

-- what a name finds once something was put at a name
pub lookup-inserted : {V : Type 0} (es : List (List ℕ × V)) (k q : List ℕ) (v : V) → lookup (pointwise nat_eq q) (insert_entry (pointwise nat_eq) es k v) ≡ cond (pointwise nat_eq q k) (Some v) (lookup (pointwise nat_eq q) es)
lookup-inserted [] k q v = refl
lookup-inserted (e ∷ es) k q v = elim (name_cases k e.0) [
  | inl same ↦ elim (name_cases q k) [
    | inl here ↦ rw (here, same) (simp name_itself)
    | inr other ↦ (let miss : pointwise nat_eq q e.0 ≡ false = ap (pointwise nat_eq q) (sym same) ∙ other in rw (other, same, name_itself e.0, miss) refl)
  ]
  | inr miss ↦ elim (name_cases q e.0) [
    | inl here ↦ (let other : pointwise nat_eq q k ≡ false = apart q k (λ same. (let wrong : pointwise nat_eq k e.0 ≡ true = ap (λ n. pointwise nat_eq n e.0) (sym same ∙ here) ∙ name_itself e.0 in let f : ⊥ = cc in f)) in rw (miss, other) (rw (here, name_itself e.0) refl))
    | inr far ↦ rw (miss, far) (lookup-inserted es k q v)
  ]
]
  where
    apart : (q k : List ℕ) → (q ≡ k → ⊥) → pointwise nat_eq q k ≡ false
    apart q k not_same = elim (name_cases q k) [
      | inl same ↦ absurd (not_same same)
      | inr other ↦ other
    ]
