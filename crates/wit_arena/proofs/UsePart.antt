-- Names that a table lists.
use Rattle.std.proofs.Common.{◌≡◌, ℕ, zero, suc, List, [], ◌∷◌, Some, IsSome, true, inl, inr, nat_eq, refl, sym, ap, ◌∙◌}
use Rattle.wit_arena.proofs.Names.{HasNames, Names, ScopeName, env_of, local_name, local_names, lookup, map, name_cases, name_itself, option_map, pointwise, slice_get, slice_get-map}

-- a name that is listed finds a value
pub lookup-listed : (es : Names) (k : ℕ) (name : List ℕ) → slice_get (map (λ p. p.0) es) k ≡ Some name → IsSome (lookup (pointwise nat_eq name) es)
lookup-listed [] k name at = absurd (let f : ⊥ = cc in f)
lookup-listed (e ∷ es) zero name at = (let same : e.0 ≡ name = cc in let hit : pointwise nat_eq name e.0 ≡ true = ap (λ n. pointwise nat_eq n e.0) (sym same) ∙ name_itself e.0 in rw hit refl)
lookup-listed (e ∷ es) (suc k) name at = elim (name_cases name e.0) [
  | inl same ↦ (let hit : pointwise nat_eq name e.0 ≡ true = ap (λ n. pointwise nat_eq n e.0) same ∙ name_itself e.0 in rw hit refl)
  | inr other ↦ rw other (lookup-listed es k name at)
]

-- where the names of a table are those of names of a scope, it has each of them
pub listed_has : (names : Names) (xs : List ScopeName) → map (λ p. p.0) names ≡ local_names xs → HasNames (env_of names) xs
listed_has names xs listed = record {
  has = λ i x at. lookup-listed names i (local_name x) (ap (λ (l : List (List ℕ)). slice_get l i) listed ∙ slice_get-map local_name xs i ∙ ap (option_map local_name) at);
}
