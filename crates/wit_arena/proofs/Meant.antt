-- What names mean in a scope, and what its table has for them.
use Rattle.std.proofs.Common.{◌≡◌, ℕ, List, Option, Some, None, IsSome, ap, ◌∙◌, subst}
use Rattle.wit_arena.proofs.Names.{IsOrder, Names, ScopeName, bytes_eq, env_of, find_at, find_passes, in_turn, in_turn_has, local_name, local_names, map, meaning, name_equal, option_map, rows_of, slice_get, slice_get-map}
use Rattle.wit_arena.proofs.ForeignUses.{option_cases}
use Rattle.wit_arena.proofs.UsePart.{lookup-listed}

-- a table that has the names of a scope, in whichever order
module _ (xs ys : List ScopeName) (types : Names) (listed : map (λ p. p.0) types ≡ local_names ys) (name : List ℕ) where
  -- what it lacks means nothing
  pub lacks_nothing : ((p : ℕ) (x : ScopeName) → slice_get xs p ≡ Some x → (i : ℕ) × (slice_get ys i ≡ Some x)) → env_of types name ≡ None → meaning xs name ≡ None
  lacks_nothing has free = option_cases (meaning xs name) (meaning xs name ≡ None) (λ x found. absurd (
      let p = find_at (λ (y : ScopeName). bytes_eq (local_name y) name) xs x found in
      let called = name_equal (local_name x) name (find_passes (λ (y : ScopeName). bytes_eq (local_name y) name) xs x found) in
      let t = has p.0 x p.1 in
      let named : slice_get (map (λ (q : List ℕ × ℕ). q.0) types) t.0 ≡ Some name = ap (λ (l : List (List ℕ)). slice_get l t.0) listed ∙ slice_get-map local_name ys t.0 ∙ ap (option_map local_name) t.1 ∙ ap Some called in
      let wrong : IsSome {T = ℕ} None = subst (λ (v : Option ℕ). IsSome v) free (lookup-listed types t.0 name named) in
      cc)) (λ none. none)

-- so it is of the names of a scope as they were resolved
pub free_unmeant : (xs : List ScopeName) (order : List ℕ) (types : Names) (name : List ℕ) → IsOrder (rows_of xs) order → map (λ p. p.0) types ≡ local_names (in_turn xs order) → env_of types name ≡ None → meaning xs name ≡ None
free_unmeant xs order types name least listed free = lacks_nothing xs (in_turn xs order) types listed name (in_turn_has xs order least) free
