-- Lists in which something holds of each element, and lists whose elements differ.
use Rattle.std.proofs.Common.{◌≡◌, ℕ, zero, suc, ◌+◌, List, [], ◌∷◌, ◌++◌, map, take, Some, inl, inr, sym, ap, ◌∙◌, subst, arith}
use Rattle.wit_arena.proofs.Common.{All, AllDiffer, AllPairs, at_split, differ_none, get_or_from_slice_get, map_at, slice_get, slice_get-get_or, slice_get_within, slice_index_or, take_next, ◌≢◌}
use Rattle.wit_json.specs.DistinctKeys.{HasOwnKeys}

pub all_at : {X : Type 0} (P : X → Type 0) (xs : List X) → ((i : ℕ) (x : X) → slice_get xs i ≡ Some x → P x) → All P xs
all_at P xs each k d within = each k (slice_index_or xs k d) (slice_get-get_or xs k d within)

pub at_all : {X : Type 0} (P : X → Type 0) (xs : List X) → All P xs → (i : ℕ) (x : X) → slice_get xs i ≡ Some x → P x
at_all P xs all i x at = subst P (get_or_from_slice_get xs i x x at) (all i x (slice_get_within xs i x at))

pub all_none : {X : Type 0} (P : X → Type 0) → All P []
all_none P = all_at P [] (λ i x at. absurd (let f : ⊥ = cc in f))

pub all_more : {X : Type 0} (P : X → Type 0) (x : X) (xs : List X) → P x → All P xs → All P (x ∷ xs)
all_more {X} P x xs one all = all_at P (x ∷ xs) go
  where
    go : (i : ℕ) (y : X) → slice_get (x ∷ xs) i ≡ Some y → P y
    go zero y at = (let same : x ≡ y = cc in subst P same one)
    go (suc i) y at = at_all P xs all i y at

pub all_tail : {X : Type 0} (P : X → Type 0) (x : X) (xs : List X) → All P (x ∷ xs) → All P xs
all_tail P x xs all = all_at P xs (λ i y at. at_all P (x ∷ xs) all (suc i) y at)

pub all_both : {X : Type 0} (P : X → Type 0) (xs ys : List X) → All P xs → All P ys → All P (xs ++ ys)
all_both P xs ys a b = all_at P (xs ++ ys) (λ i x at. elim (at_split xs ys i x at) [
  | inl h ↦ at_all P xs a i x h
  | inr h ↦ at_all P ys b h.0 x h.2
])

-- one more element of the prefix of a list
pub all_next : {X : Type 0} (P : X → Type 0) (xs : List X) (i : ℕ) (x : X) → slice_get xs i ≡ Some x → All P (take i xs) → P x → All P (take (i + 1) xs)
all_next {X} P xs i x at all one = subst (λ (l : List X). All P l) (sym (take_next xs i x at)) (all_both P (take i xs) (x ∷ []) all (all_more P x [] one (all_none P)))

pub all_map : {X Y : Type 0} (P : Y → Type 0) (f : X → Y) (xs : List X) → ((i : ℕ) (x : X) → slice_get xs i ≡ Some x → P (f x)) → All P (map f xs)
all_map P f xs each = all_at P (map f xs) (λ i y at. (let it = map_at f xs i y at in subst P it.2 (each i it.0 it.1)))

-- where elements differ, no two of them are equal
pub pairs_differ : {X : Type 0} (xs : List X) → AllDiffer xs → AllPairs (λ a b. a ≢ b) xs
pairs_differ xs d i j c before within same =
    let one : slice_get xs i ≡ Some (slice_index_or xs i c) = slice_get-get_or xs i c (omega (arith, before, within)) in
    let other : slice_get xs j ≡ Some (slice_index_or xs j c) = slice_get-get_or xs j c within in
    let place : i ≡ j = d.differ i j (slice_index_or xs j c) (one ∙ ap Some same) other in
    omega (arith, before, place)

-- so are no two keys of a map
pub own_keys : {K A : Type 0} (entries : List (K × A)) → AllDiffer (map (λ (e : K × A). e.0) entries) → HasOwnKeys entries
own_keys {K} {A} entries d = pairs_differ (map (λ (e : K × A). e.0) entries) d

pub no_keys : (K A : Type 0) → HasOwnKeys {K = K} {A = A} []
no_keys K A = own_keys {K = K} {A = A} [] differ_none
