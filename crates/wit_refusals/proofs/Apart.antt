-- Texts whose hashes differ.
use Rattle.std.proofs.Common.{◌≡◌, ℕ, ◌<◌, ◌==◌, true, false, List, Some, get_or, inl, inr, sym, ap, ◌∙◌, arith}
use Rattle.wit_syntax.proofs.Common.{AllDiffer, IsDistinct, IsDistinct-IsPermutation, IsDistinct-from_apart, IsPermutation, IsPermutation-sym, IsStrictlyIncreasing, apart_from_distinct, below_from_sorted, cases_Bool, eq-eqb, eqb-true, get_or_from_slice_get, length-map, map, ne_eqb, option_map, slice_get, slice_get-map, slice_get_within, sorted_from_strictly_increasing}
use Rattle.wit_refusals.specs.KeyHashes.{key_hash_of}

same_turned : (x y : ℕ) → (x == y) ≡ (y == x)
same_turned x y = elim (cases_Bool (x == y)) [
  | inl same ↦ same ∙ sym (eq-eqb y x (sym (eqb-true x y same)))
  | inr other ↦ other ∙ sym (ne_eqb y x (λ e. (let wrong : true ≡ false = sym (eq-eqb x y (sym e)) ∙ other in let f : ⊥ = cc in f)))
]

rising_apart : (ds : List ℕ) → IsStrictlyIncreasing ds → IsDistinct (λ x y. x == y) ds
rising_apart ds up = IsDistinct-from_apart (λ x y. x == y) ds (λ i j d lt within.
    (let less = below_from_sorted ds i j d (sorted_from_strictly_increasing ds up) lt within in ne_eqb (get_or ds i d) (get_or ds j d) (λ e. (let f : ⊥ = omega arith in f))))

-- texts are distinguished by numbers that are made of them and rise once they are in order
pub differ_by_key_hashes : (texts : List (List ℕ)) (ds : List ℕ) → IsPermutation (map key_hash_of texts) ds → IsStrictlyIncreasing ds → AllDiffer texts
differ_by_key_hashes texts ds turned up = record { differ = λ i j x ati atj. same_place i j x ati atj }
  where
    apart : IsDistinct (λ x y. x == y) (map key_hash_of texts)
    apart = IsDistinct-IsPermutation (λ x y. x == y) same_turned ds (map key_hash_of texts) (IsPermutation-sym (map key_hash_of texts) ds turned) (rising_apart ds up)

    key_hash_at : (i : ℕ) (x : List ℕ) → slice_get texts i ≡ Some x → get_or (map key_hash_of texts) i 0 ≡ key_hash_of x
    key_hash_at i x at = get_or_from_slice_get (map key_hash_of texts) i (key_hash_of x) 0 (slice_get-map key_hash_of texts i ∙ ap (option_map key_hash_of) at)

    not_before : (i j : ℕ) (x : List ℕ) → slice_get texts i ≡ Some x → slice_get texts j ≡ Some x → i < j → ⊥
    not_before i j x ati atj lt =
        let within = slice_get_within texts j x atj in
        let differ = apart_from_distinct (λ x y. x == y) (map key_hash_of texts) i j 0 apart lt (omega (arith, length-map texts key_hash_of)) in
        let alike = eq-eqb _ _ (key_hash_at i x ati ∙ sym (key_hash_at j x atj)) in
        let wrong : true ≡ false = sym alike ∙ differ in
        cc

    same_place : (i j : ℕ) (x : List ℕ) → slice_get texts i ≡ Some x → slice_get texts j ≡ Some x → i ≡ j
    same_place i j x ati atj =
        let one = not_before i j x ati atj in
        let other = not_before j i x atj ati in
        omega arith
