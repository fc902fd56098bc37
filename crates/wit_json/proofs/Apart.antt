-- Keys that are pairwise different.
use Rattle.std.proofs.Common.{◌≡◌, ◌≢◌, ℕ, zero, suc, ◌<◌, Bool, true, false, not, ◌&&◌, List, [], ◌∷◌, length, slice_index_or, refl, arith}
use Rattle.std.specs.Prelude.{⊤, bytes_eq}
use Rattle.std.proofs.lemmas.Slice.Eq.{bytes_eq-Decides}
use Rattle.json.specs.Strict.{AreDistinct}

abbrev pub IsNew : List ℕ → List (List ℕ) → Type 0
IsNew k [] = ⊤
IsNew k (l ∷ ls) = (k ≢ l) × IsNew k ls

abbrev pub Apart : List (List ℕ) → Type 0
Apart [] = ⊤
Apart (k ∷ ks) = IsNew k ks × Apart ks

first_so : (s t : Bool) → (s && t) ≡ true → s ≡ true
first_so true t h = refl
first_so false t h = h

second_so : (s t : Bool) → (s && t) ≡ true → t ≡ true
second_so true t h = h
second_so false t h = absurd (cc h)

-- the same, as it is computed of a list that is known

abbrev pub is_new : List ℕ → List (List ℕ) → Bool
is_new k [] = true
is_new k (l ∷ ls) = not (bytes_eq k l) && is_new k ls

abbrev pub are_apart : List (List ℕ) → Bool
are_apart [] = true
are_apart (k ∷ ks) = is_new k ks && are_apart ks

differ : (k l : List ℕ) (b : Bool) → bytes_eq k l ≡ b → not b ≡ true → k ≢ l
differ k l true is flag same = absurd (cc flag)
differ k l false is flag same = let yes = (bytes_eq-Decides k l).1 same in absurd (cc (yes, is))

new_of : (k : List ℕ) (ls : List (List ℕ)) → is_new k ls ≡ true → IsNew k ls
new_of k [] h = tt
new_of k (l ∷ ls) h = (differ k l (bytes_eq k l) refl (first_so (not (bytes_eq k l)) (is_new k ls) h), new_of k ls (second_so (not (bytes_eq k l)) (is_new k ls) h))

pub apart_of : (ks : List (List ℕ)) → are_apart ks ≡ true → Apart ks
apart_of [] h = tt
apart_of (k ∷ ks) h = (new_of k ks (first_so (is_new k ks) (are_apart ks) h), apart_of ks (second_so (is_new k ks) (are_apart ks) h))

new_at : (k : List ℕ) (ls : List (List ℕ)) → IsNew k ls → (j : ℕ) (d : List ℕ) → j < length ls → k ≢ slice_index_or ls j d
new_at k [] new j d within = absurd (omega (arith, within))
new_at k (l ∷ ls) new zero d within = new.0
new_at k (l ∷ ls) new (suc j) d within = new_at k ls new.1 j d (omega (arith, within))

pub distinct_of : (ks : List (List ℕ)) → Apart ks → AreDistinct ks
distinct_of [] apart i j d lt within = absurd (omega (arith, within))
distinct_of (k ∷ ks) apart zero zero d lt within = absurd (omega (arith, lt))
distinct_of (k ∷ ks) apart zero (suc j) d lt within = new_at k ks apart.0 j d (omega (arith, within))
distinct_of (k ∷ ks) apart (suc i) zero d lt within = absurd (omega (arith, lt))
distinct_of (k ∷ ks) apart (suc i) (suc j) d lt within = distinct_of ks apart.1 i j d (omega (arith, lt)) (omega (arith, within))
