-- What a look at slots finds.
use Rattle.std.proofs.Common.{◌≡◌, ℕ, ◌+◌, ◌<◌, Bool, List, Some, slice_get, ap, arith, ◌∙◌}
use native.Mathlib.Decide.{dec_lt}
use Rattle.wit_maps.specs.Slots.{AreUsed, IsNotAt}

-- no key passes at a place that is in one of the first slots from one on
abbrev pub NoneAmong : {K : Type 0} → (K → Bool) → List K → List ℕ → ℕ → ℕ → Type 0
NoneAmong t ks slots h count = (v j : ℕ) → v < count → slice_get slots (h + v) ≡ Some (1 + j) → IsNotAt t ks j

-- so after one more slot
pub none_more : {K : Type 0} (t : K → Bool) (ks : List K) (slots : List ℕ) (h n : ℕ)
    → AreUsed slots h n × NoneAmong t ks slots h n
    → (slice_get slots (h + n) ≡ Some 0 → ⊥) → ((j : ℕ) → slice_get slots (h + n) ≡ Some (1 + j) → IsNotAt t ks j)
    → AreUsed slots h (n + 1) × NoneAmong t ks slots h (n + 1)
none_more t ks slots h n before used none = (
  λ v below at. elim (dec_lt v n) [
    | yes b ↦ before.0 v b at
    | no last ↦ let e : n ≡ v = omega arith in used (ap (λ m. slice_get slots (h + m)) e ∙ at)
  ],
  λ v j below at. elim (dec_lt v n) [
    | yes b ↦ before.1 v j b at
    | no last ↦ let e : n ≡ v = omega arith in none j (ap (λ m. slice_get slots (h + m)) e ∙ at)
  ],
)
