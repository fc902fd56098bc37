-- Elements of a list with their places, and the first one that passes a test.
use Rattle.std.proofs.Common.{◌≡◌, ℕ, List, Option, Some, None, IsSome, refl, ap, ◌∙◌, suc, Bool, [], ◌∷◌, inl, inr, zero, true, sym}
use Rattle.std.specs.Prelude.{slice_get, Contains, find}
use Rattle.std.specs.List.{list_any}
use Rattle.std.proofs.lemmas.Option.{slice_get-get_or, slice_get_within, get_or_from_slice_get}
use Rattle.std.proofs.lemmas.Bool.{cases_Bool}

pub contains_at : {X : Type 0} (xs : List X) (i : ℕ) (x : X) → slice_get xs i ≡ Some x → Contains xs x
contains_at xs i x at = (i, slice_get_within xs i x at, get_or_from_slice_get xs i x x at)

pub at_contains : {X : Type 0} (xs : List X) (x : X) → Contains xs x → (j : ℕ) × (slice_get xs j ≡ Some x)
at_contains xs x h = (h.0, slice_get-get_or xs h.0 x h.1 ∙ ap Some h.2)

pub some_of : (o : Option ℕ) → IsSome o → (b : ℕ) × (o ≡ Some b)
some_of None h = absurd (let f : ⊥ = cc in f)
some_of (Some b) h = (b, refl)

-- what is found is in the list
pub find_at : {X : Type 0} (p : X → Bool) (xs : List X) (x : X) → find p xs ≡ Some x → (i : ℕ) × (slice_get xs i ≡ Some x)
find_at p [] x h = absurd (let f : ⊥ = cc in f)
find_at p (y ∷ xs) x h = elim (cases_Bool (p y)) [
  | inl hit ↦ (0, rw hit at h)
  | inr miss ↦ (let it = find_at p xs x (rw miss at h) in (suc it.0, it.1))
]

pub find_among : {X : Type 0} (test : X → Bool) (xs : List X) (x : X) → find test xs ≡ Some x → Contains xs x
find_among test xs x found = (let it = find_at test xs x found in contains_at xs it.0 x it.1)

-- what is found passes
pub find_passes : {X : Type 0} (p : X → Bool) (xs : List X) (x : X) → find p xs ≡ Some x → p x ≡ true
find_passes p [] x h = absurd (let f : ⊥ = cc in f)
find_passes p (y ∷ xs) x h = elim (cases_Bool (p y)) [
  | inl hit ↦ (let here : Some y ≡ Some x = rw hit at h in let same : y ≡ x = cc in ap p (sym same) ∙ hit)
  | inr miss ↦ find_passes p xs x (rw miss at h)
]

-- where one passes, one is found
pub find_some : {X : Type 0} (p : X → Bool) (xs : List X) (t : ℕ) (x : X) → slice_get xs t ≡ Some x → p x ≡ true → (y : X) × (find p xs ≡ Some y)
find_some p [] t x at pass = absurd (let f : ⊥ = cc in f)
find_some p (y ∷ xs) zero x at pass =
    let here : y ≡ x = cc in
    let hit : p y ≡ true = ap p here ∙ pass in
    (y, rw hit refl)
find_some p (y ∷ xs) (suc t) x at pass = elim (cases_Bool (p y)) [
  | inl hit ↦ (y, rw hit refl)
  | inr miss ↦ (let it = find_some p xs t x at pass in (it.0, rw miss it.1))
]

-- what is found is the only one that passes
pub find-only : {X : Type 0} (p : X → Bool) (xs : List X) (t : ℕ) (x : X) → slice_get xs t ≡ Some x → p x ≡ true → ((i : ℕ) (y : X) → slice_get xs i ≡ Some y → p y ≡ true → i ≡ t) → find p xs ≡ Some x
find-only p xs t x at pass only =
    let it = find_some p xs t x at pass in
    let q = find_at p xs it.0 it.1 in
    let place = only q.0 it.0 q.1 (find_passes p xs it.0 it.1) in
    it.1 ∙ sym q.1 ∙ ap (slice_get xs) place ∙ at

-- what passes a test that one of a list passes
pub any_found : {X : Type 0} (p : X → Bool) (xs : List X) → list_any p xs ≡ true → (i : ℕ) × (x : X) × (slice_get xs i ≡ Some x) × (p x ≡ true)
any_found p [] h = absurd (let f : ⊥ = cc in f)
any_found p (x ∷ xs) h = elim (cases_Bool (p x)) [
  | inl hit ↦ (0, x, refl, hit)
  | inr miss ↦ (let it = any_found p xs (rw miss at h) in (suc it.0, it.1, it.2, it.3))
]
