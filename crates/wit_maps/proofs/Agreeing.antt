-- Lists of entries whose keys find equal values in both.
use Rattle.std.proofs.Common.{◌≡◌, ℕ, zero, suc, ◌<◌, ◌≤◌, Bool, true, false, ◌&&◌, List, [], ◌∷◌, length, slice_get, Some, None, Option, Bor, refl, ap, ◌∙◌, arith, option_map, unwrap_or, inl, inr}
use Rattle.std.proofs.lemmas.Bool.{cases_Bool}
use Rattle.std.specs.HashMap.{entries_eq}
use Rattle.std.specs.List.{list_all}
use Rattle.std.specs.Map.{keys_of, lookup, lookup_entry}
use Rattle.std.specs.Option.{option_copied, option_eq}

same_entry : {A : Type 0} {x y : A} → Some x ≡ Some y → x ≡ y
same_entry {A} {x} e = ap (λ r. unwrap_or r x) e

option_eq-copied : {X : Type 0} (E : X → X → Bool) (r s : Option (Bor X)) → option_eq {T = Bor X} (λ a b. E a.now b.now) r s ≡ option_eq E (option_copied r) (option_copied s)
option_eq-copied E None None = refl
option_eq-copied E None (Some y) = refl
option_eq-copied E (Some x) None = refl
option_eq-copied E (Some x) (Some y) = refl

and-false : (b : Bool) → b && false ≡ false
and-false true = refl
and-false false = refl

module _ {K X : Type 0} where
  lookup-lookup_entry : (t : K → Bool) (es : List (K × X)) → lookup t es ≡ option_map (λ (e : K × X). e.1) (lookup_entry t es)
  lookup-lookup_entry t [] = refl
  lookup-lookup_entry t (e ∷ es) = elim (cases_Bool (t e.0)) [
    | inl hit ↦ rw hit refl
    | inr miss ↦ rw miss (lookup-lookup_entry t es)
  ]

  option_eq-value : (E : X → X → Bool) (p q : Option (K × X)) → option_eq E (option_map (λ (e : K × X). e.1) p) (option_map (λ (e : K × X). e.1) q) ≡ option_eq {T = K × X} (λ a b. E a.1 b.1) p q
  option_eq-value E None None = refl
  option_eq-value E None (Some y) = refl
  option_eq-value E (Some x) None = refl
  option_eq-value E (Some x) (Some y) = refl

  -- two maps find equal values for a key if their entries have such
  pub option_eq-found : (E : X → X → Bool) (t : K → Bool) (es fs : List (K × X)) (r s : Option (Bor X)) → option_copied r ≡ lookup t es → option_copied s ≡ lookup t fs → option_eq {T = Bor X} (λ a b. E a.now b.now) r s ≡ option_eq {T = K × X} (λ a b. E a.1 b.1) (lookup_entry t es) (lookup_entry t fs)
  option_eq-found E t es fs r s one other =
      option_eq-copied E r s
      ∙ (λ j. option_eq E (one j) (other j))
      ∙ (λ j. option_eq E (lookup-lookup_entry t es j) (lookup-lookup_entry t fs j))
      ∙ option_eq-value E (lookup_entry t es) (lookup_entry t fs)

  module _ (p : K → Bool) where
    -- each key before a place passes
    abbrev pub AllBefore : List (K × X) → ℕ → Type 0
    AllBefore es i = (j : ℕ) (e : K × X) → j < i → slice_get es j ≡ Some e → p e.0 ≡ true

    pub list_all-each : (es : List (K × X)) (n : ℕ) → length es ≤ n → AllBefore es n → list_all p (keys_of es) ≡ true
    list_all-each [] n l all = refl
    list_all-each (x ∷ es) zero l all = absurd (let f : ⊥ = omega (arith, l) in f)
    list_all-each (x ∷ es) (suc n) l all =
        ap (λ b. b && list_all p (keys_of es)) (all zero x (omega arith) refl)
        ∙ list_all-each es n (omega (arith, l)) (λ j e before at. all (suc j) e (omega (arith, before)) at)

    pub list_all-not : (es : List (K × X)) (i : ℕ) (e : K × X) → slice_get es i ≡ Some e → p e.0 ≡ false → list_all p (keys_of es) ≡ false
    list_all-not [] i e at miss = absurd (let f : ⊥ = cc in f)
    list_all-not (x ∷ es) zero e at miss = ap (λ b. b && list_all p (keys_of es)) (ap (λ (y : K × X). p y.0) (same_entry at) ∙ miss)
    list_all-not (x ∷ es) (suc i) e at miss = ap (λ b. p x.0 && b) (list_all-not es i e at miss) ∙ and-false (p x.0)

  module _ (eq : K → K → Bool) (E : X → X → Bool) (es fs : List (K × X)) where
    -- a key has equal values in both lists, or none
    abbrev agree : K → Bool
    agree k = option_eq {T = K × X} (λ p q. E p.1 q.1) (lookup_entry (eq k) es) (lookup_entry (eq k) fs)

    pub entries_eq-then : (b : Bool) → true ≡ list_all agree (keys_of es) → b ≡ list_all agree (keys_of fs) → b ≡ entries_eq eq (λ p q. E p.1 q.1) es fs
    unfolding entries_eq
    entries_eq-then b h k = λ j. h j && k j

    pub entries_eq-else : false ≡ list_all agree (keys_of es) → false ≡ entries_eq eq (λ p q. E p.1 q.1) es fs
    unfolding entries_eq
    entries_eq-else h = λ j. h j && list_all agree (keys_of fs)
