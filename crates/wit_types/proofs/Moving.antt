-- Steps of loops that go over the values of a list from the prefix, and what fits of all their spans.
use Rattle.std.proofs.Common.{◌≡◌, ℕ, zero, suc, ◌+◌, ◌<◌, ◌++◌, ◌∙◌, List, [], ◌∷◌, Some, drop, length, map, slice_get, slice_set, take, refl, ap, sym, subst, arith, inl, inr, add-one}
use Rattle.std.proofs.lemmas.Bool.Decides.{leb_tells}
use Rattle.std.specs.List.{flat_map}
use Rattle.std.specs.Map.{values_of}
use Rattle.std.proofs.lemmas.Option.{slice_get_cases}
use Rattle.indexmap.specs.IndexMap.{set_value_at}
use Rattle.wit_values.specs.declared.span.Span.{Span}
use Rattle.wit_types.specs.Spans.{AllFit, on_value}

pub AllFit-append : (o : ℕ) (xs ys : List Span) → AllFit o xs → AllFit o ys → AllFit o (xs ++ ys)
AllFit-append o [] ys a b = b
AllFit-append o (x ∷ xs) ys a b = (a.0, AllFit-append o xs ys a.1 b)

pub AllFit-parts : (o : ℕ) (xs ys : List Span) → AllFit o (xs ++ ys) → AllFit o xs × AllFit o ys
AllFit-parts o [] ys h = (tt, h)
AllFit-parts o (x ∷ xs) ys h = let rest = AllFit-parts o xs ys h.1 in ((h.0, rest.0), rest.1)

module _ {X : Type 0} (f : X → List Span) (o : ℕ) where
  -- what fits of all values' spans fits of each value's
  pub AllFit-at : (xs : List X) (i : ℕ) (x : X) → AllFit o (flat_map f xs) → slice_get xs i ≡ Some x → AllFit o (f x)
  AllFit-at [] i x h here = cc
  AllFit-at (y ∷ ys) zero x h here =
      let same : y ≡ x = cc in
      subst (λ z. AllFit o (f z)) same (AllFit-parts o (f y) (flat_map f ys) h).0
  AllFit-at (y ∷ ys) (suc i) x h here = AllFit-at ys i x (AllFit-parts o (f y) (flat_map f ys) h).1 here

  pub AllFit-each : (xs : List X) → ((i : ℕ) (x : X) → slice_get xs i ≡ Some x → AllFit o (f x)) → AllFit o (flat_map f xs)
  AllFit-each [] h = tt
  AllFit-each (x ∷ xs) h = AllFit-append o (f x) (flat_map f xs) (h 0 x refl) (AllFit-each xs (λ i y at. h (suc i) y at))

-- the spans of a map's values are those of its entries
flat_map-values : {K V A : Type 0} (f : V → List A) (es : List (K × V)) → flat_map f (values_of es) ≡ flat_map (λ (e : K × V). f e.1) es
flat_map-values f [] = refl
flat_map-values f (e ∷ es) = ap (λ l. f e.1 ++ l) (flat_map-values f es)

module _ {K V : Type 0} (f : V → List Span) (o : ℕ) where
  -- the same of the values of a map
  pub AllFit-at_entry : (es : List (K × V)) (i : ℕ) (e : K × V) → AllFit o (flat_map f (values_of es)) → slice_get es i ≡ Some e → AllFit o (f e.1)
  AllFit-at_entry es i e h = AllFit-at (λ p. f p.1) o es i e (subst (λ l. AllFit o l) (flat_map-values f es) h)

  pub AllFit-each_entry : (es : List (K × V)) → ((i : ℕ) (e : K × V) → slice_get es i ≡ Some e → AllFit o (f e.1)) → AllFit o (flat_map f (values_of es))
  AllFit-each_entry es h = subst (λ l. AllFit o l) (sym (flat_map-values f es)) (AllFit-each (λ p. f p.1) o es h)

pub some_at : {X : Type 0} (xs : List X) (i : ℕ) → i < length xs → (x : X) × (slice_get xs i ≡ Some x)
some_at xs i h = elim (slice_get_cases xs i).1 [ inl w ↦ (w.0, w.2) | inr w ↦ absurd (omega (arith, w.0)) ]

-- what holds of each entry before a place and of that at the place holds of each up to it
pub covers_one_more : {X : Type 0} (P : ℕ → X → Type 0) (xs : List X) (i : ℕ) (x : X) → slice_get xs i ≡ Some x → P i x
    → ((j : ℕ) (y : X) → j < i → slice_get xs j ≡ Some y → P j y) → (j : ℕ) (y : X) → j < i + 1 → slice_get xs j ≡ Some y → P j y
covers_one_more {X = X} P xs i x here one before j y low at = elim (leb_tells i j) [
  | inl late ↦
      let e : j ≡ i = omega (arith, low, late.1) in
      let found : slice_get xs i ≡ Some y = rw e at at in
      let same : y ≡ x = cc in
      rw (e, same) one
  | inr early ↦ before j y early.1 at
]

-- a list whose first i values are changed
abbrev pub turned : {X : Type 0} → (X → X) → ℕ → List X → List X
turned f i xs = map f (take i xs) ++ drop i xs

module _ {X : Type 0} (f : X → X) where
  -- what is at the place is still the value of the list
  pub seen : (xs : List X) (i : ℕ) → slice_get (turned f i xs) i ≡ slice_get xs i
  seen [] zero = refl
  seen [] (suc i) = refl
  seen (x ∷ xs) zero = refl
  seen (x ∷ xs) (suc i) = seen xs i

  pub slice_set-turned : (xs : List X) (i : ℕ) (x : X) → slice_get xs i ≡ Some x → slice_set (turned f i xs) i (f x) ≡ turned f (i + 1) xs
  slice_set-turned xs i x h = step xs i h ∙ ap (λ (k : ℕ). turned f k xs) (sym (add-one i)) where
    step : (xs : List X) (i : ℕ) → slice_get xs i ≡ Some x → slice_set (turned f i xs) i (f x) ≡ turned f (suc i) xs
    step [] i h = cc
    step (y ∷ ys) zero h = let same : y ≡ x = cc in rw same refl
    step (y ∷ ys) (suc i) h = ap (λ l. f y ∷ l) (step ys i h)

pub set_value_at-turned : {K X : Type 0} (f : X → X) (es : List (K × X)) (i : ℕ) (e : K × X) → slice_get es i ≡ Some e → set_value_at (turned (on_value f) i es) i (f e.1) ≡ turned (on_value f) (i + 1) es
set_value_at-turned {K} {X} f es i e h = step es i h ∙ ap (λ (k : ℕ). turned (on_value f) k es) (sym (add-one i)) where
  step : (es : List (K × X)) (i : ℕ) → slice_get es i ≡ Some e → set_value_at (turned (on_value f) i es) i (f e.1) ≡ turned (on_value f) (suc i) es
  step [] i h = cc
  step (d ∷ es) zero h = let same : d ≡ e = cc in rw same refl
  step (d ∷ es) (suc i) h = ap (λ l. (d.0, f d.1) ∷ l) (step es i h)
