-- The places of entries, in the order in which setters are placed.
use Rattle.std.specs.Prelude.{⊤}
use Rattle.std.proofs.Common.{◌≡◌, ℕ, zero, suc, ◌+◌, ◌<◌, ◌≤◌, ◌++◌, ◌||◌, Bool, List, [], ◌∷◌, Option, Some, None, nat_eq, insert, length, map, slice_get, take, take_all, refl, sym, ap, ◌∙◌, inl, inr, arith, subst}
use Rattle.std.specs.List.{IsDistinct, enumerate_from, filter, flat_map, list_any, position_from}
use Rattle.std.specs.Cmp.Lexicographic.{pointwise}
use Rattle.std.proofs.lemmas.Bool.{cases_Bool}
use Rattle.std.proofs.lemmas.Option.{slice_get_within}
use Rattle.wit_functions.specs.declared.function.Function.{Function}
use Rattle.wit_functions.specs.Reordered.{IsOrder, Shows}
use Rattle.wit_functions.specs.SettersPlaced.{HaveDistinctNames, early, name_in, others, pairs, setters_placed, stated_names, with_setters, both, is_getter_of}
use Rattle.wit_functions.specs.MaybeFunction.{HaveOwnNames, goes}
use Rattle.wit_functions.proofs.InTurn.{in_turn, put_at}
use Rattle.wit_functions.proofs.Keys.{Differ, Lacks, differ-in_turn}
use Rattle.wit_functions.proofs.Pairs.{in_turn-placed}
use Rattle.wit_functions.proofs.Walk.{take_one_more}

-- setters are placed among what a function makes of entries as among these
module _ {X Y : Type 0} (f : X → Y) where
  map-append : (xs ys : List X) → map f (xs ++ ys) ≡ map f xs ++ map f ys
  map-append [] ys = refl
  map-append (x ∷ xs) ys = ap (λ l. f x ∷ l) (map-append xs ys)

  module _ (goes : X → X → Bool) (goes_y : Y → Y → Bool) (alike : (a b : X) → goes a b ≡ goes_y (f a) (f b)) where
    any-map : (e : X) (es : List X) → list_any (goes e) es ≡ list_any (goes_y (f e)) (map f es)
    any-map e [] = refl
    any-map e (x ∷ es) = (λ i. or (alike e x i) (any-map e es i))
      where
        or : Bool → Bool → Bool
        or a b = a || b

    early-map : (es : List X) → map f (early goes es) ≡ early goes_y (map f es)
    early-map [] = refl
    early-map (e ∷ es) = elim (cases_Bool (list_any (goes e) es)) [
      | inl hit ↦ (let there = sym (any-map e es) ∙ hit in rw (hit, there) (ap (λ l. f e ∷ l) (early-map es)))
      | inr miss ↦ (let there = sym (any-map e es) ∙ miss in rw (miss, there) (early-map es))
    ]

    others-map : (es : List X) → map f (others goes es) ≡ others goes_y (map f es)
    others-map [] = refl
    others-map (e ∷ es) = elim (cases_Bool (list_any (goes e) es)) [
      | inl hit ↦ (let there = sym (any-map e es) ∙ hit in rw (hit, there) (others-map es))
      | inr miss ↦ (let there = sym (any-map e es) ∙ miss in rw (miss, there) (ap (λ l. f e ∷ l) (others-map es)))
    ]

    filter-map : (g : X) (ss : List X) → map f (filter (λ s. goes s g) ss) ≡ filter (λ s. goes_y s (f g)) (map f ss)
    filter-map g [] = refl
    filter-map g (s ∷ ss) = elim (cases_Bool (goes s g)) [
      | inl hit ↦ (let there = sym (alike s g) ∙ hit in rw (hit, there) (ap (λ l. f s ∷ l) (filter-map g ss)))
      | inr miss ↦ (let there = sym (alike s g) ∙ miss in rw (miss, there) (filter-map g ss))
    ]

    rest_after-map : (ss gs : List X) → map f (flat_map (with_setters goes ss) gs) ≡ flat_map (with_setters goes_y (map f ss)) (map f gs)
    rest_after-map ss [] = refl
    rest_after-map ss (g ∷ gs) =
        map-append (with_setters goes ss g) (flat_map (with_setters goes ss) gs)
        ∙ (λ i. (f g ∷ filter-map g ss i) ++ rest_after-map ss gs i)

    pub placed-map : (es : List X) → map f (setters_placed goes es) ≡ setters_placed goes_y (map f es)
    placed-map es = rest_after-map (early goes es) (others goes es) ∙ (λ i. flat_map (with_setters goes_y (early-map es i)) (others-map es i))

map-map : {X Y Z : Type 0} (f : X → Y) (g : Y → Z) (xs : List X) → map g (map f xs) ≡ map (λ x. g (f x)) xs
map-map f g [] = refl
map-map f g (x ∷ xs) = ap (λ l. g (f x) ∷ l) (map-map f g xs)

long-map : {A B : Type 0} (f : A → B) (xs : List A) → length (map f xs) ≡ length xs
long-map f [] = refl
long-map f (x ∷ xs) = ap (λ m. suc m) (long-map f xs)

flat_map-map : {A B C : Type 0} (f : A → B) (g : B → List C) (xs : List A) → flat_map g (map f xs) ≡ flat_map (λ x. g (f x)) xs
flat_map-map f g [] = refl
flat_map-map f g (x ∷ xs) = ap (λ l. g (f x) ++ l) (flat_map-map f g xs)

module _ {E : Type 0} where
  -- each number is a place where its entry is
  abbrev IsPresent : List E → List (ℕ × E) → Type 0
  IsPresent es [] = ⊤
  IsPresent es (z ∷ zs) = (slice_get es z.0 ≡ Some z.1) × IsPresent es zs

  numbered-are_present : (es : List E) (n : ℕ) (rest : List E) → ((k : ℕ) → slice_get es (n + k) ≡ slice_get rest k) → IsPresent es (enumerate_from n rest)
  numbered-are_present es n [] at = tt
  numbered-are_present es n (e ∷ rest) at = (
    (let same : n + 0 ≡ n = omega arith in ap (slice_get es) (sym same) ∙ at 0),
    numbered-are_present es (n + 1) rest (λ k. (let same : n + 1 + k ≡ n + suc k = omega arith in ap (slice_get es) same ∙ at (suc k))),
  )

  numbered-lack : (k n : ℕ) (rest : List E) → k < n → Lacks (λ (z : ℕ × E). z.0) k (enumerate_from n rest)
  numbered-lack k n [] lt = tt
  numbered-lack k n (e ∷ rest) lt = (λ same. omega (arith, lt, same), numbered-lack k (n + 1) rest (omega (arith, lt)))

  numbered-differ : (n : ℕ) (rest : List E) → Differ (λ (z : ℕ × E). z.0) (enumerate_from n rest)
  numbered-differ n [] = tt
  numbered-differ n (e ∷ rest) = (numbered-lack n (n + 1) rest (omega arith), numbered-differ (n + 1) rest)

  pub numbered-entries : (n : ℕ) (rest : List E) → map (λ (z : ℕ × E). z.1) (enumerate_from n rest) ≡ rest
  numbered-entries n [] = refl
  numbered-entries n (e ∷ rest) = ap (λ l. e ∷ l) (numbered-entries (n + 1) rest)

  pub numbered-at : (n : ℕ) (rest : List E) (k : ℕ) (e : E) → slice_get rest k ≡ Some e → slice_get (enumerate_from n rest) k ≡ Some (n + k, e)
  numbered-at n [] k e at = absurd (let f : ⊥ = cc in f)
  numbered-at n (x ∷ rest) zero e at = (let same : x ≡ e = cc in let here : n ≡ n + 0 = omega arith in λ i. Some (here i, same i))
  numbered-at n (x ∷ rest) (suc k) e at = (let there : n + 1 + k ≡ n + suc k = omega arith in numbered-at (n + 1) rest k e at ∙ ap (λ (m : ℕ). Some (m, e)) there)

  are_present-insert : (es : List E) (zs : List (ℕ × E)) (i : ℕ) (z : ℕ × E) → slice_get es z.0 ≡ Some z.1 → IsPresent es zs → IsPresent es (insert zs i z)
  are_present-insert es zs zero z one all = (one, all)
  are_present-insert es [] (suc i) z one all = (one, all)
  are_present-insert es (y ∷ zs) (suc i) z one all = (all.0, are_present-insert es zs i z one all.1)

  are_present-put : (es : List E) (zs : List (ℕ × E)) (o : Option ℕ) (z : ℕ × E) → slice_get es z.0 ≡ Some z.1 → IsPresent es zs → IsPresent es (put_at z zs o)
  are_present-put es zs None z one all = (one, all)
  are_present-put es zs (Some i) z one all = are_present-insert es zs i z one all

  are_present-in_turn : (goes : ℕ × E → ℕ × E → Bool) (es : List E) (zs : List (ℕ × E)) → IsPresent es zs → IsPresent es (in_turn goes zs)
  are_present-in_turn goes es [] all = tt
  are_present-in_turn goes es (z ∷ zs) all = are_present-put es (in_turn goes zs) (position_from (goes z) 1 (in_turn goes zs)) z all.0 (are_present-in_turn goes es zs all.1)

  long-insert : (zs : List (ℕ × E)) (i : ℕ) (z : ℕ × E) → length (insert zs i z) ≡ suc (length zs)
  long-insert zs zero z = refl
  long-insert [] (suc i) z = refl
  long-insert (y ∷ zs) (suc i) z = ap (λ n. suc n) (long-insert zs i z)

  long-put : (zs : List (ℕ × E)) (o : Option ℕ) (z : ℕ × E) → length (put_at z zs o) ≡ suc (length zs)
  long-put zs None z = refl
  long-put zs (Some i) z = long-insert zs i z

  long-in_turn : (goes : ℕ × E → ℕ × E → Bool) (zs : List (ℕ × E)) → length (in_turn goes zs) ≡ length zs
  long-in_turn goes [] = refl
  long-in_turn goes (z ∷ zs) = long-put (in_turn goes zs) (position_from (goes z) 1 (in_turn goes zs)) z ∙ ap (λ n. suc n) (long-in_turn goes zs)

  long-numbered : (n : ℕ) (rest : List E) → length (enumerate_from n rest) ≡ length rest
  long-numbered n [] = refl
  long-numbered n (e ∷ rest) = ap (λ m. suc m) (long-numbered (n + 1) rest)

  -- the entries are in the order of their numbers
  shown : (es : List E) (zs : List (ℕ × E)) → IsPresent es zs → Shows es (map (λ z. z.0) zs) (map (λ z. z.1) zs)
  shown es [] all k = refl
  shown es (z ∷ zs) all zero = sym all.0
  shown es (z ∷ zs) all (suc k) = shown es zs all.1 k

  number_within : (es : List E) (zs : List (ℕ × E)) → IsPresent es zs → (k w : ℕ) → slice_get (map (λ z. z.0) zs) k ≡ Some w → w < length es
  number_within es [] all k w at = absurd (let f : ⊥ = cc in f)
  number_within es (z ∷ zs) all zero w at = (let same : z.0 ≡ w = cc in slice_get_within es w z.1 (ap (slice_get es) (sym same) ∙ all.0))
  number_within es (z ∷ zs) all (suc k) w at = number_within es zs all.1 k w at

  lacks_none : (n : ℕ) (zs : List (ℕ × E)) → Lacks (λ (z : ℕ × E). z.0) n zs → (k : ℕ) → slice_get (map (λ z. z.0) zs) k ≡ Some n → ⊥
  lacks_none n [] lacks k at = cc
  lacks_none n (z ∷ zs) lacks zero at = (let same : z.0 ≡ n = cc in lacks.0 same)
  lacks_none n (z ∷ zs) lacks (suc k) at = lacks_none n zs lacks.1 k at

  number_once : (zs : List (ℕ × E)) → Differ (λ (z : ℕ × E). z.0) zs → (i j w : ℕ) → slice_get (map (λ z. z.0) zs) i ≡ Some w → slice_get (map (λ z. z.0) zs) j ≡ Some w → i ≡ j
  number_once [] differ i j w at_i at_j = absurd (let f : ⊥ = cc in f)
  number_once (z ∷ zs) differ zero zero w at_i at_j = refl
  number_once (z ∷ zs) differ zero (suc j) w at_i at_j = absurd (lacks_none z.0 zs differ.0 j (at_j ∙ sym at_i))
  number_once (z ∷ zs) differ (suc i) zero w at_i at_j = absurd (lacks_none z.0 zs differ.0 i (at_i ∙ sym at_j))
  number_once (z ∷ zs) differ (suc i) (suc j) w at_i at_j = ap (λ n. suc n) (number_once zs differ.1 i j w at_i at_j)

  in_order : (es : List E) (zs : List (ℕ × E)) → IsPresent es zs → Differ (λ (z : ℕ × E). z.0) zs → length zs ≡ length es → IsOrder es (map (λ z. z.0) zs) (map (λ z. z.1) zs)
  in_order es zs all differ long = record {
    shows = shown es zs all;
    all = long-map (λ z. z.0) zs ∙ long;
    within = number_within es zs all;
    once = number_once zs differ;
  }

module _ {E : Type 0} (function_at : E → Option Function) where
  names-numbered : (n : ℕ) (es : List E) → stated_names function_at (enumerate_from n es) ≡ flat_map (λ e. name_in (function_at e)) es
  names-numbered n [] = refl
  names-numbered n (e ∷ es) = ap (λ l. name_in (function_at e) ++ l) (names-numbered (n + 1) es)

  -- the stated functions have distinct names
  pub own_stated : {T : Type 0} (place : T → ℕ) (maybe_function : T → Option Function) (ts : List T) (es : List E)
      → map {B = ℕ × Option Function} (λ t. (place t, maybe_function t)) ts ≡ map (λ z. (z.0, function_at z.1)) (enumerate_from 0 es) → HaveOwnNames function_at es
      → IsDistinct (pointwise nat_eq) (flat_map (λ t. name_in (maybe_function t)) ts)
  own_stated place maybe_function ts es are names =
      let names_of = λ (p : ℕ × Option Function). name_in p.1 in
      subst (IsDistinct (pointwise nat_eq)) (sym (
      sym (flat_map-map {B = ℕ × Option Function} (λ t. (place t, maybe_function t)) names_of ts) ∙ ap (flat_map names_of) are
      ∙ flat_map-map {B = ℕ × Option Function} (λ z. (z.0, function_at z.1)) names_of (enumerate_from 0 es) ∙ names-numbered 0 es)) names

  -- the places of the stated functions, once setters are placed among these, are the order of the entries
  pub placed_order : {T : Type 0} (place : T → ℕ) (maybe_function : T → Option Function) (ts : List T) (es : List E)
      → map {B = ℕ × Option Function} (λ t. (place t, maybe_function t)) ts ≡ map (λ z. (z.0, function_at z.1)) (enumerate_from 0 es) → HaveOwnNames function_at es
      → IsOrder es (map place (setters_placed (λ s g. both is_getter_of (maybe_function s) (maybe_function g)) ts)) (setters_placed (goes function_at) es)
  placed_order {T = T} place maybe_function ts es are names =
      let zs = enumerate_from 0 es in
      let by_entry = pairs {K = ℕ} function_at in
      let own : HaveDistinctNames function_at zs = subst (IsDistinct (pointwise nat_eq)) (sym (names-numbered 0 es)) names in
      let turned = in_turn-placed function_at zs own in
      let numbers = λ (z : ℕ × E). z.0 in
      let is = in_order es (in_turn by_entry zs) (are_present-in_turn by_entry es zs (numbered-are_present es 0 es (λ k. (let same : 0 + k ≡ k = omega arith in ap (slice_get es) same)))) (differ-in_turn numbers by_entry zs (numbered-differ 0 es)) (long-in_turn by_entry zs ∙ long-numbered 0 es) in
      let view : T → ℕ × Option Function = λ t. (place t, maybe_function t) in
      let tell : ℕ × E → ℕ × Option Function = λ z. (z.0, function_at z.1) in
      let by_number = λ (s g : ℕ × Option Function). both is_getter_of s.1 g.1 in
      let order : map place (setters_placed (λ s g. both is_getter_of (maybe_function s) (maybe_function g)) ts) ≡ map numbers (in_turn by_entry zs) =
      sym (map-map view (λ p. p.0) (setters_placed (λ s g. both is_getter_of (maybe_function s) (maybe_function g)) ts))
      ∙ ap (map (λ p. p.0)) (placed-map view (λ s g. both is_getter_of (maybe_function s) (maybe_function g)) by_number (λ a b. refl) ts ∙ ap (setters_placed by_number) are ∙ sym (placed-map tell by_entry by_number (λ a b. refl) zs) ∙ ap (map tell) (sym turned))
      ∙ map-map tell (λ p. p.0) (in_turn by_entry zs) in
      let entries : map (λ z. z.1) (in_turn by_entry zs) ≡ setters_placed (goes function_at) es =
      ap (map (λ z. z.1)) turned ∙ placed-map (λ z. z.1) by_entry (goes function_at) (λ a b. refl) zs ∙ ap (setters_placed (goes function_at)) (numbered-entries 0 es) in
      subst (λ o. IsOrder es o (setters_placed (goes function_at) es)) (sym order) (subst (λ l. IsOrder es (map numbers (in_turn by_entry zs)) l) entries is)

-- one more place with its function
pub stated_more : {E T : Type 0} (function_at : E → Option Function) (view : T → ℕ × Option Function) (es : List E) (place : ℕ) (e : E) (was now : List T) (t : T)
    → slice_get es place ≡ Some e → view t ≡ (place, function_at e) → now ≡ was ++ t ∷ []
    → map view was ≡ map (λ z. (z.0, function_at z.1)) (take place (enumerate_from 0 es)) → map view now ≡ map (λ z. (z.0, function_at z.1)) (take (place + 1) (enumerate_from 0 es))
stated_more {E = E} function_at view es place e was now t at is more so_far =
    let tell : ℕ × E → ℕ × Option Function = λ z. (z.0, function_at z.1) in
    ap (map view) more ∙ map-append view was (t ∷ []) ∙ (λ i. so_far i ++ is i ∷ [])
    ∙ sym (map-append tell (take place (enumerate_from 0 es)) ((place, e) ∷ []))
    ∙ ap (map tell) (sym (take_one_more (enumerate_from 0 es) place (place, e) (numbered-at 0 es place e at ∙ (let same : 0 + place ≡ place = omega arith in ap (λ (m : ℕ). Some (m, e)) same))))

-- once all are stated
pub stated_all : {E : Type 0} (function_at : E → Option Function) (es : List E) (n : ℕ) (ps : List (ℕ × Option Function)) → length es ≤ n → ps ≡ map (λ z. (z.0, function_at z.1)) (take n (enumerate_from 0 es)) → ps ≡ map (λ z. (z.0, function_at z.1)) (enumerate_from 0 es)
stated_all function_at es n ps all so_far = so_far ∙ ap (map (λ z. (z.0, function_at z.1))) (take_all n (enumerate_from 0 es) (omega (arith, all, long-numbered 0 es)))
