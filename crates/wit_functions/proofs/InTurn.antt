-- Placing one setter after the other, from the last, puts each directly after its getter.
use Rattle.std.specs.Prelude.{⊤}
use Rattle.std.proofs.Common.{subst, ◌≡◌, ℕ, suc, ◌+◌, ◌++◌, ◌||◌, Bool, true, false, cond, List, [], ◌∷◌, Option, Some, None, MatchOption, insert, refl, sym, ap, ◌∙◌, inl, inr, arith}
use Rattle.std.proofs.lemmas.Bool.{cases_Bool}
use Rattle.std.specs.List.{filter, flat_map, list_any, position_from}
use Rattle.std.specs.Option.{option_map}
use Rattle.wit_functions.specs.SettersPlaced.{early, others, setters_placed, with_setters}

-- e at the prefix, or directly after its getter, at this index with e in front
abbrev pub put_at : {X : Type 0} → X → List X → Option ℕ → List X
put_at e es None = e ∷ es
put_at e es (Some k) = insert es k e

-- the setters placed one after the other, from the last
abbrev pub in_turn : {X : Type 0} → (X → X → Bool) → List X → List X
in_turn goes [] = []
in_turn goes (e ∷ es) = put_at e (in_turn goes es) (position_from (goes e) 1 (in_turn goes es))

-- no two elements pass
abbrev pub AtMostOne : {X : Type 0} → (X → Bool) → List X → Type 0
AtMostOne t [] = ⊤
AtMostOne t (x ∷ xs) = (t x ≡ true → list_any t xs ≡ false) × AtMostOne t xs

or_swap : (a b c : Bool) → (a || (b || c)) ≡ (b || (a || c))
or_swap true true c = refl
or_swap true false c = refl
or_swap false true c = refl
or_swap false false c = refl

module _ {X : Type 0} where
  -- e directly after the first that passes
  abbrev pub rest_after_first : (X → Bool) → X → List X → List X
  rest_after_first t e [] = []
  rest_after_first t e (x ∷ xs) = cond (t x) (x ∷ e ∷ xs) (x ∷ rest_after_first t e xs)

  module _ (t : X → Bool) (e : X) where
    position_more : (i : ℕ) (xs : List X) → position_from t (suc i) xs ≡ option_map (λ k. suc k) (position_from t i xs)
    position_more i [] = refl
    position_more i (x ∷ xs) = elim (cases_Bool (t x)) [
      | inl hit ↦ rw hit refl
      | inr miss ↦
          let a : i + 1 ≡ suc i = omega arith in
          let b : suc i + 1 ≡ suc (suc i) = omega arith in
          rw (miss, a, b) (position_more (suc i) xs)
    ]

    abbrev Placed : List X → Option ℕ → Type 0
    Placed xs o = MatchOption o (list_any t xs ≡ false) (λ k. (list_any t xs ≡ true) × (insert xs k e ≡ rest_after_first t e xs))

    placed_more : (x : X) (xs : List X) → t x ≡ false → (o : Option ℕ) → Placed xs o → Placed (x ∷ xs) (option_map (λ k. suc k) o)
    placed_more x xs miss None h = rw miss h
    placed_more x xs miss (Some k) h = rw miss (h.0, ap (λ l. x ∷ l) h.1)

    placed_at : (xs : List X) → Placed xs (position_from t 1 xs)
    placed_at [] = refl
    placed_at (x ∷ xs) = elim (cases_Bool (t x)) [
      | inl hit ↦ rw hit (refl, refl)
      | inr miss ↦
          let next : position_from t 1 (x ∷ xs) ≡ option_map (λ k. suc k) (position_from t 1 xs) = rw miss (position_more 1 xs) in
          subst (λ o. Placed (x ∷ xs) o) (sym next) (placed_more x xs miss (position_from t 1 xs) (placed_at xs))
    ]

    put_at-cases : (xs : List X) (o : Option ℕ) → Placed xs o → put_at e xs o ≡ cond (list_any t xs) (rest_after_first t e xs) (e ∷ xs)
    put_at-cases xs None h = rw h refl
    put_at-cases xs (Some k) h = rw h.0 h.1

    pub put_at-position : (xs : List X) → put_at e xs (position_from t 1 xs) ≡ cond (list_any t xs) (rest_after_first t e xs) (e ∷ xs)
    put_at-position xs = put_at-cases xs (position_from t 1 xs) (placed_at xs)

    pub rest_after_first-append : (ys zs : List X) → list_any t ys ≡ false → rest_after_first t e (ys ++ zs) ≡ ys ++ rest_after_first t e zs
    rest_after_first-append [] zs none = refl
    rest_after_first-append (y ∷ ys) zs none = elim (cases_Bool (t y)) [
      | inl hit ↦ let no = rw hit at none in cc
      | inr miss ↦ rw miss (ap (λ l. y ∷ l) (rest_after_first-append ys zs (rw miss at none)))
    ]

    pub list_any-rest_after_first : (u : X → Bool) (xs : List X) → list_any t xs ≡ true → list_any u (rest_after_first t e xs) ≡ (u e || list_any u xs)
    list_any-rest_after_first u [] some = cc
    list_any-rest_after_first u (x ∷ xs) some = elim (cases_Bool (t x)) [
      | inl hit ↦ rw hit (or_swap (u x) (u e) (list_any u xs))
      | inr miss ↦ rw miss (ap (λ b. u x || b) (list_any-rest_after_first u xs (rw miss at some)) ∙ or_swap (u x) (u e) (list_any u xs))
    ]

  pub list_any-none : (t : X → Bool) (xs : List X) → ((x : X) → t x ≡ false) → list_any t xs ≡ false
  list_any-none t [] none = refl
  list_any-none t (x ∷ xs) none = rw (none x) (list_any-none t xs none)

  pub list_any-filter_none : (t p : X → Bool) (xs : List X) → list_any t xs ≡ false → list_any t (filter p xs) ≡ false
  list_any-filter_none t p [] none = refl
  list_any-filter_none t p (x ∷ xs) none = elim (cases_Bool (t x)) [
    | inl hit ↦ let no = rw hit at none in cc
    | inr miss ↦
        let rest = list_any-filter_none t p xs (rw miss at none) in
        elim (cases_Bool (p x)) [ inl yes_p ↦ rw (yes_p, miss) rest | inr no_p ↦ rw no_p rest ]
  ]

  module _ (goes : X → X → Bool) where
    list_any-put : (e : X) (xs : List X) (u : X → Bool) → list_any u (put_at e xs (position_from (goes e) 1 xs)) ≡ (u e || list_any u xs)
    list_any-put e xs u = ap (λ l. list_any u l) (put_at-position (goes e) e xs) ∙ elim (cases_Bool (list_any (goes e) xs)) [
      | inl some ↦ rw some (list_any-rest_after_first (goes e) e u xs some)
      | inr none ↦ rw none refl
    ]

    pub list_any-in_turn : (u : X → Bool) (es : List X) → list_any u (in_turn goes es) ≡ list_any u es
    list_any-in_turn u [] = refl
    list_any-in_turn u (e ∷ es) = list_any-put e (in_turn goes es) u ∙ ap (λ b. u e || b) (list_any-in_turn u es)

    pub in_turn-step : (e : X) (es : List X) → in_turn goes (e ∷ es) ≡ cond (list_any (goes e) es) (rest_after_first (goes e) e (in_turn goes es)) (e ∷ in_turn goes es)
    in_turn-step e es = put_at-position (goes e) e (in_turn goes es) ∙ ap (λ b. cond b (rest_after_first (goes e) e (in_turn goes es)) (e ∷ in_turn goes es)) (list_any-in_turn (goes e) es)

    -- one more setter, whose getter is not in the list
    with_setters-absent : (e : X) (ss st : List X) → list_any (goes e) st ≡ false → flat_map (with_setters goes (e ∷ ss)) st ≡ flat_map (with_setters goes ss) st
    with_setters-absent e ss [] none = refl
    with_setters-absent e ss (x ∷ st) none = elim (cases_Bool (goes e x)) [
      | inl hit ↦ let no = rw hit at none in cc
      | inr miss ↦ rw miss (ap (λ l. (x ∷ filter (λ s. goes s x) ss) ++ l) (with_setters-absent e ss st (rw miss at none)))
    ]

    -- one more setter, whose getter is in the list once
    with_setters-present : (e : X) (ss st : List X) → list_any (goes e) ss ≡ false → AtMostOne (goes e) st → list_any (goes e) st ≡ true
        → rest_after_first (goes e) e (flat_map (with_setters goes ss) st) ≡ flat_map (with_setters goes (e ∷ ss)) st
    with_setters-present e ss [] apart one some = cc
    with_setters-present e ss (x ∷ st) apart one some = elim (cases_Bool (goes e x)) [
      | inl hit ↦
          let rest = with_setters-absent e ss st (one.0 hit) in
          rw hit (ap (λ l. x ∷ e ∷ (filter (λ s. goes s x) ss ++ l)) (sym rest))
      | inr miss ↦
          let more = with_setters-present e ss st apart one.1 (rw miss at some) in
          let over = rest_after_first-append (goes e) e (filter (λ s. goes s x) ss) (flat_map (with_setters goes ss) st) (list_any-filter_none (goes e) (λ s. goes s x) ss apart) in
          rw miss (ap (λ l. x ∷ l) (over ∙ ap (λ l. filter (λ s. goes s x) ss ++ l) more))
    ]

    module _ (no_setter : (e g x : X) → goes e g ≡ true → goes g x ≡ false) where
      -- the getter of a setter comes before no getter of its own
      not_early : (e y : X) (ys : List X) → list_any (goes y) ys ≡ true → goes e y ≡ false
      not_early e y ys some = elim (cases_Bool (goes e y)) [
        | inl hit ↦ let none = list_any-none (goes y) ys (λ x. no_setter e y x hit) in cc
        | inr miss ↦ miss
      ]

      early-apart : (e : X) (es : List X) → list_any (goes e) (early goes es) ≡ false
      early-apart e [] = refl
      early-apart e (y ∷ ys) = elim (cases_Bool (list_any (goes y) ys)) [
        | inl some ↦ let miss = not_early e y ys some in rw (some, miss) (early-apart e ys)
        | inr none ↦ rw none (early-apart e ys)
      ]

      list_any-others : (e : X) (es : List X) → list_any (goes e) (others goes es) ≡ list_any (goes e) es
      list_any-others e [] = refl
      list_any-others e (y ∷ ys) = elim (cases_Bool (list_any (goes y) ys)) [
        | inl some ↦ let miss = not_early e y ys some in rw (some, miss) (list_any-others e ys)
        | inr none ↦ rw none (ap (λ b. goes e y || b) (list_any-others e ys))
      ]

      others-AtMostOne : (e : X) (es : List X) → AtMostOne (goes e) es → AtMostOne (goes e) (others goes es)
      others-AtMostOne e [] one = tt
      others-AtMostOne e (y ∷ ys) one = elim (cases_Bool (list_any (goes y) ys)) [
        | inl some ↦ rw some (others-AtMostOne e ys one.1)
        | inr none ↦ rw none (λ hit. list_any-others e ys ∙ one.0 hit, others-AtMostOne e ys one.1)
      ]

      -- an element that comes before the list is the getter of none of its setters
      filter-early : (e : X) (es : List X) → ((s : X) → goes s e ≡ true → list_any (goes s) es ≡ false) → filter (λ s. goes s e) (early goes es) ≡ []
      filter-early e [] apart = refl
      filter-early e (y ∷ ys) apart =
          let rest = filter-early e ys (λ s hit. tail (goes s y) (list_any (goes s) ys) (apart s hit)) in
          elim (cases_Bool (list_any (goes y) ys)) [
            | inl some ↦ elim (cases_Bool (goes y e)) [
              | inl hit ↦ let none = tail (goes y y) (list_any (goes y) ys) (apart y hit) in cc
              | inr miss ↦ rw (some, miss) rest
            ]
            | inr none ↦ rw none rest
          ]
        where
          tail : (a b : Bool) → (a || b) ≡ false → b ≡ false
          tail true b h = cc
          tail false b h = h

      pub in_turn-setters_placed : (es : List X) → ((e : X) → AtMostOne (goes e) es) → in_turn goes es ≡ setters_placed goes es
      in_turn-setters_placed [] one = refl
      in_turn-setters_placed (e ∷ es) one =
          let rest = in_turn-setters_placed es (λ s. (one s).1) in
          let step = in_turn-step e es in
          elim (cases_Bool (list_any (goes e) es)) [
            | inl some ↦
                let gone : list_any (goes e) (others goes es) ≡ true = list_any-others e es ∙ some in
                let put = with_setters-present e (early goes es) (others goes es) (early-apart e es) (others-AtMostOne e es (one e).1) gone in
                step ∙ rw some (ap (λ l. rest_after_first (goes e) e l) rest ∙ put)
            | inr none ↦
                let alone = filter-early e es (λ s hit. (one s).0 hit) in
                step ∙ rw none (ap (λ l. e ∷ l) (rest ∙ ap (λ l. l ++ flat_map (with_setters goes (early goes es)) (others goes es)) (sym alone)))
          ]
