-- The first of each in a list that grows at its end.
use Rattle.std.proofs.Common.{◌≡◌, ◌+◌, Bool, true, false, cond, not, ◌||◌, ◌&&◌, List, [], ◌∷◌, ◌++◌, length, map, refl, sym, ap, ◌∙◌, arith}
use Rattle.wit_syntax.proofs.Common.{filter, filter-append, firsts, list_any, prefix_len}
use Rattle.std.proofs.lemmas.Map.Views.{any-filter_same}

-- one item stays by a test that says it
filter-one : {X : Type 0} (t : X → Bool) (x : X) (known here : Bool) → t x ≡ not here → filter t (cond known [] (x ∷ [])) ≡ cond (here || known) [] (x ∷ [])
filter-one t x true true h = refl
filter-one t x true false h = refl
filter-one t x false true h = rw h refl
filter-one t x false false h = rw h refl

-- the first of each is one more where no earlier one is the same
pub firsts-more : {X : Type 0} (same : X → X → Bool) (xs : List X) (x : X) → firsts same (xs ++ x ∷ []) ≡ firsts same xs ++ cond (list_any (λ y. same y x) xs) [] (x ∷ [])
firsts-more same [] x = refl
firsts-more {X} same (y ∷ ys) x =
    let t : X → Bool = λ z. not (same y z) in
    ap (λ zs. y ∷ filter t zs) (firsts-more same ys x)
    ∙ ap (λ zs. y ∷ zs) (filter-append t (firsts same ys) (cond (list_any (λ z. same z x) ys) [] (x ∷ []))
    ∙ ap (λ zs. filter t (firsts same ys) ++ zs) (filter-one t x (list_any (λ z. same z x) ys) (same y x) refl))

-- what holds of each of a list
abbrev pub Each : {X : Type 0} → (X → Type 0) → List X → Type 0
Each P [] = Unit {0}
Each P (x ∷ xs) = P x × Each P xs

-- what follows from what holds of each holds of each
pub each_map : {X : Type 0} (P Q : X → Type 0) (xs : List X) → ((x : X) → P x → Q x) → Each P xs → Each Q xs
each_map P Q [] f h = tt
each_map P Q (x ∷ xs) f h = (f x h.0, each_map P Q xs f h.1)

-- two statements that hold of each hold of each together
pub each_both : {X : Type 0} (P Q : X → Type 0) (xs : List X) → Each P xs → Each Q xs → Each (λ x. P x × Q x) xs
each_both P Q [] g h = tt
each_both P Q (x ∷ xs) g h = ((g.0, h.0), each_both P Q xs g.1 h.1)

-- what holds of each holds of each that stays
pub each_filter : {X : Type 0} (P : X → Type 0) (t : X → Bool) (xs : List X) → Each P xs → Each P (filter t xs)
each_filter P t [] h = tt
each_filter {X} P t (x ∷ xs) h = go (each_filter P t xs h.1) (t x)
  where
    go : Each P (filter t xs) → (b : Bool) → Each P (cond b (x ∷ filter t xs) (filter t xs))
    go rest true = (h.0, rest)
    go rest false = rest

-- what holds of each holds of the first of each
pub each_firsts : {X : Type 0} (P : X → Type 0) (same : X → X → Bool) (xs : List X) → Each P xs → Each P (firsts same xs)
each_firsts P same [] h = tt
each_firsts P same (x ∷ xs) h = (h.0, each_filter P (λ y. not (same x y)) (firsts same xs) (each_firsts P same xs h.1))

-- each that stays passes the test
pub each_passed : {X : Type 0} (t : X → Bool) (xs : List X) → Each (λ x. t x ≡ true) (filter t xs)
each_passed t [] = tt
each_passed {X} t (x ∷ xs) = go (each_passed t xs) (t x) refl
  where
    go : Each (λ y. t y ≡ true) (filter t xs) → (b : Bool) → t x ≡ b → Each (λ y. t y ≡ true) (cond b (x ∷ filter t xs) (filter t xs))
    go rest true h = (h, rest)
    go rest false h = rest

-- no one passes a test that finds nothing
pub each_lost : {X : Type 0} (t : X → Bool) (xs : List X) → list_any t xs ≡ false → Each (λ x. t x ≡ false) xs
each_lost t [] h = tt
each_lost {X} t (x ∷ xs) h = let both = neither (t x) (list_any t xs) h in (both.0, each_lost t xs both.1)
  where
    neither : (a b : Bool) → (a || b) ≡ false → (a ≡ false) × (b ≡ false)
    neither true b g = absurd (let f : ⊥ = cc in f)
    neither false b g = (refl, g)

-- nothing stays where nothing passes
pub filter_lost : {X : Type 0} (t : X → Bool) (xs : List X) → Each (λ x. t x ≡ false) xs → filter t xs ≡ []
filter_lost t [] h = refl
filter_lost t (x ∷ xs) h = rw h.0 (filter_lost t xs h.1)

-- two functions that agree at each give one list
pub map_each : {X Y : Type 0} (f g : X → Y) (xs : List X) → Each (λ x. f x ≡ g x) xs → map f xs ≡ map g xs
map_each f g [] h = refl
map_each f g (x ∷ xs) h = ap (λ y. y ∷ map f xs) h.0 ∙ ap (λ ys. g x ∷ ys) (map_each f g xs h.1)

-- each one is the same as no later one
abbrev pub Apart : {X : Type 0} → (X → X → Bool) → List X → Type 0
Apart same [] = Unit {0}
Apart same (x ∷ xs) = Each (λ y. same x y ≡ false) xs × Apart same xs

-- those that stay are apart
pub apart_filter : {X : Type 0} (same : X → X → Bool) (t : X → Bool) (xs : List X) → Apart same xs → Apart same (filter t xs)
apart_filter same t [] h = tt
apart_filter {X} same t (x ∷ xs) h = go (apart_filter same t xs h.1) (t x)
  where
    go : Apart same (filter t xs) → (b : Bool) → Apart same (cond b (x ∷ filter t xs) (filter t xs))
    go rest true = (each_filter (λ y. same x y ≡ false) t xs h.0, rest)
    go rest false = rest

not_true : (b : Bool) → not b ≡ true → b ≡ false
not_true true h = sym h
not_true false h = refl

-- the first of each are apart
pub apart_firsts : {X : Type 0} (same : X → X → Bool) (xs : List X) → Apart same (firsts same xs)
apart_firsts same [] = tt
apart_firsts {X} same (x ∷ xs) =
    let t : X → Bool = λ y. not (same x y) in
    (each_map (λ y. t y ≡ true) (λ y. same x y ≡ false) (filter t (firsts same xs)) (λ y h. not_true (same x y) h) (each_passed t (firsts same xs)), apart_filter same t (firsts same xs) (apart_firsts same xs))

-- each is found among those that pass what it passes
pub each_found : {X : Type 0} (same : X → X → Bool) → ((x : X) → same x x ≡ true) → (t : X → Bool) (xs : List X) → Each (λ u. t u ≡ true → list_any (λ w. same w u) (filter t xs) ≡ true) xs
each_found same itself t [] = tt
each_found {X} same itself t (x ∷ xs) = go (each_found same itself t xs) (t x) refl
  where
    rest_after : (a b : Bool) → b ≡ true → (a || b) ≡ true
    rest_after true b h = refl
    rest_after false b h = h

    go : Each (λ u. t u ≡ true → list_any (λ w. same w u) (filter t xs) ≡ true) xs → (b : Bool) → t x ≡ b → (t x ≡ true → list_any (λ w. same w x) (cond b (x ∷ filter t xs) (filter t xs)) ≡ true) × Each (λ u. t u ≡ true → list_any (λ w. same w u) (cond b (x ∷ filter t xs) (filter t xs)) ≡ true) xs
    go rest true e = ((λ h. rw (itself x) refl), each_map (λ u. t u ≡ true → list_any (λ w. same w u) (filter t xs) ≡ true) (λ u. t u ≡ true → list_any (λ w. same w u) (x ∷ filter t xs) ≡ true) xs (λ u g h. rest_after (same x u) (list_any (λ w. same w u) (filter t xs)) (g h)) rest)
    go rest false e = ((λ h. absurd (let f : ⊥ = cc in f)), rest)

-- what is found in front is found there whatever comes after
pub prefix_len-found : {X : Type 0} (q : X → Bool) (xs ys : List X) → list_any q xs ≡ true → prefix_len (λ x. not (q x)) (xs ++ ys) ≡ prefix_len (λ x. not (q x)) xs
prefix_len-found q [] ys h = absurd (let f : ⊥ = cc in f)
prefix_len-found {X} q (x ∷ xs) ys h = go (λ g. prefix_len-found q xs ys g) (q x) h
  where
    go : (list_any q xs ≡ true → prefix_len (λ y. not (q y)) (xs ++ ys) ≡ prefix_len (λ y. not (q y)) xs) → (b : Bool) → (b || list_any q xs) ≡ true → cond (not b) (1 + prefix_len (λ y. not (q y)) (xs ++ ys)) 0 ≡ cond (not b) (1 + prefix_len (λ y. not (q y)) xs) 0
    go rest true g = refl
    go rest false g = ap (λ n. 1 + n) (rest g)

-- what is not found in front is found as the next
pub prefix_len-next : {X : Type 0} (q : X → Bool) (xs : List X) (y : X) → Each (λ x. q x ≡ false) xs → q y ≡ true → prefix_len (λ x. not (q x)) (xs ++ y ∷ []) ≡ length xs
prefix_len-next q [] y h e = rw e refl
prefix_len-next q (x ∷ xs) y h e = rw h.0 (ap (λ n. 1 + n) (prefix_len-next q xs y h.1 e) ∙ omega arith)

-- a test that cannot say the same ones apart finds something among the first of each where it finds something
pub any-firsts : {X : Type 0} (same : X → X → Bool) (t : X → Bool) → ((x y : X) → same x y ≡ true → t x ≡ t y) → (xs : List X) → list_any t (firsts same xs) ≡ list_any t xs
any-firsts same t alike [] = refl
any-firsts {X} same t alike (x ∷ xs) = go (t x) refl ∙ ap (λ b. t x || b) (any-firsts same t alike xs)
  where
    kept : (y : X) → t x ≡ false → t y ≡ true → not (same x y) ≡ true
    kept y e h = step (same x y) refl
      where
        step : (b : Bool) → same x y ≡ b → not b ≡ true
        step true g = absurd (let wrong : true ≡ false = sym h ∙ (sym (alike x y g) ∙ e) in let f : ⊥ = cc in f)
        step false g = refl

    go : (b : Bool) → t x ≡ b → (t x || list_any t (filter (λ y. not (same x y)) (firsts same xs))) ≡ (t x || list_any t (firsts same xs))
    go true e = rw e refl
    go false e = ap (λ b. t x || b) (any-filter_same t (λ y. not (same x y)) true (λ y h. kept y e h) (firsts same xs))

-- one of those that pass passes another test exactly where one passes both
pub any-filter : {X : Type 0} (t u : X → Bool) (xs : List X) → list_any u (filter t xs) ≡ list_any (λ x. t x && u x) xs
any-filter t u [] = refl
any-filter {X} t u (x ∷ xs) = go (any-filter t u xs) (t x)
  where
    go : list_any u (filter t xs) ≡ list_any (λ y. t y && u y) xs → (b : Bool) → list_any u (cond b (x ∷ filter t xs) (filter t xs)) ≡ ((b && u x) || list_any (λ y. t y && u y) xs)
    go rest true = ap (λ b. u x || b) rest
    go rest false = rest
