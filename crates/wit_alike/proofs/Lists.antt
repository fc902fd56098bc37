-- Lists that are alike, item by item, and what is made of them.
use Rattle.std.proofs.Common.{◌≡◌, ℕ, zero, suc, Bool, true, false, cond, ◌||◌, List, [], ◌∷◌, ◌++◌, map, length, Option, Some, None, refl, ap, ap₂}
use Rattle.wit_walk.proofs.Common.{AllZip, Fault, cons_option, filter, filter_map, first_after, first_in, flat_map, list_any, option_map, option_or, slice_get, ⊤}
use Rattle.std.specs.List.{find}

-- a relation of what is there, or of nothing to nothing
abbrev pub Both : {A B : Type 0} → (A → B → Type 0) → Option A → Option B → Type 0
Both R None None = ⊤
Both R None (Some y) = ⊥
Both R (Some x) None = ⊥
Both R (Some x) (Some y) = R x y

pub both_of : {A S : Type 0} (see : A → S) (o p : Option A) → option_map see o ≡ option_map see p → Both (λ (x y : A). see x ≡ see y) o p
both_of see None None h = tt
both_of see None (Some y) h = absurd (let f : ⊥ = cc in f)
both_of see (Some x) None h = absurd (let f : ⊥ = cc in f)
both_of see (Some x) (Some y) h = cc

pub zip_of : {A S : Type 0} (see : A → S) (xs ys : List A) → map see xs ≡ map see ys → AllZip (λ (x y : A). see x ≡ see y) xs ys
zip_of see [] [] h = tt
zip_of see [] (y ∷ ys) h = absurd (let f : ⊥ = cc in f)
zip_of see (x ∷ xs) [] h = absurd (let f : ⊥ = cc in f)
zip_of see (x ∷ xs) (y ∷ ys) h =
    let first : see x ≡ see y = cc in
    let rest : map see xs ≡ map see ys = cc in
    (first, zip_of see xs ys rest)

module _ {A B : Type 0} (R : A → B → Type 0) where
  pub both_map : {C D : Type 0} (S : C → D → Type 0) (f : A → C) (g : B → D) → ((x : A) (y : B) → R x y → S (f x) (g y)) → (o : Option A) (p : Option B) → Both R o p → Both S (option_map f o) (option_map g p)
  both_map S f g each None None h = tt
  both_map S f g each None (Some y) h = absurd h
  both_map S f g each (Some x) None h = absurd h
  both_map S f g each (Some x) (Some y) h = each x y h

  pub both_same : {C : Type 0} (f : A → C) (g : B → C) → ((x : A) (y : B) → R x y → f x ≡ g y) → (o : Option A) (p : Option B) → Both R o p → option_map f o ≡ option_map g p
  both_same f g each None None h = refl
  both_same f g each None (Some y) h = absurd h
  both_same f g each (Some x) None h = absurd h
  both_same f g each (Some x) (Some y) h = ap Some (each x y h)

  pub zip_same : {C : Type 0} (f : A → C) (g : B → C) → ((x : A) (y : B) → R x y → f x ≡ g y) → (xs : List A) (ys : List B) → AllZip R xs ys → map f xs ≡ map g ys
  zip_same f g each [] [] h = refl
  zip_same f g each [] (y ∷ ys) h = absurd h
  zip_same f g each (x ∷ xs) [] h = absurd h
  zip_same f g each (x ∷ xs) (y ∷ ys) h = ap₂ (λ a rest. a ∷ rest) (each x y h.0) (zip_same f g each xs ys h.1)

  pub zip_map : {C D : Type 0} (S : C → D → Type 0) (f : A → C) (g : B → D) → ((x : A) (y : B) → R x y → S (f x) (g y)) → (xs : List A) (ys : List B) → AllZip R xs ys → AllZip S (map f xs) (map g ys)
  zip_map S f g each [] [] h = tt
  zip_map S f g each [] (y ∷ ys) h = absurd h
  zip_map S f g each (x ∷ xs) [] h = absurd h
  zip_map S f g each (x ∷ xs) (y ∷ ys) h = (each x y h.0, zip_map S f g each xs ys h.1)

  pub zip_append : (xs zs : List A) (ys ws : List B) → AllZip R xs ys → AllZip R zs ws → AllZip R (xs ++ zs) (ys ++ ws)
  zip_append [] zs [] ws h k = k
  zip_append [] zs (y ∷ ys) ws h k = absurd h
  zip_append (x ∷ xs) zs [] ws h k = absurd h
  zip_append (x ∷ xs) zs (y ∷ ys) ws h k = (h.0, zip_append xs zs ys ws h.1 k)

  pub zip_length : (xs : List A) (ys : List B) → AllZip R xs ys → length xs ≡ length ys
  zip_length [] [] h = refl
  zip_length [] (y ∷ ys) h = absurd h
  zip_length (x ∷ xs) [] h = absurd h
  zip_length (x ∷ xs) (y ∷ ys) h = ap suc (zip_length xs ys h.1)

  -- those that pass a test which alike items pass together
  kept : (p q : Bool) (x : A) (y : B) (xs : List A) (ys : List B) → p ≡ q → R x y → AllZip R xs ys → AllZip R (cond p (x ∷ xs) xs) (cond q (y ∷ ys) ys)
  kept true true x y xs ys e h k = (h, k)
  kept true false x y xs ys e h k = absurd (let f : ⊥ = cc in f)
  kept false true x y xs ys e h k = absurd (let f : ⊥ = cc in f)
  kept false false x y xs ys e h k = k

  found : (p q : Bool) (x : A) (y : B) (o : Option A) (r : Option B) → p ≡ q → R x y → Both R o r → Both R (cond p (Some x) o) (cond q (Some y) r)
  found true true x y o r e h k = h
  found true false x y o r e h k = absurd (let f : ⊥ = cc in f)
  found false true x y o r e h k = absurd (let f : ⊥ = cc in f)
  found false false x y o r e h k = k

  module _ (test : A → Bool) (other : B → Bool) (one : (x : A) (y : B) → R x y → test x ≡ other y) where
    pub zip_filter : (xs : List A) (ys : List B) → AllZip R xs ys → AllZip R (filter test xs) (filter other ys)
    zip_filter [] [] h = tt
    zip_filter [] (y ∷ ys) h = absurd h
    zip_filter (x ∷ xs) [] h = absurd h
    zip_filter (x ∷ xs) (y ∷ ys) h = kept (test x) (other y) x y (filter test xs) (filter other ys) (one x y h.0) h.0 (zip_filter xs ys h.1)

    pub zip_find : (xs : List A) (ys : List B) → AllZip R xs ys → Both R (find test xs) (find other ys)
    zip_find [] [] h = tt
    zip_find [] (y ∷ ys) h = absurd h
    zip_find (x ∷ xs) [] h = absurd h
    zip_find (x ∷ xs) (y ∷ ys) h = found (test x) (other y) x y (find test xs) (find other ys) (one x y h.0) h.0 (zip_find xs ys h.1)

    pub zip_any : (xs : List A) (ys : List B) → AllZip R xs ys → list_any test xs ≡ list_any other ys
    zip_any [] [] h = refl
    zip_any [] (y ∷ ys) h = absurd h
    zip_any (x ∷ xs) [] h = absurd h
    zip_any (x ∷ xs) (y ∷ ys) h = ap₂ (λ a b. a || b) (one x y h.0) (zip_any xs ys h.1)

  pub zip_flat : {C D : Type 0} (S : C → D → Type 0) (f : A → List C) (g : B → List D) → ((x : A) (y : B) → R x y → AllZip S (f x) (g y)) → (xs : List A) (ys : List B) → AllZip R xs ys → AllZip S (flat_map f xs) (flat_map g ys)
  zip_flat S f g each [] [] h = tt
  zip_flat S f g each [] (y ∷ ys) h = absurd h
  zip_flat S f g each (x ∷ xs) [] h = absurd h
  zip_flat S f g each (x ∷ xs) (y ∷ ys) h = zip_append' S (f x) (flat_map f xs) (g y) (flat_map g ys) (each x y h.0) (zip_flat S f g each xs ys h.1)
    where
      zip_append' : {C D : Type 0} (S : C → D → Type 0) (xs zs : List C) (ys ws : List D) → AllZip S xs ys → AllZip S zs ws → AllZip S (xs ++ zs) (ys ++ ws)
      zip_append' S [] zs [] ws h k = k
      zip_append' S [] zs (y ∷ ys) ws h k = absurd h
      zip_append' S (x ∷ xs) zs [] ws h k = absurd h
      zip_append' S (x ∷ xs) zs (y ∷ ys) ws h k = (h.0, zip_append' S xs zs ys ws h.1 k)

  pub zip_at : (xs : List A) (ys : List B) (i : ℕ) → AllZip R xs ys → Both R (slice_get xs i) (slice_get ys i)
  zip_at [] [] i h = tt
  zip_at [] (y ∷ ys) i h = absurd h
  zip_at (x ∷ xs) [] i h = absurd h
  zip_at (x ∷ xs) (y ∷ ys) zero h = h.0
  zip_at (x ∷ xs) (y ∷ ys) (suc i) h = zip_at xs ys i h.1

  pub consed : (o : Option A) (p : Option B) (xs : List A) (ys : List B) → Both R o p → AllZip R xs ys → AllZip R (cons_option o xs) (cons_option p ys)
  consed None None xs ys h k = k
  consed None (Some y) xs ys h k = absurd h
  consed (Some x) None xs ys h k = absurd h
  consed (Some x) (Some y) xs ys h k = (h, k)

  -- what is at places of a list
  pub zip_places : (xs : List A) (ys : List B) (places : List ℕ) → AllZip R xs ys → AllZip R (filter_map (slice_get xs) places) (filter_map (slice_get ys) places)
  zip_places xs ys [] h = tt
  zip_places xs ys (i ∷ places) h = consed (slice_get xs i) (slice_get ys i) (filter_map (slice_get xs) places) (filter_map (slice_get ys) places) (zip_at xs ys i h) (zip_places xs ys places h)

  -- the first fault
  pub zip_first : (f : A → Option Fault) (g : B → Option Fault) → ((x : A) (y : B) → R x y → f x ≡ g y) → (xs : List A) (ys : List B) → AllZip R xs ys → first_in f xs ≡ first_in g ys
  zip_first f g each [] [] h = refl
  zip_first f g each [] (y ∷ ys) h = absurd h
  zip_first f g each (x ∷ xs) [] h = absurd h
  zip_first f g each (x ∷ xs) (y ∷ ys) h = ap₂ option_or (each x y h.0) (zip_first f g each xs ys h.1)

  pub zip_after : (f : List A → A → Option Fault) (g : List B → B → Option Fault) → ((before : List A) (others : List B) (x : A) (y : B) → AllZip R before others → R x y → f before x ≡ g others y)
      → (before xs : List A) (others ys : List B) → AllZip R before others → AllZip R xs ys → first_after f before xs ≡ first_after g others ys
  zip_after f g each before [] others [] b h = refl
  zip_after f g each before [] others (y ∷ ys) b h = absurd h
  zip_after f g each before (x ∷ xs) others [] b h = absurd h
  zip_after f g each before (x ∷ xs) others (y ∷ ys) b h = ap₂ option_or (each before others x y b h.0) (zip_after f g each (before ++ x ∷ []) xs (others ++ y ∷ []) ys (zip_append before (x ∷ []) others (y ∷ []) b (h.0, tt)) h.1)
