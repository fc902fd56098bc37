-- The first fault of lists that grow.
use Rattle.std.proofs.Common.{◌≡◌, ℕ, zero, suc, ◌+◌, ◌<◌, ◌≤◌, Bool, true, false, ◌||◌, List, [], ◌∷◌, ◌++◌, length, take, get_or, Option, Some, None, inl, inr, refl, sym, ap, ◌∙◌, subst, append_assoc, arith}
use Rattle.wit_syntax.proofs.Common.{AllDiffer, Err, Fault, IfErr, IsAllocationFailure, IsRepeatAt, Ok, ParseError, Result, append-nil, at_prefix, bytes_eq, false_from_ne_true, fault_of, flat_map, if◌then◌else◌, key_at, list_any, map, map-append, map_at, name_equal, name_itself, option_or, slice_get, slice_get-take, slice_get_within, take-map, take_all, take_more, take_next}
use Rattle.wit_first.specs.First.{Finds, first_in, first_after, Reports, repeat_of, first_repeat}

pub or_assoc : {X : Type 0} (a b c : Option X) → option_or (option_or a b) c ≡ option_or a (option_or b c)
or_assoc None b c = refl
or_assoc (Some x) b c = refl

pub or_none : {X : Type 0} (a : Option X) → option_or a None ≡ a
or_none None = refl
or_none (Some x) = refl

-- an item, between those before it and those after it
pub split_at : {X : Type 0} (xs : List X) (i : ℕ) (x : X) → slice_get xs i ≡ Some x → (rest : List X) × (xs ≡ take i xs ++ x ∷ rest)
split_at [] i x at = absurd (let f : ⊥ = cc in f)
split_at (y ∷ ys) zero x at = (ys, (let same : y ≡ x = cc in ap (λ z. z ∷ ys) same))
split_at (y ∷ ys) (suc i) x at = let it = split_at ys i x at in (it.0, ap (λ (l : List _). y ∷ l) it.1)

pub in-append : {X : Type 0} (w : X → Option Fault) (xs ys : List X) → first_in w (xs ++ ys) ≡ option_or (first_in w xs) (first_in w ys)
in-append w [] ys = refl
in-append w (x ∷ xs) ys = ap (option_or (w x)) (in-append w xs ys) ∙ sym (or_assoc (w x) (first_in w xs) (first_in w ys))

pub after-append : {X : Type 0} (w : List X → X → Option Fault) (before xs ys : List X) → first_after w before (xs ++ ys) ≡ option_or (first_after w before xs) (first_after w (before ++ xs) ys)
after-append w before [] ys = ap (λ (l : List _). first_after w l ys) (sym (append-nil before))
after-append w before (x ∷ xs) ys =
    ap (option_or (w before x)) (after-append w (before ++ x ∷ []) xs ys ∙ ap (λ (l : List _). option_or (first_after w (before ++ x ∷ []) xs) (first_after w l ys)) (append_assoc before (x ∷ []) xs))
    ∙ sym (or_assoc (w before x) (first_after w (before ++ x ∷ []) xs) (first_after w (before ++ x ∷ xs) ys))

-- one item more
pub in-more : {X : Type 0} (w : X → Option Fault) (xs : List X) (x : X) → first_in w xs ≡ None → first_in w (xs ++ x ∷ []) ≡ w x
in-more w xs x none = in-append w xs (x ∷ []) ∙ ap (λ (o : Option Fault). option_or o (option_or (w x) None)) none ∙ or_none (w x)

pub after-more : {X : Type 0} (w : List X → X → Option Fault) (xs : List X) (x : X) → first_after w [] xs ≡ None → first_after w [] (xs ++ x ∷ []) ≡ w xs x
after-more w xs x none = after-append w [] xs (x ∷ []) ∙ ap (λ (o : Option Fault). option_or o (option_or (w xs x) None)) none ∙ or_none (w xs x)

-- the first item that has a fault
pub in-at : {X : Type 0} (w : X → Option Fault) (xs : List X) (i : ℕ) (x : X) (f : Fault) → slice_get xs i ≡ Some x → first_in w (take i xs) ≡ None → w x ≡ Some f → first_in w xs ≡ Some f
in-at w xs i x f at none wrong =
    let it = split_at xs i x at in
    ap (first_in w) it.1 ∙ in-append w (take i xs) (x ∷ it.0) ∙ ap (λ (o : Option Fault). option_or o (option_or (w x) (first_in w it.0))) none ∙ ap (λ (o : Option Fault). option_or o (first_in w it.0)) wrong

pub after-at : {X : Type 0} (w : List X → X → Option Fault) (xs : List X) (i : ℕ) (x : X) (f : Fault) → slice_get xs i ≡ Some x → first_after w [] (take i xs) ≡ None → w (take i xs) x ≡ Some f → first_after w [] xs ≡ Some f
after-at w xs i x f at none wrong =
    let it = split_at xs i x at in
    ap (first_after w []) it.1 ∙ after-append w [] (take i xs) (x ∷ it.0) ∙ ap (λ (o : Option Fault). option_or o (option_or (w (take i xs) x) (first_after w (take i xs ++ x ∷ []) it.0))) none ∙ ap (λ (o : Option Fault). option_or o (first_after w (take i xs ++ x ∷ []) it.0)) wrong

-- an error that reports the fault of an item reports the first, where the items before it have none
pub reports-in : {X : Type 0} (w : X → Option Fault) (xs : List X) (i : ℕ) (x : X) (e : ParseError) → slice_get xs i ≡ Some x → first_in w (take i xs) ≡ None → Reports (w x) e → Reports (first_in w xs) e
reports-in w xs i x e at none report = elim report [ inl memory ↦ inl memory | inr is ↦ inr (in-at w xs i x (fault_of e) at none is) ]

pub reports-after : {X : Type 0} (w : List X → X → Option Fault) (xs : List X) (i : ℕ) (x : X) (e : ParseError) → slice_get xs i ≡ Some x → first_after w [] (take i xs) ≡ None → Reports (w (take i xs) x) e → Reports (first_after w [] xs) e
reports-after w xs i x e at none report = elim report [ inl memory ↦ inl memory | inr is ↦ inr (after-at w xs i x (fault_of e) at none is) ]

-- one item more, at a place
pub in-next : {X : Type 0} (w : X → Option Fault) (xs : List X) (i : ℕ) (x : X) → i < length xs → x ≡ get_or xs i x → first_in w (take i xs) ≡ None → w x ≡ None → first_in w (take (i + 1) xs) ≡ None
in-next w xs i x within is none right = ap (first_in w) (take_more xs i x within ∙ ap (λ y. take i xs ++ y ∷ []) (sym is)) ∙ in-more w (take i xs) x none ∙ right

pub after-next : {X : Type 0} (w : List X → X → Option Fault) (xs : List X) (i : ℕ) (x : X) → i < length xs → x ≡ get_or xs i x → first_after w [] (take i xs) ≡ None → w (take i xs) x ≡ None → first_after w [] (take (i + 1) xs) ≡ None
after-next w xs i x within is none right = ap (first_after w []) (take_more xs i x within ∙ ap (λ y. take i xs ++ y ∷ []) (sym is)) ∙ after-more w (take i xs) x none ∙ right

pub in-following : {X : Type 0} (w : X → Option Fault) (xs : List X) (i : ℕ) (x : X) → slice_get xs i ≡ Some x → first_in w (take i xs) ≡ None → w x ≡ None → first_in w (take (i + 1) xs) ≡ None
in-following w xs i x at none right = ap (first_in w) (take_next xs i x at) ∙ in-more w (take i xs) x none ∙ right

-- all items, from a place past the last on
pub in-all : {X : Type 0} (w : X → Option Fault) (xs : List X) (i : ℕ) → length xs ≤ i → first_in w (take i xs) ≡ None → first_in w xs ≡ None
in-all w xs i past none = ap (first_in w) (sym (take_all i xs past)) ∙ none

pub after-all : {X : Type 0} (w : List X → X → Option Fault) (xs : List X) (i : ℕ) → length xs ≤ i → first_after w [] (take i xs) ≡ None → first_after w [] xs ≡ None
after-all w xs i past none = ap (first_after w []) (sym (take_all i xs past)) ∙ none

-- items that are made of others, and items that others bring
pub in-map : {X Y : Type 0} (w : Y → Option Fault) (f : X → Y) (xs : List X) → first_in w (map f xs) ≡ first_in (λ (x : X). w (f x)) xs
in-map w f [] = refl
in-map w f (x ∷ xs) = ap (option_or (w (f x))) (in-map w f xs)

pub in-flat : {X Y : Type 0} (w : Y → Option Fault) (f : X → List Y) (xs : List X) → first_in w (flat_map f xs) ≡ first_in (λ (x : X). first_in w (f x)) xs
in-flat w f [] = refl
in-flat w f (x ∷ xs) = in-append w (f x) (flat_map f xs) ∙ ap (option_or (first_in w (f x))) (in-flat w f xs)

pub in-parts : {X Y Z : Type 0} (w : Z → Option Fault) (g : Y → List Z) (f : X → Y) (xs : List X) → first_in w (flat_map g (map f xs)) ≡ first_in (λ (x : X). first_in w (g (f x))) xs
in-parts w g f xs = in-flat w g (map f xs) ∙ in-map (λ y. first_in w (g y)) f xs

-- a test that one item passes, or none of them
pub any_some : {X : Type 0} (p : X → Bool) (xs : List X) (i : ℕ) (x : X) → slice_get xs i ≡ Some x → p x ≡ true → list_any p xs ≡ true
any_some p [] i x at passed = absurd (let f : ⊥ = cc in f)
any_some p (y ∷ ys) zero x at passed = (let same : y ≡ x = cc in rw (ap p same ∙ passed) refl)
any_some p (y ∷ ys) (suc i) x at passed = rw (any_some p ys i x at passed) (or_true (p y))
  where
    or_true : (b : Bool) → (b || true) ≡ true
    or_true true = refl
    or_true false = refl

-- one that an item before a place passes
pub any_used : {X : Type 0} (p : X → Bool) (xs : List X) (n i : ℕ) (x : X) → i < n → slice_get xs i ≡ Some x → p x ≡ true → list_any p (take n xs) ≡ true
any_used p xs n i x lt at passed = any_some p (take n xs) i x (slice_get-take xs n i lt ∙ at) passed

any_none : {X : Type 0} (p : X → Bool) (xs : List X) → ((i : ℕ) (x : X) → slice_get xs i ≡ Some x → p x ≡ false) → list_any p xs ≡ false
any_none p [] failed = refl
any_none p (y ∷ ys) failed = rw (failed 0 y refl) (any_none p ys (λ i x at. failed (suc i) x at))

-- what comes after a list
pub at_middle : {X : Type 0} (xs : List X) (y : X) (ys : List X) → slice_get (xs ++ y ∷ ys) (length xs) ≡ Some y
at_middle [] y ys = refl
at_middle (z ∷ xs) y ys = at_middle xs y ys

-- where all keys differ, no item is a repeat
pub no_repeat-after : {X : Type 0} (key : X → List ℕ) (as_fault : X → Fault) (before xs : List X) → AllDiffer (map key (before ++ xs)) → first_after (repeat_of key as_fault) before xs ≡ None
no_repeat-after key as_fault before [] d = refl
no_repeat-after key as_fault before (x ∷ xs) d =
    let none : list_any (λ y. bytes_eq (key y) (key x)) before ≡ false = any_none (λ y. bytes_eq (key y) (key x)) before (λ i y at. false_from_ne_true (bytes_eq (key y) (key x)) (λ same.
    let one = key_at key (before ++ x ∷ xs) i y (at_prefix before (x ∷ xs) i y at) in
    let other = key_at key (before ++ x ∷ xs) (length before) x (at_middle before x xs) in
    let place = d.differ i (length before) (key x) (one ∙ ap Some (name_equal (key y) (key x) same)) other in
    let within = slice_get_within before i y at in
    (let wrong : ⊥ = omega arith in wrong))) in
    rw none (no_repeat-after key as_fault (before ++ x ∷ []) xs (rw (append_assoc before (x ∷ []) xs) d))

pub no_repeats : {X : Type 0} (key : X → List ℕ) (as_fault : X → Fault) (xs : List X) → AllDiffer (map key xs) → first_repeat key as_fault xs ≡ None
no_repeats key as_fault xs d = no_repeat-after key as_fault [] xs d

-- an item whose key an earlier one has
pub found_before : {X : Type 0} (key : X → List ℕ) (xs : List X) (first second : ℕ) (later : X) → IsRepeatAt (map key xs) first second → slice_get xs second ≡ Some later → list_any (λ y. bytes_eq (key y) (key later)) (take second xs) ≡ true
found_before key xs first second later r at =
    let earlier = map_at key xs first r.x r.at_first in
    let there : Some r.x ≡ Some (key later) = sym r.at_second ∙ key_at key xs second later at in
    let same : r.x ≡ key later = cc in
    any_some (λ y. bytes_eq (key y) (key later)) (take second xs) first earlier.0 (slice_get-take xs second first r.before ∙ earlier.1) (ap (λ k. bytes_eq k (key later)) (earlier.2 ∙ same) ∙ name_itself (key later))

-- the item at the first place whose key an earlier one has
pub repeat_first : {X : Type 0} (key : X → List ℕ) (as_fault : X → Fault) (xs : List X) (first second : ℕ) (later : X) → IsRepeatAt (map key xs) first second → AllDiffer (take second (map key xs)) → slice_get xs second ≡ Some later → first_repeat key as_fault xs ≡ Some (as_fault later)
repeat_first key as_fault xs first second later r d at =
    let found = found_before key xs first second later r at in
    after-at (repeat_of key as_fault) xs second later (as_fault later) at (no_repeats key as_fault (take second xs) (rw (take-map key second xs) at d)) (rw found refl)

-- items that are made of others
pub any-map : {X Y : Type 0} (p : Y → Bool) (f : X → Y) (xs : List X) → list_any p (map f xs) ≡ list_any (λ (x : X). p (f x)) xs
any-map p f [] = refl
any-map p f (x ∷ xs) = ap (λ (b : Bool). p (f x) || b) (any-map p f xs)

after-map : {X Y : Type 0} (key : Y → List ℕ) (as_fault : Y → Fault) (f : X → Y) (before xs : List X) → first_after (repeat_of key as_fault) (map f before) (map f xs) ≡ first_after (repeat_of (λ (x : X). key (f x)) (λ (x : X). as_fault (f x))) before xs
after-map key as_fault f before [] = refl
after-map {X} {Y} key as_fault f before (x ∷ xs) =
    let own : repeat_of key as_fault (map f before) (f x) ≡ repeat_of (λ (y : X). key (f y)) (λ (y : X). as_fault (f y)) before x = ap (λ (b : Bool). if b then Some (as_fault (f x)) else None) (any-map (λ (y : Y). bytes_eq (key y) (key (f x))) f before) in
    let rest : first_after (repeat_of key as_fault) (map f before ++ f x ∷ []) (map f xs) ≡ first_after (repeat_of (λ (y : X). key (f y)) (λ (y : X). as_fault (f y))) (before ++ x ∷ []) xs = ap (λ (l : List Y). first_after (repeat_of key as_fault) l (map f xs)) (sym (map-append f before (x ∷ []))) ∙ after-map key as_fault f (before ++ x ∷ []) xs in
    ap (λ (o : Option Fault). option_or o (first_after (repeat_of key as_fault) (map f before ++ f x ∷ []) (map f xs))) own ∙ ap (option_or (repeat_of (λ (y : X). key (f y)) (λ (y : X). as_fault (f y)) before x)) rest

pub repeat-map : {X Y : Type 0} (key : Y → List ℕ) (as_fault : Y → Fault) (f : X → Y) (xs : List X) → first_repeat key as_fault (map f xs) ≡ first_repeat (λ (x : X). key (f x)) (λ (x : X). as_fault (f x)) xs
repeat-map key as_fault f xs = after-map key as_fault f [] xs

-- an error reports the first fault, however that is written
pub reports_same : {first other : Option Fault} {e : ParseError} → first ≡ other → Reports first e → Reports other e
reports_same same report = elim report [ inl memory ↦ inl memory | inr is ↦ inr (sym same ∙ is) ]

-- an error that reports the first of two faults, or the second where there is no first
pub reports_prefix : {first : Option Fault} {e : ParseError} (second : Option Fault) → Reports first e → Reports (option_or first second) e
reports_prefix second report = elim report [ inl memory ↦ inl memory | inr is ↦ inr (ap (λ (o : Option Fault). option_or o second) is) ]

pub reports_back : {first second : Option Fault} {e : ParseError} → first ≡ None → Reports second e → Reports (option_or first second) e
reports_back {first} {second} none report = reports_same (sym (ap (λ (o : Option Fault). option_or o second) none)) report

pub none_both : {first second : Option Fault} → first ≡ None → second ≡ None → option_or first second ≡ None
none_both {first} {second} none both = ap (λ (o : Option Fault). option_or o second) none ∙ both

-- a last call, whose result is returned as it is, finds the first fault, however that is written
pub finds_same : {T : Type 0} {first other : Option Fault} (r : Result T ParseError) → first ≡ other → Finds first r → Finds other r
finds_same r same h = subst (λ (o : Option Fault). Finds o r) same h

-- one that finds the second of two faults finds the first of both, where what comes before it finds none
pub finds_back : {T : Type 0} {first : Option Fault} (second : Option Fault) (r : Result T ParseError) → first ≡ None → Finds second r → Finds (option_or first second) r
finds_back second r none h = finds_same r (sym (ap (λ (o : Option Fault). option_or o second) none)) h

-- one that fails of memory alone finds none, where what comes before it finds none
pub finds_memory : {T : Type 0} (first : Option Fault) (r : Result T ParseError) → first ≡ None → IfErr r IsAllocationFailure → Finds first r
finds_memory first (Ok x) none h = none
finds_memory first (Err e) none h = inl h
