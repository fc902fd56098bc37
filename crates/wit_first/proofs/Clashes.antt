-- Items whose keys repeat, where the fault is made of both.
use Rattle.std.proofs.Common.{◌≡◌, ℕ, Bool, true, false, List, [], ◌∷◌, ◌++◌, take, Option, Some, None, refl, sym, ap, ◌∙◌}
use Rattle.wit_syntax.proofs.Common.{AllDiffer, Fault, IsRepeatAt, bytes_eq, find, find-map, find-only, find_at, find_passes, key_at, list_any, map, map-append, name_equal, name_itself, option_map, option_or, slice_get, slice_get-take, take-map}
use Rattle.wit_first.specs.First.{first_after, repeat_of, clash_of}
use Rattle.wit_first.proofs.First.{any_some, no_repeat-after, none_both, after-at}

-- none is found where none passes
pub find_none : {X : Type 0} (p : X → Bool) (xs : List X) → list_any p xs ≡ false → find p xs ≡ None
find_none {X} p xs h = by (find p xs) refl
  where
    by : (o : Option X) → find p xs ≡ o → find p xs ≡ None
    by None is = is
    by (Some y) is = (let it = find_at p xs y is in let wrong : true ≡ false = sym (any_some p xs it.0 y it.1 (find_passes p xs y is)) ∙ h in let g : ⊥ = cc in absurd g)

-- an item that repeats none clashes with none
clash_none : {X : Type 0} (key : X → List ℕ) (plain : X → Fault) (as_fault : X → X → Fault) (before : List X) (x : X) → repeat_of key plain before x ≡ None → clash_of key as_fault before x ≡ None
clash_none {X} key plain as_fault before x none = by (list_any (λ y. bytes_eq (key y) (key x)) before) refl
  where
    by : (b : Bool) → list_any (λ y. bytes_eq (key y) (key x)) before ≡ b → clash_of key as_fault before x ≡ None
    by true is = (let wrong : Some (plain x) ≡ None = rw is at none in let g : ⊥ = cc in absurd g)
    by false is = ap (λ (o : Option X). option_map (λ y. as_fault y x) o) (find_none (λ y. bytes_eq (key y) (key x)) before is)

or_both : {X : Type 0} (a b : Option X) → option_or a b ≡ None → (a ≡ None) × (b ≡ None)
or_both None b h = (refl, h)
or_both (Some x) b h = absurd (let f : ⊥ = cc in f)

no_clash-after : {X : Type 0} (key : X → List ℕ) (plain : X → Fault) (as_fault : X → X → Fault) (before xs : List X) → first_after (repeat_of key plain) before xs ≡ None → first_after (clash_of key as_fault) before xs ≡ None
no_clash-after key plain as_fault before [] none = refl
no_clash-after key plain as_fault before (x ∷ xs) none =
    let both = or_both (repeat_of key plain before x) (first_after (repeat_of key plain) (before ++ x ∷ []) xs) none in
    none_both (clash_none key plain as_fault before x both.0) (no_clash-after key plain as_fault (before ++ x ∷ []) xs both.1)

-- where all keys differ
pub no_clashes : {X : Type 0} (key : X → List ℕ) (as_fault : X → X → Fault) (xs : List X) → AllDiffer (map key xs) → first_after (clash_of key as_fault) [] xs ≡ None
no_clashes key as_fault [] d = refl
no_clashes key as_fault (x ∷ xs) d = no_clash-after key (λ y. as_fault y y) as_fault [] (x ∷ xs) (no_repeat-after key (λ y. as_fault y y) [] (x ∷ xs) d)

-- the item at the first place whose key an earlier one has, and that one
pub clash_first : {X : Type 0} (key : X → List ℕ) (as_fault : X → X → Fault) (xs : List X) (first second : ℕ) (earlier later : X) → IsRepeatAt (map key xs) first second → AllDiffer (take second (map key xs)) → slice_get xs first ≡ Some earlier → slice_get xs second ≡ Some later → first_after (clash_of key as_fault) [] xs ≡ Some (as_fault earlier later)
clash_first {X} key as_fault xs first second earlier later r d at_first at =
    let there : Some r.x ≡ Some (key later) = sym r.at_second ∙ key_at key xs second later at in
    let here : Some r.x ≡ Some (key earlier) = sym r.at_first ∙ key_at key xs first earlier at_first in
    let same : key earlier ≡ key later = cc in
    let before : slice_get (take second xs) first ≡ Some earlier = slice_get-take xs second first r.before ∙ at_first in
    let apart : AllDiffer (map key (take second xs)) = rw (take-map key second xs) at d in
    let found = find-only (λ y. bytes_eq (key y) (key later)) (take second xs) first earlier before (ap (λ k. bytes_eq k (key later)) same ∙ name_itself (key later)) (λ i y at_y passes.
    apart.differ i first (key later) (key_at key (take second xs) i y at_y ∙ ap Some (name_equal (key y) (key later) passes)) (key_at key (take second xs) first earlier before ∙ ap Some same)) in
    after-at (clash_of key as_fault) xs second later (as_fault earlier later) at (no_clashes key as_fault (take second xs) apart) (ap (λ (o : Option X). option_map (λ y. as_fault y later) o) found)

-- items that are made of others
made_of : {X Y Z : Type 0} (g : Y → Z) (f : X → Y) (o : Option X) → option_map g (option_map f o) ≡ option_map (λ (x : X). g (f x)) o
made_of g f None = refl
made_of g f (Some x) = refl

pub clash-made : {X Y : Type 0} (key : Y → List ℕ) (as_fault : Y → Y → Fault) (f : X → Y) (before : List X) (x : X) → clash_of key as_fault (map f before) (f x) ≡ clash_of (λ (y : X). key (f y)) (λ (y z : X). as_fault (f y) (f z)) before x
clash-made {X} {Y} key as_fault f before x =
    ap (λ (o : Option Y). option_map (λ (y : Y). as_fault y (f x)) o) (sym (find-map (λ (y : Y). bytes_eq (key y) (key (f x))) f before))
    ∙ made_of (λ (y : Y). as_fault y (f x)) f (find (λ (y : X). bytes_eq (key (f y)) (key (f x))) before)

clash_after-map : {X Y : Type 0} (key : Y → List ℕ) (as_fault : Y → Y → Fault) (f : X → Y) (before xs : List X) → first_after (clash_of key as_fault) (map f before) (map f xs) ≡ first_after (clash_of (λ (y : X). key (f y)) (λ (y z : X). as_fault (f y) (f z))) before xs
clash_after-map key as_fault f before [] = refl
clash_after-map {X} {Y} key as_fault f before (x ∷ xs) =
    let own = clash-made key as_fault f before x in
    let rest : first_after (clash_of key as_fault) (map f before ++ f x ∷ []) (map f xs) ≡ first_after (clash_of (λ (y : X). key (f y)) (λ (y z : X). as_fault (f y) (f z))) (before ++ x ∷ []) xs = ap (λ (l : List Y). first_after (clash_of key as_fault) l (map f xs)) (sym (map-append f before (x ∷ []))) ∙ clash_after-map key as_fault f (before ++ x ∷ []) xs in
    ap (λ (o : Option Fault). option_or o (first_after (clash_of key as_fault) (map f before ++ f x ∷ []) (map f xs))) own ∙ ap (option_or (clash_of (λ (y : X). key (f y)) (λ (y z : X). as_fault (f y) (f z)) before x)) rest

pub clash-map : {X Y : Type 0} (key : Y → List ℕ) (as_fault : Y → Y → Fault) (f : X → Y) (xs : List X) → first_after (clash_of key as_fault) [] (map f xs) ≡ first_after (clash_of (λ (x : X). key (f x)) (λ (y z : X). as_fault (f y) (f z))) [] xs
clash-map key as_fault f xs = clash_after-map key as_fault f [] xs
