-- The first of items that repeat, by its place; and items beside those before them, where nothing is wrong with them.
use Rattle.std.proofs.Common.{◌≡◌, ℕ, ◌≤◌, ◌<◌, List, [], ◌∷◌, ◌++◌, take, Option, Some, None, refl, ◌∙◌, subst, arith}
use Rattle.wit_syntax.proofs.Common.{Fault, IsSecond, any_found, at_take, bytes_eq, name_equal, slice_get, slice_get-take, take-map, take-take}
use Rattle.wit_first.specs.First.{first_after, repeat_of, IsFirstRepeat}
use Rattle.wit_first.proofs.Bridge.{after_only, or_none_both, repeat_some}
use Rattle.wit_first.proofs.First.{found_before, no_repeats, none_both}

-- the item at the place of the first repeat has the key of an earlier one
pub repeat_found : {X : Type 0} (key : X → List ℕ) (as_fault : X → Fault) (xs : List X) (place : ℕ) (x : X) → IsFirstRepeat key xs (Some place) → slice_get xs place ≡ Some x → repeat_of key as_fault (take place xs) x ≡ Some (as_fault x)
repeat_found key as_fault xs place x first at = rw (found_before key xs first.0 place x first.1 at) refl

-- which is no first item
pub repeat_after : {X : Type 0} (key : X → List ℕ) (xs : List X) (found : Option ℕ) (k : ℕ) → IsFirstRepeat key xs found → found ≡ Some k → 1 ≤ k
repeat_after key xs None k first is = absurd (let f : ⊥ = cc in f)
repeat_after key xs (Some place) k first is =
    let lt = first.1.before in
    let same : place ≡ k = cc in
    omega arith

-- an item before that place has none
pub unrepeated : {X : Type 0} (key : X → List ℕ) (as_fault : X → Fault) (xs : List X) (found : Option ℕ) (n : ℕ) (x : X) → IsFirstRepeat key xs found → slice_get xs n ≡ Some x → ((k : ℕ) → found ≡ Some k → n < k) → repeat_of key as_fault (take n xs) x ≡ None
unrepeated key as_fault xs None n x first at before = after_only (repeat_of key as_fault) [] xs (no_repeats key as_fault xs first) n x at
unrepeated {X} key as_fault xs (Some place) n x first at before =
    let lt : n < place = before place refl in
    let none = no_repeats key as_fault (take place xs) (rw (take-map key place xs) at first.2) in
    subst (λ (l : List X). repeat_of key as_fault l x ≡ None) (take-take n place xs (omega arith)) (after_only (repeat_of key as_fault) [] (take place xs) none n x (slice_get-take xs place n lt ∙ at))

-- an item with the key of one before it is a second one
pub repeat_second : {X : Type 0} (key : X → List ℕ) (as_fault : X → Fault) (xs : List X) (n : ℕ) (x : X) (f : Fault) → slice_get xs n ≡ Some x → repeat_of key as_fault (take n xs) x ≡ Some f → IsSecond key as_fault xs f
repeat_second key as_fault xs n x f at h =
    let own = repeat_some key as_fault (take n xs) x f h in
    let found = any_found (λ y. bytes_eq (key y) (key x)) (take n xs) own.0 in
    let there = at_take xs n found.0 found.1 found.2 in
    (x, (found.0, n, there.1, found.1, there.0, at, name_equal (key found.1) (key x) found.3), own.1)

-- items beside those before them with which nothing is wrong by one test, and so by another
pub after_kept : {X : Type 0} (w v : List X → X → Option Fault) → ((before : List X) (x : X) → w before x ≡ None → v before x ≡ None) → (before xs : List X) → first_after w before xs ≡ None → first_after v before xs ≡ None
after_kept w v each before [] h = refl
after_kept w v each before (x ∷ xs) h =
    let all = or_none_both (w before x) (first_after w (before ++ x ∷ []) xs) h in
    none_both (each before x all.0) (after_kept w v each (before ++ x ∷ []) xs all.1)
