-- Lists that are gone through from the prefix.
use Rattle.std.proofs.Common.{◌≡◌, ◌+◌, ◌<◌, ℕ, List, ◌∷◌, Option, Some, None, drop, length, map, refl, ap, sym, ◌∙◌, add-one, drop-cons}
use Rattle.wit_arena.proofs.Common.{Function, UnresolvedPackage, get_or_from_slice_get, option_or, slice_get, slice_get_within}
use Rattle.wit_resolved.specs.Left.{entries_from, functions_from}
use Rattle.wit_resolved.specs.Lookups.{first_of}

-- what is left from a place on begins with what is there
pub drop_at : {A : Type 0} (xs : List A) (i : ℕ) (x : A) → slice_get xs i ≡ Some x → drop i xs ≡ x ∷ drop (i + 1) xs
drop_at xs i x at =
    let lt : i < length xs = slice_get_within xs i x at in
    rw (add-one, drop-cons xs i x, get_or_from_slice_get xs i x x at) refl

-- so does what an iterator has left
pub entries_step : {A : Type 0} (p : UnresolvedPackage) (xs : List A) (i : ℕ) (x : A) → slice_get xs i ≡ Some x → entries_from p xs i ≡ (p, x) ∷ entries_from p xs (i + 1)
entries_step {A = A} p xs i x at =
    let pair : A → UnresolvedPackage × A = λ y. (p, y) in
    ap (map pair) (drop_at xs i x at)

pub functions_step : (p : UnresolvedPackage) (fs : List (List ℕ × Function)) (i : ℕ) (name : List ℕ) (f : Function) → slice_get fs i ≡ Some (name, f) → functions_from p fs i ≡ (p, f) ∷ functions_from p fs (i + 1)
functions_step p fs i name f at =
    let pair : List ℕ × Function → UnresolvedPackage × Function = λ g. (p, g.1) in
    ap (map pair) (drop_at fs i (name, f) at)

-- the first value that a function gives of a list, from a place on
pub first_step : {A B : Type 0} (f : A → Option B) (xs : List A) (i : ℕ) (x : A) → slice_get xs i ≡ Some x → f x ≡ None → first_of f (drop (i + 1) xs) ≡ first_of f (drop i xs)
first_step {B = B} f xs i x at none = sym (ap (first_of f) (drop_at xs i x at) ∙ ap (λ (o : Option B). option_or o (first_of f (drop (i + 1) xs))) none)

pub first_found : {A B : Type 0} (f : A → Option B) (xs : List A) (i : ℕ) (x : A) (y : B) → slice_get xs i ≡ Some x → f x ≡ Some y → first_of f (drop i xs) ≡ Some y
first_found {B = B} f xs i x y at found = ap (first_of f) (drop_at xs i x at) ∙ ap (λ (o : Option B). option_or o (first_of f (drop (i + 1) xs))) found
