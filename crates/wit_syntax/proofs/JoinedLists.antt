-- Lists that are the same by what is made of each element.
use Rattle.std.proofs.Common.{◌≡◌, ℕ, zero, suc, ◌+◌, zero-add, add_assoc, Bool, true, false, cond, List, [], ◌∷◌, ◌++◌, length, Option, Some, refl, ap, ◌∙◌}
use Rattle.std.specs.Prelude.{slice_get, map, find, Contains}
use Rattle.std.specs.List.{flat_map, filter}
use Rattle.std.specs.Option.{option_map}
use Rattle.std.proofs.lemmas.List.{map-append}
use Rattle.std.proofs.lemmas.Grind.{flat_map-append}
use Rattle.wit_syntax.proofs.Lists.{at_prefix, at_back, flat_map_has}
use Rattle.wit_syntax.proofs.Found.{contains_at, at_contains}

-- where two functions are the same on all elements, so is what lists become
pub flat_map_by : {X Y : Type 0} (f g : X → List Y) → ((x : X) → f x ≡ g x) → (xs : List X) → flat_map f xs ≡ flat_map g xs
flat_map_by f g same [] = refl
flat_map_by f g same (x ∷ xs) = ap (λ l. l ++ flat_map f xs) (same x) ∙ ap (λ l. g x ++ l) (flat_map_by f g same xs)

pub map_by : {X Y : Type 0} (f g : X → Y) → ((x : X) → f x ≡ g x) → (xs : List X) → map f xs ≡ map g xs
map_by f g same [] = refl
map_by f g same (x ∷ xs) = ap (λ y. y ∷ map f xs) (same x) ∙ ap (λ l. g x ∷ l) (map_by f g same xs)

-- what is made of what a list becomes
pub map-flat_map : {X Y Z : Type 0} (g : Y → Z) (f : X → List Y) (xs : List X) → map g (flat_map f xs) ≡ flat_map (λ x. map g (f x)) xs
map-flat_map g f [] = refl
map-flat_map g f (x ∷ xs) = map-append g (f x) (flat_map f xs) ∙ ap (λ l. map g (f x) ++ l) (map-flat_map g f xs)

-- what a list becomes that was made of another
pub flat_map-map : {X Y Z : Type 0} (g : Y → List Z) (f : X → Y) (xs : List X) → flat_map g (map f xs) ≡ flat_map (λ x. g (f x)) xs
flat_map-map g f [] = refl
flat_map-map g f (x ∷ xs) = ap (λ l. g (f x) ++ l) (flat_map-map g f xs)

pub flat_map-flat_map : {X Y Z : Type 0} (g : Y → List Z) (f : X → List Y) (xs : List X) → flat_map g (flat_map f xs) ≡ flat_map (λ x. flat_map g (f x)) xs
flat_map-flat_map g f [] = refl
flat_map-flat_map g f (x ∷ xs) = flat_map-append g (f x) (flat_map f xs) ∙ ap (λ l. flat_map g (f x) ++ l) (flat_map-flat_map g f xs)

-- what is made of the first that passes is the first that passes of what is made
found_either : {X Y : Type 0} (f : X → Y) (b : Bool) (x : X) (o : Option X) (p : Option Y) → option_map f o ≡ p → option_map f (cond b (Some x) o) ≡ cond b (Some (f x)) p
found_either f true x o p rest = refl
found_either f false x o p rest = rest

pub find-map : {X Y : Type 0} (test : Y → Bool) (f : X → Y) (xs : List X) → option_map f (find (λ x. test (f x)) xs) ≡ find test (map f xs)
find-map test f [] = refl
find-map test f (x ∷ xs) = found_either f (test (f x)) x (find (λ y. test (f y)) xs) (find test (map f xs)) (find-map test f xs)

-- what a test keeps of what is made of each is what is made of what it keeps
kept_either : {X Y : Type 0} (f : X → Y) (b : Bool) (x : X) (xs : List X) (ys : List Y) → map f xs ≡ ys → map f (cond b (x ∷ xs) xs) ≡ cond b (f x ∷ ys) ys
kept_either f true x xs ys rest = ap (λ l. f x ∷ l) rest
kept_either f false x xs ys rest = rest

pub filter-map : {X Y : Type 0} (test : Y → Bool) (f : X → Y) (xs : List X) → map f (filter (λ x. test (f x)) xs) ≡ filter test (map f xs)
filter-map test f [] = refl
filter-map test f (x ∷ xs) = kept_either f (test (f x)) x (filter (λ y. test (f y)) xs) (filter test (map f xs)) (filter-map test f xs)

-- what is there for an element of a list comes after one another where they do
pub flat_map_from : {X Y : Type 0} (f : X → List Y) (xs : List X) (k : ℕ) (x : X) → slice_get xs k ≡ Some x → (n : ℕ) × ((j : ℕ) (y : Y) → slice_get (f x) j ≡ Some y → slice_get (flat_map f xs) (n + j) ≡ Some y)
flat_map_from f [] k x at = absurd (let wrong : ⊥ = cc in wrong)
flat_map_from f (z ∷ xs) zero x at = (0, λ j y there. rw zero-add (at_prefix (f z) (flat_map f xs) j y (ap (λ w. slice_get (f w) j) (let same : z ≡ x = cc in same) ∙ there)))
flat_map_from f (z ∷ xs) (suc k) x at =
    let it = flat_map_from f xs k x at in
    (length (f z) + it.0, λ j y there. ap (λ m. slice_get (f z ++ flat_map f xs) m) (add_assoc (length (f z)) it.0 j) ∙ at_back (f z) (flat_map f xs) (it.0 + j) y (it.1 j y there))

-- what is in a list is in what it becomes
pub among_flat_map : {X Y : Type 0} (f : X → List Y) (xs : List X) (x : X) (y : Y) → Contains xs x → Contains (f x) y → Contains (flat_map f xs) y
among_flat_map f xs x y is there =
    let i = at_contains xs x is in
    let j = at_contains (f x) y there in
    let it = flat_map_has f xs i.0 j.0 x y i.1 j.1 in
    contains_at (flat_map f xs) it.0 y it.1
