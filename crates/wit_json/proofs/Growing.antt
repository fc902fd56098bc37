-- One value more of a list.
use Rattle.std.proofs.Common.{◌≡◌, ℕ, ◌+◌, List, [], ◌∷◌, ◌++◌, take, ap, ◌∙◌, sym, append_assoc, refl}
use Rattle.std.specs.Prelude.{slice_get, Some, map}
use Rattle.std.specs.List.{flat_map}
use Rattle.std.proofs.lemmas.List.{append-nil, take_more}
use Rattle.std.proofs.lemmas.Option.{slice_get_within, get_or_from_slice_get}
use Rattle.std.proofs.lemmas.List.Concat.{flat_map-append}
use Rattle.json.specs.Token.{Token}

-- what each value gives, of the first ones
abbrev pub so_far : {A B : Type 0} → (B → List Token) → (A → B) → List A → ℕ → List Token
so_far g f xs i = flat_map g (map f (take i xs))

flat_map-map : {A B : Type 0} (g : B → List Token) (f : A → B) (xs : List A) → flat_map g (map f xs) ≡ flat_map (λ x. g (f x)) xs
flat_map-map g f [] = refl
flat_map-map g f (x ∷ xs) = ap (λ ts. g (f x) ++ ts) (flat_map-map g f xs)

pub one_more : {A B : Type 0} (g : B → List Token) (f : A → B) (i : ℕ) (xs : List A) (x : A) → slice_get xs i ≡ Some x → flat_map g (map f (take (i + 1) xs)) ≡ flat_map g (map f (take i xs)) ++ g (f x)
one_more g f i xs x h =
    let within = slice_get_within xs i x h in
    flat_map-map g f (take (i + 1) xs)
    ∙ ap (flat_map (λ y. g (f y))) (take_more xs i x within ∙ ap (λ y. take i xs ++ y ∷ []) (get_or_from_slice_get xs i x x h))
    ∙ flat_map-append (λ y. g (f y)) (take i xs) (x ∷ [])
    ∙ ap (λ more. flat_map (λ y. g (f y)) (take i xs) ++ more) (append-nil (g (f x)))
    ∙ ap (λ ts. ts ++ g (f x)) (sym (flat_map-map g f (take i xs)))

-- tokens that grew by those of the next value
pub extended_more : {A B : Type 0} (g : B → List Token) (f : A → B) (i : ℕ) (xs : List A) (x : A) (first before after : List Token) → slice_get xs i ≡ Some x →
    before ≡ first ++ flat_map g (map f (take i xs)) → after ≡ before ++ g (f x) → after ≡ first ++ flat_map g (map f (take (i + 1) xs))
extended_more g f i xs x first before after h was extended =
    extended ∙ ap (λ ts. ts ++ g (f x)) was ∙ append_assoc first (flat_map g (map f (take i xs))) (g (f x)) ∙ ap (λ more. first ++ more) (sym (one_more g f i xs x h))

-- the same, if what was added is a list of one
pub entry_more : {A B : Type 0} (g : B → List Token) (f : A → B) (i : ℕ) (xs : List A) (x : A) (first before after : List Token) → slice_get xs i ≡ Some x →
    before ≡ first ++ flat_map g (map f (take i xs)) → after ≡ before ++ flat_map g (f x ∷ []) → after ≡ first ++ flat_map g (map f (take (i + 1) xs))
entry_more g f i xs x first before after h was extended =
    extended_more g f i xs x first before after h was (extended ∙ ap (λ ts. before ++ ts) (append-nil (g (f x))))
