-- One text more of a list.
use Rattle.std.proofs.Common.{◌≡◌, ℕ, ◌+◌, List, [], ◌∷◌, ◌++◌, length, take, ap, ◌∙◌, sym, arith, append_assoc}
use Rattle.std.specs.Prelude.{slice_get, Some}
use Rattle.std.proofs.lemmas.List.{append-nil, length-take-le, take_more}
use Rattle.std.proofs.lemmas.Option.{slice_get_within, get_or_from_slice_get}
use Rattle.std.specs.List.{flat_map}
use Rattle.std.proofs.lemmas.List.Concat.{flat_map-append}
use Rattle.std.proofs.lemmas.Grind.{common_steps}
use Rattle.wit_listing.specs.Lists.{numbered}

pub numbered-append : {A : Type 0} (f : ℕ → A → List ℕ) (n : ℕ) (xs ys : List A) → numbered f n (xs ++ ys) ≡ numbered f n xs ++ numbered f (n + length xs) ys
numbered-append f n [] ys = ap (λ m. numbered f m ys) (omega arith)
numbered-append f n (x ∷ xs) ys =
    let place : n + 1 + length xs ≡ n + length (x ∷ xs) = omega arith in
    ap (λ rest. f n x ++ rest) (numbered-append f (n + 1) xs ys) ∙ sym (append_assoc (f n x) (numbered f (n + 1) xs) (numbered f (n + 1 + length xs) ys))
    ∙ ap (λ m. (f n x ++ numbered f (n + 1) xs) ++ numbered f m ys) place

pub numbered_more : {A : Type 0} (f : ℕ → A → List ℕ) (i : ℕ) (xs : List A) (x : A) → slice_get xs i ≡ Some x → numbered f 0 (take (i + 1) xs) ≡ numbered f 0 (take i xs) ++ f i x
numbered_more f i xs x h =
    let within = slice_get_within xs i x h in
    let in_use : 0 + length (take i xs) ≡ i = grind (arith, common_steps, length-take-le i xs) in
    ap (numbered f 0) (take_more xs i x within ∙ ap (λ y. take i xs ++ y ∷ []) (get_or_from_slice_get xs i x x h))
    ∙ numbered-append f 0 (take i xs) (x ∷ [])
    ∙ ap (λ more. numbered f 0 (take i xs) ++ more) (append-nil (f (0 + length (take i xs)) x) ∙ ap (λ m. f m x) in_use)

-- a text that grew by the text of the next value
pub added_more : {A : Type 0} (f : ℕ → A → List ℕ) (i : ℕ) (xs : List A) (x : A) (first before after : List ℕ) → slice_get xs i ≡ Some x →
    before ≡ first ++ numbered f 0 (take i xs) → after ≡ before ++ f i x → after ≡ first ++ numbered f 0 (take (i + 1) xs)
added_more f i xs x first before after h was extended =
    extended ∙ ap (λ text. text ++ f i x) was ∙ append_assoc first (numbered f 0 (take i xs)) (f i x) ∙ ap (λ more. first ++ more) (sym (numbered_more f i xs x h))

pub flat_map_more : {A : Type 0} (f : A → List ℕ) (i : ℕ) (xs : List A) (x : A) → slice_get xs i ≡ Some x → flat_map f (take (i + 1) xs) ≡ flat_map f (take i xs) ++ f x
flat_map_more f i xs x h =
    let within = slice_get_within xs i x h in
    ap (flat_map f) (take_more xs i x within ∙ ap (λ y. take i xs ++ y ∷ []) (get_or_from_slice_get xs i x x h))
    ∙ flat_map-append f (take i xs) (x ∷ [])
    ∙ ap (λ more. flat_map f (take i xs) ++ more) (append-nil (f x))

-- the same without the place
pub joined_more : {A : Type 0} (f : A → List ℕ) (i : ℕ) (xs : List A) (x : A) (first before after : List ℕ) → slice_get xs i ≡ Some x →
    before ≡ first ++ flat_map f (take i xs) → after ≡ before ++ f x → after ≡ first ++ flat_map f (take (i + 1) xs)
joined_more f i xs x first before after h was extended =
    extended ∙ ap (λ text. text ++ f x) was ∙ append_assoc first (flat_map f (take i xs)) (f x) ∙ ap (λ more. first ++ more) (sym (flat_map_more f i xs x h))
