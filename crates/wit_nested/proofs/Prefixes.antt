-- The prefix of a list, and one element more.
use Rattle.std.proofs.Common.{◌≡◌, ℕ, ◌+◌, ◌<◌, suc, List, [], ◌∷◌, ◌++◌, length, get_or, map, take, drop, ap, refl, sym, ◌∙◌, add-one, take-suc, drop-cons, take-append-drop}
use Rattle.wit_items.proofs.Common.{map-append}

pub prefix_more : {A B : Type 0} (f : A → B) (xs : List A) (i : ℕ) (x : A) → i < length xs → x ≡ get_or xs i x → map f (take (i + 1) xs) ≡ map f (take i xs) ++ f x ∷ []
prefix_more f xs i x lt is = ap (λ n. map f (take n xs)) (add-one i) ∙ (ap (map f) (take-suc xs i x lt ∙ ap (λ y. take i xs ++ y ∷ []) (sym is)) ∙ map-append f (take i xs) (x ∷ []))

pub prefix_split : {A B : Type 0} (f : A → B) (xs : List A) (i : ℕ) (x : A) → i < length xs → x ≡ get_or xs i x → map f xs ≡ map f (take i xs) ++ f x ∷ map f (drop (suc i) xs)
prefix_split f xs i x lt is =
    ap (map f) (sym (take-append-drop i xs) ∙ ap (λ ys. take i xs ++ ys) (drop-cons xs i x lt ∙ ap (λ y. y ∷ drop (suc i) xs) (sym is))) ∙ map-append f (take i xs) (x ∷ drop (suc i) xs)

pub prefix_none : {A B : Type 0} (f : A → B) (xs : List A) → map f (take 0 xs) ≡ []
prefix_none f [] = refl
prefix_none f (x ∷ xs) = refl
