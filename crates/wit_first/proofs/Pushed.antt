-- Lists that are made of others, item by item.
use Rattle.std.proofs.Common.{◌≡◌, ℕ, ◌+◌, ◌<◌, length, List, [], ◌∷◌, ◌++◌, map, take, get_or, sym, ap, ◌∙◌}
use Rattle.wit_syntax.proofs.Common.{map-append, take_more}

-- what is seen of the items that were made, where one more was pushed
pub pushed_next : {X Y Z : Type 0} (g : Y → Z) (f : X → Z) (out new : List Y) (xs : List X) (i : ℕ) (x : X) (y : Y) → i < length xs → x ≡ get_or xs i x → map g out ≡ map f (take i xs) → new ≡ out ++ y ∷ [] → g y ≡ f x → map g new ≡ map f (take (i + 1) xs)
pushed_next g f out new xs i x y within is before pushed own =
    let more : take (i + 1) xs ≡ take i xs ++ x ∷ [] = take_more xs i x within ∙ ap (λ z. take i xs ++ z ∷ []) (sym is) in
    ap (map g) pushed
    ∙ map-append g out (y ∷ [])
    ∙ ap (λ l. l ++ g y ∷ []) before
    ∙ ap (λ z. map f (take i xs) ++ z ∷ []) own
    ∙ sym (ap (map f) more ∙ map-append f (take i xs) (x ∷ []))
