-- The edges of a part more.
use Rattle.std.proofs.Common.{◌≡◌, ℕ, ◌+◌, ◌<◌, List, [], ◌∷◌, ◌++◌, length, get_or, map, take, sym, ap, ◌∙◌}
use Rattle.wit_syntax.proofs.Common.{TopName, UsePath, append-nil, flat_map, flat_map-append, leads, local_target, map-append, take_more}
use Rattle.wit_top_names.specs.Checks.{edges_of}

-- a part more
pub flat_more : {X A : Type 0} (f : X → List A) (xs ys : List X) (x : X) → ys ≡ xs ++ x ∷ [] → flat_map f ys ≡ flat_map f xs ++ f x
flat_more f xs ys x more = ap (flat_map f) more ∙ flat_map-append f xs (x ∷ []) ∙ ap (λ l. flat_map f xs ++ l) (append-nil (f x))

-- the edges of the paths of a part more
pub edges_more : {P Q : Type 0} (path_of : Q → List UsePath) (part_of : P → Q) (top : List TopName) (parts : List P) (i : ℕ) (part : P) → i < length parts → part ≡ get_or parts i part → edges_of top (flat_map path_of (map part_of (take (i + 1) parts))) ≡ edges_of top (flat_map path_of (map part_of (take i parts))) ++ edges_of top (path_of (part_of part))
edges_more path_of part_of top parts i part within is =
    let more : take (i + 1) parts ≡ take i parts ++ part ∷ [] = take_more parts i part within ∙ ap (λ y. take i parts ++ y ∷ []) (sym is) in
    let mapped : map part_of (take (i + 1) parts) ≡ map part_of (take i parts) ++ part_of part ∷ [] = ap (map part_of) more ∙ map-append part_of (take i parts) (part ∷ []) in
    ap (edges_of top) (flat_more path_of (map part_of (take i parts)) (map part_of (take (i + 1) parts)) (part_of part) mapped)
    ∙ flat_map-append (λ path. local_target (leads top path)) (flat_map path_of (map part_of (take i parts))) (path_of (part_of part))
