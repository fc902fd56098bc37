-- Lists and maps whose values are copies, place by place.
use Rattle.std.proofs.Common.{◌≡◌, ℕ, List, [], ◌∷◌, refl, rules}
use Rattle.std.specs.Prelude.{Result, Ok, Err, IfOk, MatchResult}
use Rattle.std.specs.List.{AllZip}
use Rattle.wit_types.specs.contracts.stability.StabilityClone.TheImpl as stability
use Rattle.wit_types.specs.declared.stability.Stability.{Stability}
use Rattle.wit_package_names.specs.contracts.package_name.PackageNameClone.TheImpl as name
use Rattle.wit_model.specs.declared.ast_item.AstItem.{AstItem}
use Rattle.wit_package_names.specs.declared.package_name.PackageName.{PackageName}

pub if_ok : {T E : Type 0} {P Q : T → Type 0} (N : E → Type 0) → ((x : T) → P x → Q x) → (r : Result T E) → MatchResult r P N → IfOk r Q
if_ok N weaker (Ok x) h = weaker x h
if_ok N weaker (Err e) h = tt

same_pair : {A B : Type 0} {p q : A × B} → q.0 ≡ p.0 → q.1 ≡ p.1 → q ≡ p
same_pair first second = λ i. (first i, second i)

AllZip-same : {A : Type 0} {R : A → A → Type 0} → ((x y : A) → R x y → y ≡ x) → (xs ys : List A) → AllZip R xs ys → ys ≡ xs
AllZip-same same [] [] all = refl
AllZip-same same [] (y ∷ ys) all = absurd all
AllZip-same same (x ∷ xs) [] all = absurd all
AllZip-same same (x ∷ xs) (y ∷ ys) all = let head = same x y all.0 in let tail = AllZip-same same xs ys all.1 in λ i. head i ∷ tail i

same_name : (a b : PackageName) → name.ghosts.is_clone a b → b ≡ a
same_name a b = search rules

same_stability : (s t : Stability) → stability.ghosts.is_clone s t → t ≡ s
same_stability s t = search rules

-- an item with its visits
abbrev Visited : Type 0
Visited = AstItem × List Stability

abbrev IsCopyOfVisited : Visited → Visited → Type 0
IsCopyOfVisited v w = (w.0 ≡ v.0) × AllZip stability.ghosts.is_clone v.1 w.1

same_visited : (v w : Visited) → IsCopyOfVisited v w → w ≡ v
same_visited v w e = same_pair e.0 (AllZip-same same_stability v.1 w.1 e.1)

-- the items of a package by their names
abbrev Items : Type 0
Items = List (List ℕ × Visited)

abbrev IsCopyOfItems : Items → Items → Type 0
IsCopyOfItems = AllZip (λ p q. (q.0 ≡ p.0) × IsCopyOfVisited p.1 q.1)

same_items : (xs ys : Items) → IsCopyOfItems xs ys → ys ≡ xs
same_items = AllZip-same (λ p q e. same_pair e.0 (same_visited p.1 q.1 e.1))

pub same_deps : (xs ys : List (PackageName × Items)) → AllZip (λ p q. name.ghosts.is_clone p.0 q.0 × IsCopyOfItems p.1 q.1) xs ys → ys ≡ xs
same_deps = AllZip-same (λ p q e. same_pair (same_name p.0 q.0 e.0) (same_items p.1 q.1 e.1))
