-- Sources have one order by their paths, and so have those that are stated alike.
use Rattle.std.proofs.Common.{◌≡◌, ℕ, suc, ◌<◌, ◌≤◌, Bool, true, false, List, [], ◌∷◌, length, map, get_or, string_bytes, refl, sym, ap, ap₂, ◌∙◌, subst, true≢false, arith}
use Rattle.std.specs.Cmp.{IsStrictWeakOrder}
use Rattle.wit_items.proofs.Common.{AllZip, false_from_ne_true, filter, is_lt, nat_cmp, ranks_by, slice_cmp, sorted_far, ties}
use Rattle.std.proofs.lemmas.Cmp.{nat_list_cmp_total}
use Rattle.wit_lex.specs.declared.source.Source.{Source}
use Rattle.wit_lex.specs.Sources.{stated_of}
use Rattle.wit_bundle.specs.SourcePaths.{IsByPath}
use Rattle.wit_alike.proofs.Lists.{zip_filter, zip_of, zip_same}

module _ {X S : Type 0} (see : X → S) where
  -- what passes first is there
  filter_has : (p : X → Bool) (zs : List X) (rest : List S) (y : X) → map see (filter p zs) ≡ see y ∷ rest → (k : ℕ) × (k < length zs) × (see (get_or zs k y) ≡ see y)
  filter_has p [] rest y h = absurd (let f : ⊥ = cc in f)
  filter_has p (z ∷ zs) rest y h = by (p z) refl (λ e. filter_has p zs rest y e)
    where
      by : (b : Bool) → p z ≡ b → (map see (filter p zs) ≡ see y ∷ rest → (k : ℕ) × (k < length zs) × (see (get_or zs k y) ≡ see y)) → (k : ℕ) × (k < length (z ∷ zs)) × (see (get_or (z ∷ zs) k y) ≡ see y)
      by true is later = (let e : see z ∷ map see (filter p zs) ≡ see y ∷ rest = rw is at h in let same : see z ≡ see y = cc in (0, omega arith, same))
      by false is later = (let it = later (rw is at h) in let within = it.1 in (suc it.0, omega arith, it.2))

  -- an order of what is seen
  module _ (below : S → S → Bool) (o : IsStrictWeakOrder below) where
    abbrev lt : X → X → Bool
    lt x y = below (see x) (see y)

    -- no element is less than one before it
    abbrev IsRising : List X → Type 0
    IsRising xs = (i j : ℕ) (d : X) → i ≤ j → j < length xs → lt (get_or xs j d) (get_or xs i d) ≡ false

    -- those that tie are seen alike
    abbrev TieAlike : List X → List X → Type 0
    TieAlike xs ys = (x : X) → map see (filter (ties lt x) xs) ≡ map see (filter (ties lt x) ys)

    rising_tail : (x : X) (xs : List X) → IsRising (x ∷ xs) → IsRising xs
    rising_tail x xs up i j d le within = up (suc i) (suc j) d (omega (arith, le)) (omega (arith, within))

    not_below : (x : X) → lt x x ≡ false
    not_below x = false_from_ne_true (lt x x) (λ less. true≢false (sym less ∙ o.one_way (see x) (see x) less))

    tied : (x y : X) → lt x y ≡ false → lt y x ≡ false → ties lt x y ≡ true
    tied x y a b = rw (a, b) refl

    -- the first of one is not below that of the other
    head_from : (x y : X) (xs ys : List X) → IsRising (x ∷ xs) → TieAlike (x ∷ xs) (y ∷ ys) → lt y x ≡ false
    head_from x y xs ys up same =
        let own : map see (filter (ties lt y) (y ∷ ys)) ≡ see y ∷ map see (filter (ties lt y) ys) = rw (tied y y (not_below y) (not_below y)) refl in
        let it = filter_has (ties lt y) (x ∷ xs) (map see (filter (ties lt y) ys)) y (same y ∙ own) in
        subst (λ (z : S). below z (see x) ≡ false) it.2 (up 0 it.0 y (omega arith) it.1)

    tail_same : (x y : X) (xs ys : List X) → see x ≡ see y → TieAlike (x ∷ xs) (y ∷ ys) → TieAlike xs ys
    tail_same x y xs ys first same z = by (ties lt z x) refl
      where
        by : (b : Bool) → ties lt z x ≡ b → map see (filter (ties lt z) xs) ≡ map see (filter (ties lt z) ys)
        by true is = (
            let also : ties lt z y ≡ true = subst (λ (s : S). ties below (see z) s ≡ true) first is in
            let e : see x ∷ map see (filter (ties lt z) xs) ≡ see y ∷ map see (filter (ties lt z) ys) = rw (is, also) at (same z) in
            cc)
        by false is = (let also : ties lt z y ≡ false = subst (λ (s : S). ties below (see z) s ≡ false) first is in rw (is, also) at (same z))

    none_there : (x : X) (xs : List X) → [] ≡ map see (filter (ties lt x) (x ∷ xs)) → ⊥
    none_there x xs h = (
        let own : map see (filter (ties lt x) (x ∷ xs)) ≡ see x ∷ map see (filter (ties lt x) xs) = rw (tied x x (not_below x) (not_below x)) refl in
        let f : ⊥ = cc in
        f)

    one_order : (xs ys : List X) → IsRising xs → IsRising ys → TieAlike xs ys → map see xs ≡ map see ys
    one_order [] [] a b same = refl
    one_order [] (y ∷ ys) a b same = absurd (none_there y ys (same y))
    one_order (x ∷ xs) [] a b same = absurd (none_there x xs (sym (same x)))
    one_order (x ∷ xs) (y ∷ ys) a b same =
        let tie : ties lt x y ≡ true = tied x y (head_from y x ys xs b (λ z. sym (same z))) (head_from x y xs ys a same) in
        let one : map see (filter (ties lt x) (x ∷ xs)) ≡ see x ∷ map see (filter (ties lt x) xs) = rw (tied x x (not_below x) (not_below x)) refl in
        let other : map see (filter (ties lt x) (y ∷ ys)) ≡ see y ∷ map see (filter (ties lt x) ys) = rw tie refl in
        let both : see x ∷ map see (filter (ties lt x) xs) ≡ see y ∷ map see (filter (ties lt x) ys) = sym one ∙ same x ∙ other in
        let head : see x ≡ see y = cc in
        ap₂ (λ (s : S) (rest : List S). s ∷ rest) head (one_order xs ys (rising_tail x xs a) (rising_tail y ys b) (tail_same x y xs ys head same))

-- the path of one source is below that of another
abbrev is_below : Source → Source → Bool
is_below s t = is_lt (slice_cmp nat_cmp (string_bytes s.path) (string_bytes t.path))

path_order : IsStrictWeakOrder is_below
path_order = ranks_by nat_list_cmp_total (λ (s : Source). string_bytes s.path)

all_kept : {X : Type 0} (xs : List X) → map (λ (x : X). x) xs ≡ xs
all_kept [] = refl
all_kept (x ∷ xs) = ap (λ (rest : List _). x ∷ rest) (all_kept xs)

pub one_by_path : (sources ordered other : List Source) → IsByPath sources ordered → IsByPath sources other → ordered ≡ other
one_by_path sources ordered other a b =
    let itself : Source → Source = λ s. s in
    let same = one_order itself is_below path_order ordered other (sorted_far is_below path_order ordered a.sorted) (sorted_far is_below path_order other b.sorted) (λ s. ap (map itself) (a.stable s ∙ sym (b.stable s))) in
    sym (all_kept ordered) ∙ same ∙ all_kept other

-- ---- sources that are stated alike
-- a source as it is stated
abbrev pub Stated : Type 0
Stated = List ℕ × List ℕ × ℕ

abbrev is_lower : Stated → Stated → Bool
is_lower a b = is_lt (slice_cmp nat_cmp a.0 b.0)

stated_order : IsStrictWeakOrder is_lower
stated_order = ranks_by nat_list_cmp_total (λ (a : Stated). a.0)

pub same_by_path : (sources others ordered next : List Source) → AllZip (λ (s t : Source). stated_of s ≡ stated_of t) sources others → IsByPath sources ordered → IsByPath others next → AllZip (λ (s t : Source). stated_of s ≡ stated_of t) ordered next
same_by_path sources others ordered next same a b =
    let Alike : Source → Source → Type 0 = λ s t. stated_of s ≡ stated_of t in
    let ties_of : (x : Source) → map stated_of (filter (ties is_below x) sources) ≡ map stated_of (filter (ties is_below x) others) =
    λ x. zip_same Alike stated_of stated_of (λ s t one. one) (filter (ties is_below x) sources) (filter (ties is_below x) others)
    (zip_filter Alike (ties is_below x) (ties is_below x) (λ s t one. ap (ties is_lower (stated_of x)) one) sources others same) in
    zip_of stated_of ordered next
    (one_order stated_of is_lower stated_order ordered next (sorted_far is_below path_order ordered a.sorted) (sorted_far is_below path_order next b.sorted)
    (λ x. ap (map stated_of) (a.stable x) ∙ ties_of x ∙ sym (ap (map stated_of) (b.stable x))))
