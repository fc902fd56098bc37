-- Lent sources in the order of their paths.
use Rattle.std.proofs.Common.{◌≡◌, ◌+◌, ◌<◌, Bool, true, false, List, [], ◌∷◌, Bor, length, map, string_bytes, refl, sym, ap, ◌∙◌, arith}
use Rattle.std.specs.Prelude.{cond}
use Rattle.std.specs.Ordering.{nat_cmp, is_lt}
use Rattle.std.specs.List.{filter}
use Rattle.std.specs.List.Sorted.{IsPermutation, IsSortedBy, IsStableBy, ties}
use Rattle.std.specs.Cmp.Lexicographic.{slice_cmp}
use Rattle.std.proofs.lemmas.List.{get_or-map, length-map}
use Rattle.std.proofs.lemmas.List.Sorted.{IsPermutation-map, length_permutation, ranks_by}
use Rattle.std.proofs.lemmas.Cmp.{nat_list_cmp_total}
use Rattle.std.specs.Cmp.{IsStrictWeakOrder}
use Rattle.wit_lex.specs.declared.source.Source.{Source}
use Rattle.wit_bundle.specs.SourcePaths.{IsByPath}

-- the path of one source is below that of another
abbrev pub is_below : Source → Source → Bool
is_below s t = is_lt (slice_cmp nat_cmp (string_bytes s.path) (string_bytes t.path))

filter_through : {X Y : Type 0} (f : X → Y) (p : Y → Bool) (xs : List X) → filter p (map f xs) ≡ map f (filter (λ x. p (f x)) xs)
filter_through f p [] = refl
filter_through {X} {Y} f p (x ∷ xs) =
    elim (p (f x)) as (λ d. cond d (f x ∷ filter p (map f xs)) (filter p (map f xs)) ≡ map f (cond d (x ∷ filter (λ y. p (f y)) xs) (filter (λ y. p (f y)) xs))) [
      | true ↦ ap (λ ys. f x ∷ ys) (filter_through f p xs)
      | false ↦ filter_through f p xs
    ]

sorted_through : (xs : List (Bor Source)) → IsSortedBy (λ s t. is_below s.now t.now) xs → IsSortedBy is_below (map (λ s. s.now) xs)
sorted_through [] up = λ k d low high. absurd (omega arith)
sorted_through (x ∷ xs) up = λ k d low high.
    let as_long : length (map (λ (s : Bor Source). s.now) (x ∷ xs)) ≡ length (x ∷ xs) = length-map (x ∷ xs) (λ s. s.now) in
    let within : k + 1 < length (x ∷ xs) = omega arith in
    let before : k < length (x ∷ xs) = omega arith in
    rw (get_or-map (λ s. s.now) (x ∷ xs) k x d before, get_or-map (λ s. s.now) (x ∷ xs) (k + 1) x d within) (up k x low within)

stable_through : (old new : List (Bor Source)) → length new ≡ length old → IsStableBy (λ s t. is_below s.now t.now) old new → IsStableBy is_below (map (λ s. s.now) old) (map (λ s. s.now) new)
stable_through [] [] e same = λ s. refl
stable_through [] (x ∷ new) e same = absurd (omega arith)
stable_through (x ∷ old) new e same = λ s.
    let lent : Bor Source = record x { now = s } in
    filter_through (λ t. t.now) (ties is_below s) new ∙ (ap (map (λ t. t.now)) (same lent) ∙ sym (filter_through (λ t. t.now) (ties is_below s) (x ∷ old)))

-- lent sources that were sorted by path
pub by_path_is : (sources : List Source) (old new : List (Bor Source)) → map (λ s. s.now) old ≡ sources → IsPermutation old new → IsSortedBy (λ s t. is_below s.now t.now) new →
    IsStableBy (λ s t. is_below s.now t.now) old new → IsByPath sources (map (λ s. s.now) new)
by_path_is sources old new e same up stable = record {
  same = rw e at (IsPermutation-map (λ s. s.now) old new same);
  sorted = sorted_through new up;
  stable = rw e at (stable_through old new (length_permutation old new same) stable);
}

-- sources are ordered by their paths
pub path_order : IsStrictWeakOrder (λ (s t : Bor Source). is_below s.now t.now)
path_order = ranks_by nat_list_cmp_total (λ (s : Bor Source). string_bytes s.now.path)
