-- Rows that are in one list.
use Rattle.std.proofs.Common.{◌≡◌, ℕ, zero, suc, ◌+◌, ◌-◌, ◌<◌, ◌≤◌, List, [], ◌∷◌, ◌++◌, length, get_or, take, drop, arith, sym, ◌∙◌, ap, refl, subst, inl, inr, Some, slice_get}
use Rattle.std.proofs.lemmas.Bool.{cases_lt}
use Rattle.std.proofs.lemmas.List.{length_push, length-drop, length-take-le, take-append-le, drop-append-le, get_or_append_left, get_or_push, get_or_default}
use Rattle.std.proofs.Math.Seq.{take-length, drop-append_seam}
use Rattle.std.proofs.lemmas.List.Sums.{sum_by-cons}
use Rattle.wit_order.specs.Cut.{between, cut_from, cut, IsCut}
use Rattle.wit_graph.specs.Graph.{edge_count}

from_long : (start : ℕ) (starts xs : List ℕ) → length (cut_from start starts xs) ≡ length starts
from_long start [] xs = refl
from_long start (next ∷ more) xs = ap suc (from_long next more xs)

-- there is a row for each place that is cut at, but the last
pub cut_long : (starts xs : List ℕ) → 0 < length starts → length (cut starts xs) + 1 ≡ length starts
cut_long [] xs h = absurd (omega (arith, h))
cut_long (start ∷ more) xs h = omega (arith, from_long start more xs)

from_at : (start : ℕ) (starts xs : List ℕ) (p : ℕ) → p < length starts → slice_get (cut_from start starts xs) p ≡ Some (between (get_or (start ∷ starts) p 0) (get_or starts p 0) xs)
from_at start [] xs p h = absurd (omega (arith, h))
from_at start (next ∷ more) xs zero h = refl
from_at start (next ∷ more) xs (suc p) h = from_at next more xs p (omega (arith, h))

-- the row of a place
pub cut_at : (starts xs : List ℕ) (p : ℕ) → p + 1 < length starts → slice_get (cut starts xs) p ≡ Some (between (get_or starts p 0) (get_or starts (p + 1) 0) xs)
cut_at [] xs p h = absurd (omega (arith, h))
cut_at (start ∷ more) xs p h = let next : suc p ≡ p + 1 = omega arith in
    subst (λ k. slice_get (cut_from start more xs) p ≡ Some (between (get_or (start ∷ more) p 0) (get_or (start ∷ more) k 0) xs)) next (from_at start more xs p (omega (arith, h)))

pub between_long : (a b : ℕ) (xs : List ℕ) → b ≤ length xs → length (between a b xs) ≡ b - a
between_long a b xs h = length-take-le (b - a) (drop a xs) (omega (arith, h, length-drop a xs))

-- what comes before the end of a list stays there when the list grows
between_more : (a b : ℕ) (xs ys : List ℕ) → a ≤ b → b ≤ length xs → between a b (xs ++ ys) ≡ between a b xs
between_more a b xs ys le h =
    ap (take (b - a)) (drop-append-le a xs ys (omega (arith, le, h))) ∙ take-append-le (b - a) (drop a xs) ys (omega (arith, h, length-drop a xs))

-- what a list grew by
between_last : (xs ys : List ℕ) → between (length xs) (length (xs ++ ys)) (xs ++ ys) ≡ ys
between_last xs ys =
    let long : length (xs ++ ys) - length xs ≡ length ys = omega (arith, ap length (drop-append_seam xs ys), length-drop (length xs) (xs ++ ys)) in
    ap (take (length (xs ++ ys) - length xs)) (drop-append_seam xs ys) ∙ ap (λ n. take n ys) long ∙ take-length ys

is_cut_rest : (start next : ℕ) (more xs : List ℕ) → IsCut (start ∷ next ∷ more) xs → IsCut (next ∷ more) xs
is_cut_rest start next more xs c = record {
  some = omega arith;
  rises = λ i h.
      let after : suc i + 1 ≡ suc (i + 1) = omega arith in
      subst (λ k. get_or (next ∷ more) i 0 ≤ get_or (start ∷ next ∷ more) k 0) after (c.rises (suc i) (omega (arith, h)));
  within = λ i h. c.within (suc i) (omega (arith, h));
}

from_more : (start : ℕ) (starts xs ys : List ℕ) → IsCut (start ∷ starts) xs → get_or (start ∷ starts) (length starts) 0 ≡ length xs
    → cut_from start (starts ++ length (xs ++ ys) ∷ []) (xs ++ ys) ≡ cut_from start starts xs ++ ys ∷ []
from_more start [] xs ys c last = ap (λ n. between n (length (xs ++ ys)) (xs ++ ys) ∷ []) last ∙ ap (λ row. row ∷ []) (between_last xs ys)
from_more start (next ∷ more) xs ys c last =
    let first = between_more start next xs ys (c.rises 0 (omega arith)) (c.within 1 (omega arith)) in
    ap (λ row. row ∷ cut_from next (more ++ length (xs ++ ys) ∷ []) (xs ++ ys)) first ∙ ap (λ rows. between start next xs ∷ rows) (from_more next more xs ys (is_cut_rest start next more xs c) last)

-- one more row
pub cut_more : (starts xs ys : List ℕ) → IsCut starts xs → get_or starts (length starts - 1) 0 ≡ length xs → cut (starts ++ length (xs ++ ys) ∷ []) (xs ++ ys) ≡ cut starts xs ++ ys ∷ []
cut_more [] xs ys c last = let some = c.some in absurd (omega (arith, some))
cut_more (start ∷ more) xs ys c last =
    let same : suc (length more) - 1 ≡ length more = omega arith in
    from_more start more xs ys c (ap (λ n. get_or (start ∷ more) n 0) (sym same) ∙ last)

-- a cut list can be cut once more at its end
pub is_cut_more : (starts xs ys : List ℕ) → IsCut starts xs → IsCut (starts ++ length (xs ++ ys) ∷ []) (xs ++ ys)
is_cut_more starts xs ys c =
    let n = length (xs ++ ys) in
    let wide : length starts ≤ length (starts ++ n ∷ []) = omega (arith, length_push starts n) in
    let extended : length xs ≤ n = omega (arith, length-drop (length xs) (xs ++ ys), ap length (drop-append_seam xs ys), between_extended xs ys) in
    record {
      some = omega (arith, length_push starts n);
      rises = λ i h. elim (cases_lt (i + 1) (length starts)) [
        | inl l ↦ let li : i < length starts = omega (arith, l) in
            omega (arith, get_or_append_left starts (n ∷ []) 0 i li, get_or_append_left starts (n ∷ []) 0 (i + 1) l, c.rises i l)
        | inr g ↦
            let li : i < length starts = omega (arith, h, length_push starts n) in
            let last : i + 1 ≡ length starts = omega (arith, g, li) in
            omega (arith, get_or_append_left starts (n ∷ []) 0 i li, get_or_push starts n 0 (i + 1) (sym last), c.within i li, extended)
      ];
      within = λ i h. elim (cases_lt i (length starts)) [
        | inl l ↦ omega (arith, get_or_append_left starts (n ∷ []) 0 i l, c.within i l, extended)
        | inr g ↦ let last : i ≡ length starts = omega (arith, h, g, length_push starts n) in omega (arith, get_or_push starts n 0 i (sym last))
      ];
    }
  where
    between_extended : (xs ys : List ℕ) → length xs ≤ length (xs ++ ys)
    between_extended [] ys = omega arith
    between_extended (x ∷ xs) ys = omega (arith, between_extended xs ys)

from_count : (start : ℕ) (starts xs : List ℕ) → IsCut (start ∷ starts) xs → edge_count (cut_from start starts xs) + start ≤ length xs
from_count start [] xs c = let first = c.within 0 (omega arith) in omega (arith, first)
from_count start (next ∷ more) xs c =
    omega (
      arith,
      sum_by-cons (λ (row : List ℕ). length row) (between start next xs) (cut_from next more xs),
      between_long start next xs (c.within 1 (omega arith)),
      from_count next more xs (is_cut_rest start next more xs c),
      c.rises 0 (omega arith),
    )

-- the rows are no longer than the list
pub cut_count : (starts xs : List ℕ) → IsCut starts xs → edge_count (cut starts xs) ≤ length xs
cut_count [] xs c = omega arith
cut_count (start ∷ more) xs c = omega (arith, from_count start more xs c)

-- a row of the cut list, as its ends were read
module _ (starts xs : List ℕ) (g : List (List ℕ)) (is : cut starts xs ≡ g) (c : IsCut starts xs) (p : ℕ) (h : p < length g) where
  pub row_within : p + 1 < length starts
  row_within = omega (arith, h, ap length is, cut_long starts xs c.some)

  module _ (a b : ℕ) (first : a ≡ get_or starts p a) (last : b ≡ get_or starts (p + 1) b) where
    row_first : a ≡ get_or starts p 0
    row_first = let inside : p < length starts = omega (arith, row_within) in first ∙ get_or_default starts p a 0 inside

    row_last : b ≡ get_or starts (p + 1) 0
    row_last = last ∙ get_or_default starts (p + 1) b 0 row_within

    pub row_rises : a ≤ b
    row_rises = omega (arith, row_first, row_last, c.rises p row_within)

    pub row_ends : b ≤ length xs
    row_ends = omega (arith, row_last, c.within (p + 1) row_within)

    pub row_is : (row : List ℕ) → row ≡ between a b xs → slice_get g p ≡ Some row
    row_is row e =
        let here : row ≡ between (get_or starts p 0) (get_or starts (p + 1) 0) xs = e ∙ ap (λ k. between k b xs) row_first ∙ ap (λ k. between (get_or starts p 0) k xs) row_last in
        ap (λ (rows : List (List ℕ)). slice_get rows p) (sym is) ∙ cut_at starts xs p row_within ∙ ap Some (sym here)

-- one more row, as the list and the places that it is cut at were read
pub row_added : (starts xs row extended new : List ℕ) (n : ℕ) → IsCut starts xs → get_or starts (length starts - 1) 0 ≡ length xs → new ≡ xs ++ row → n ≡ length new → extended ≡ starts ++ n ∷ []
    → IsCut extended new × (get_or extended (length extended - 1) 0 ≡ length new) × (cut extended new ≡ cut starts xs ++ row ∷ [])
row_added starts xs row extended new n c last more long push =
    let end : n ≡ length (xs ++ row) = long ∙ ap length more in
    let all : extended ≡ starts ++ length (xs ++ row) ∷ [] = push ∙ ap (λ k. starts ++ k ∷ []) end in
    let at : length starts ≡ length extended - 1 = omega (arith, ap length push, length_push starts n) in (
      subst (λ xs. IsCut extended xs) (sym more) (subst (λ ss. IsCut ss (xs ++ row)) (sym all) (is_cut_more starts xs row c)),
      ap (λ ss. get_or ss (length extended - 1) 0) push ∙ get_or_push starts n 0 (length extended - 1) at ∙ long,
      ap (cut extended) more ∙ ap (λ ss. cut ss (xs ++ row)) all ∙ cut_more starts xs row c last,
    )
