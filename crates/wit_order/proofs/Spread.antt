-- A graph turned round, as its runs are filled.
use Rattle.std.proofs.Common.{◌≡◌, ℕ, suc, ◌+◌, ◌-◌, ◌<◌, ◌≤◌, List, [], ◌∷◌, ◌++◌, length, get_or, take, drop, replicate, arith, sym, ◌∙◌, ap, refl, subst, inl, inr, cond, nat_eq, nat_lt, slice_get, Some, All, sum}
use Rattle.std.proofs.Math.ListN.{get_or-append}
use Rattle.std.proofs.Math.Seq.{get_or-append_seam}
use Rattle.std.proofs.lemmas.Bool.{cases_lt, cond-false, le-ltb}
use Rattle.std.proofs.lemmas.List.{length-replicate, take_all}
use Rattle.std.proofs.lemmas.List.Sums.{sum_by_more, sum_by_more_le, sum_by-take-le}
use Rattle.std.proofs.lemmas.Option.{get_or_from_slice_get, slice_get_within}
use Rattle.wit_order.specs.Cut.{between, cut, IsCut}
use Rattle.wit_graph.specs.Graph.{Graph, IsClosed}
use Rattle.wit_order.specs.Heap.{times, row_at}
use Rattle.wit_order.specs.Turned.{edges_to, IsTurned, IsFilling, HasRoom}
use Rattle.wit_order.proofs.Counts.{times-cons, one_other, noted_step, noted_all, row_at-past}
use Rattle.wit_order.proofs.Cut.{cut_long, cut_at}
use Rattle.wit_order.proofs.Filling.{filling_same}

-- the runs are as long as there are edges to their places
pub record IsSpread (g : Graph) (starts : List ℕ) : Type 0 where
  pub long : length starts ≡ length g + 1
  pub step : (w : ℕ) → w < length g → get_or starts (w + 1) 0 ≡ get_or starts w 0 + edges_to w g
  pub last : (i : ℕ) → i < length starts → get_or starts i 0 ≤ get_or starts (length g) 0

pub spread_from : (g : Graph) (counts starts : List ℕ) → length counts ≡ length g → ((w : ℕ) → get_or counts w 0 ≡ edges_to w g) → length starts ≡ length counts + 1
    → ((i : ℕ) → i < length counts + 1 → get_or starts i 0 ≡ sum (take i counts)) → IsSpread g starts
spread_from g counts starts same counted long at = record {
  long = omega (arith, long, same);
  step = λ w h. omega (arith, at w (omega (arith, h, same)), at (w + 1) (omega (arith, h, same)), counted w, sum_by_more (λ (n : ℕ). n) counts w 0 (omega (arith, h, same)));
  last = λ i h.
      let all = ap sum (take_all (length g) counts (omega (arith, same))) in
      omega (arith, at i (omega (arith, h, long)), at (length g) (omega (arith, same)), all, sum_by-take-le (λ (n : ℕ). n) counts i);
}

-- one start more
pub starts_more : (starts more lengths : List ℕ) (n end : ℕ) → length starts ≡ n → end ≡ sum (take n lengths) → ((i : ℕ) → i < n → get_or starts i 0 ≡ sum (take i lengths)) → more ≡ starts ++ end ∷ []
    → (i : ℕ) → i < n + 1 → get_or more i 0 ≡ sum (take i lengths)
starts_more starts more lengths n end long last are e i below = ap (λ l. get_or l i 0) e ∙ elim (cases_lt i n) [
  | inl l ↦ get_or-append starts (end ∷ []) 0 i (omega arith) ∙ are i l
  | inr ge ↦
      let here : length starts ≡ i = omega arith in
      let same : n ≡ i = omega arith in
      ap (λ j. get_or (starts ++ end ∷ []) j 0) (sym here) ∙ get_or-append_seam starts end [] 0 ∙ last ∙ ap (λ j. sum (take j lengths)) same
]

module _ (g : Graph) (starts : List ℕ) (s : IsSpread g starts) where
  pub fill_start : IsFilling starts (λ w. edges_to w (take 0 g)) (λ w q. cond (nat_lt q 0) (times w (row_at g q)) 0) (replicate (get_or starts (length g) 0) 0) starts
  fill_start = record {
    long = refl;
    prefix = λ w h. omega arith;
    room = λ w h. omega (arith, s.step w (omega (arith, h, s.long)));
    within = λ i h. omega (arith, s.last i h, length-replicate {A = ℕ} (get_or starts (length g) 0) 0);
    noted = λ w h q.
        let none : get_or starts (w + 1) 0 - get_or starts (w + 1) 0 ≡ 0 = omega arith in
        ap (λ n. times q (take n (drop (get_or starts (w + 1) 0) (replicate (get_or starts (length g) 0) 0)))) none ∙ sym (cond-false (nat_lt q 0) (times w (row_at g q)) 0 (le-ltb q 0 (omega arith)));
  }

  pub row_has_room : (p : ℕ) (row : List ℕ) → slice_get g p ≡ Some row → HasRoom starts (λ w. edges_to w (take p g)) row
  row_has_room p row at w h =
      let same = get_or_from_slice_get g p row row at in
      omega (arith, s.step w (omega (arith, h, s.long)), sum_by_more_le (λ r. times w r) g p row (slice_get_within g p row at), ap (times w) same)

  pub fill_next : (p : ℕ) (row users prefixes : List ℕ) → slice_get g p ≡ Some row
      → IsFilling starts (λ w. edges_to w (take p g) + times w row) (λ w q. cond (nat_lt q p) (times w (row_at g q)) 0 + cond (nat_eq p q) (times w row) 0) users prefixes
      → IsFilling starts (λ w. edges_to w (take (p + 1) g)) (λ w q. cond (nat_lt q (p + 1)) (times w (row_at g q)) 0) users prefixes
  fill_next p row users prefixes at f =
      let same : row ≡ row_at g p = sym (get_or_from_slice_get g p row [] at) in
      let read = get_or_from_slice_get g p row row at in
      filling_same starts _ _ _ _ users prefixes
      (λ w. omega (arith, sum_by_more (λ r. times w r) g p row (slice_get_within g p row at), ap (times w) read))
      (λ w q. noted_step q p (times w row) _ _ (times w (row_at g q)) refl refl (λ e. ap (times w) (same ∙ ap (row_at g) e))) f

  times_none : (w : ℕ) (xs : List ℕ) → All (λ x. x < length g) xs → length g ≤ w → times w xs ≡ 0
  times_none w [] all past = refl
  times_none w (x ∷ xs) all past =
      let first : x < length g = all 0 0 (omega arith) in
      let rest = times_none w xs (λ k d h. all (suc k) d (omega (arith, h))) past in
      omega (arith, times-cons w x xs, rest, one_other x w (λ e. absurd (omega (arith, e, first, past))))

  row_closed : IsClosed g → (q : ℕ) → All (λ x. x < length g) (row_at g q)
  row_closed closed q = elim (cases_lt q (length g)) [
    | inl l ↦ closed q [] l
    | inr past ↦ λ k d h. absurd (omega (arith, h, ap length (row_at-past g q past)))
  ]

  module _ (p : ℕ) (users prefixes : List ℕ) (f : IsFilling starts (λ w. edges_to w (take p g)) (λ w q. cond (nat_lt q p) (times w (row_at g q)) 0) users prefixes) where
    pub filled_cut : IsCut starts users
    filled_cut = record {
      some = omega (arith, s.long);
      rises = λ i h. omega (arith, s.step i (omega (arith, h, s.long)));
      within = f.within;
    }

    pub filled : IsClosed g → length g ≤ p → IsTurned g (cut starts users)
    filled closed done =
        let many = cut_long starts users (omega (arith, s.long)) in
        let long : length (cut starts users) ≡ length g = omega (arith, many, s.long) in
        record {
          long = long;
          noted = λ w q. elim (cases_lt w (length g)) [
            | inl l ↦
                let inside : w + 1 < length starts = omega (arith, l, s.long) in
                let all = ap (edges_to w) (take_all p g done) in
                let prefix : get_or prefixes (w + 1) 0 ≡ get_or starts w 0 = omega (arith, f.prefix w inside, s.step w l, all) in
                let row : row_at (cut starts users) w ≡ between (get_or starts w 0) (get_or starts (w + 1) 0) users = get_or_from_slice_get (cut starts users) w _ [] (cut_at starts users w inside) in
                noted_all g q p _ w done (ap (times q) row ∙ ap (λ k. times q (between k (get_or starts (w + 1) 0) users)) (sym prefix) ∙ f.noted w inside q)
            | inr past ↦ ap (times q) (row_at-past (cut starts users) w (omega (arith, past, long))) ∙ sym (times_none w (row_at g q) (row_closed closed q) past)
          ];
        }

pub fill_begin : (g : Graph) (starts users prefixes : List ℕ) (n : ℕ) → IsSpread g starts → users ≡ replicate n 0 → n ≡ get_or starts (length g) 0 → prefixes ≡ starts
    → IsFilling starts (λ w. edges_to w (take 0 g)) (λ w q. cond (nat_lt q 0) (times w (row_at g q)) 0) users prefixes
fill_begin g starts users prefixes n s is long same =
    let Put : ℕ → ℕ = λ w. edges_to w (take 0 g) in
    let Seen : ℕ → ℕ → ℕ = λ w q. cond (nat_lt q 0) (times w (row_at g q)) 0 in
    let all : users ≡ replicate (get_or starts (length g) 0) 0 = is ∙ ap (λ k. replicate k 0) long in
    subst (λ us. IsFilling starts Put Seen us prefixes) (sym all) (subst (λ fs. IsFilling starts Put Seen (replicate (get_or starts (length g) 0) 0) fs) (sym same) (fill_start g starts s))

pub row_inside : (g : Graph) (p n : ℕ) (row : List ℕ) → IsClosed g → slice_get g p ≡ Some row → n ≡ length g + 1 → All (λ w. w + 1 < n) row
row_inside g p n row closed at long k d h =
    let all = subst (λ r. All (λ w. w < length g) r) (get_or_from_slice_get g p row row at) (closed p row (slice_get_within g p row at)) in
    omega (arith, all k d h, long)
