-- Runs in one list that are filled from their ends.
use Rattle.std.proofs.Common.{◌≡◌, ◌≢◌, ℕ, zero, suc, ◌+◌, ◌-◌, ◌<◌, ◌≤◌, List, ◌∷◌, length, get_or, set, take, drop, arith, sym, ◌∙◌, ap, refl, subst, inl, inr, cond, nat_eq, Bool, true, false}
use Rattle.std.proofs.lemmas.Bool.{cases_lt, cases_eq, cond-true, cond-false, eq-eqb, ne_eqb}
use Rattle.std.proofs.lemmas.List.{length-set, get_or-set_same, get_or-set_other, drop-set-lt, drop-set-add, take-set-le, drop-set}
use Rattle.wit_order.specs.Cut.{between}
use Rattle.wit_order.specs.Heap.{times}
use Rattle.wit_order.specs.Turned.{IsFilling, HasRoom}
use Rattle.wit_order.proofs.Counts.{one, one_same, one_other, times_more, times-take-le, times-cons}

-- what is written before a part of a list, or after it, leaves it as it is
between_after : (a b i v : ℕ) (xs : List ℕ) → a ≤ b → b ≤ i → between a b (set xs i v) ≡ between a b xs
between_after a b i v xs le h =
    let at : a + (i - a) ≡ i = omega (arith, le, h) in
    ap (λ k. take (b - a) (drop a (set xs k v))) (sym at) ∙ ap (take (b - a)) (drop-set-add a xs (i - a) v) ∙ take-set-le (b - a) (drop a xs) (i - a) v (omega (arith, le, h))

between_before : (a b i v : ℕ) (xs : List ℕ) → i < a → between a b (set xs i v) ≡ between a b xs
between_before a b i v xs h = ap (take (b - a)) (drop-set-lt a xs i v h)

-- one more before a part
between_prefix : (i b v : ℕ) (xs : List ℕ) → i < b → i < length xs → between i b (set xs i v) ≡ v ∷ between (i + 1) b xs
between_prefix i b v xs h inside =
    let wide : b - i ≡ suc (b - (i + 1)) = omega (arith, h) in
    ap (take (b - i)) (drop-set xs i v inside) ∙ ap (λ n. take n (v ∷ drop (i + 1) xs)) wide

pub filling_same : (starts : List ℕ) (put puts : ℕ → ℕ) (seen seens : ℕ → ℕ → ℕ) (users prefixes : List ℕ) → ((w : ℕ) → put w ≡ puts w) → ((w q : ℕ) → seen w q ≡ seens w q)
    → IsFilling starts put seen users prefixes → IsFilling starts puts seens users prefixes
filling_same starts put puts seen seens users prefixes same sames f = record {
  long = f.long;
  prefix = λ w h. omega (arith, f.prefix w h, same w);
  room = λ w h. omega (arith, f.room w h, same w);
  within = f.within;
  noted = λ w h q. f.noted w h q ∙ sames w q;
}

-- one more in the run of x
module _ (starts : List ℕ) (put : ℕ → ℕ) (seen : ℕ → ℕ → ℕ) (users prefixes : List ℕ) (f : IsFilling starts put seen users prefixes) where
  rising : (w : ℕ) → w + 1 < length starts → get_or starts w 0 ≤ get_or starts (w + 1) 0
  rising w h = omega (arith, f.room w h)

  apart : (w n : ℕ) → w + n < length starts → get_or starts w 0 ≤ get_or starts (w + n) 0
  apart w zero h = let same : w + 0 ≡ w = omega arith in omega (arith, ap (λ k. get_or starts k 0) same)
  apart w (suc n) h =
      let next : w + suc n ≡ w + n + 1 = omega arith in
      omega (arith, apart w n (omega (arith, h)), rising (w + n) (omega (arith, h)), ap (λ k. get_or starts k 0) next)

  rises_to : (w x : ℕ) → w ≤ x → x < length starts → get_or starts w 0 ≤ get_or starts x 0
  rises_to w x le h = let at : w + (x - w) ≡ x = omega (arith, le) in subst (λ k. get_or starts w 0 ≤ get_or starts k 0) at (apart w (x - w) (omega (arith, le, h)))

  module _ (x p prefix : ℕ) (h : x + 1 < length starts) (room : get_or starts x 0 + (put x + 1) ≤ get_or starts (x + 1) 0) (at : prefix + 1 ≡ get_or prefixes (x + 1) 0) where
    pub prefix_within : prefix < length users
    prefix_within = omega (arith, at, f.prefix x h, f.within (x + 1) h)

    prefix_after : get_or starts x 0 ≤ prefix
    prefix_after = omega (arith, at, f.prefix x h, room)

    -- the run of another place
    other_run : (w : ℕ) → w + 1 < length starts → w ≢ x → between (get_or prefixes (w + 1) 0) (get_or starts (w + 1) 0) (set users prefix p) ≡ between (get_or prefixes (w + 1) 0) (get_or starts (w + 1) 0) users
    other_run w inside ne = elim (cases_lt w x) [
      | inl l ↦ between_after (get_or prefixes (w + 1) 0) (get_or starts (w + 1) 0) prefix p users (omega (arith, f.prefix w inside))
          (omega (arith, rises_to (w + 1) x (omega (arith, l)) (omega (arith, h)), prefix_after))
      | inr g ↦ between_before (get_or prefixes (w + 1) 0) (get_or starts (w + 1) 0) prefix p users
          (omega (arith, at, f.prefix x h, rises_to (x + 1) w (omega (arith, g, ne)) (omega (arith, inside)), f.prefix w inside, f.room w inside))
    ]

    pub filling_one : IsFilling starts (λ w. put w + one x w) (λ w q. seen w q + cond (nat_eq x w) (one p q) 0) (set users prefix p) (set prefixes (x + 1) prefix)
    filling_one =
        let near : x + 1 < length prefixes = omega (arith, h, f.long) in
        record {
          long = length-set prefixes (x + 1) prefix ∙ f.long;
          within = λ i inside. omega (arith, f.within i inside, length-set users prefix p);
          room = λ w inside. elim (cases_eq x w) [
            | inl e ↦ omega (arith, room, one_same x w e, ap put e, ap (λ k. get_or starts k 0) e, ap (λ k. get_or starts (k + 1) 0) e)
            | inr ne ↦ omega (arith, f.room w inside, one_other x w ne)
          ];
          prefix = λ w inside. elim (cases_eq x w) [
            | inl e ↦ omega (
              arith,
              ap (λ k. get_or (set prefixes (x + 1) prefix) (k + 1) 0) e,
              get_or-set_same prefixes (x + 1) prefix 0 near,
              one_same x w e,
              f.prefix x h,
              at,
              ap put e,
              ap (λ k. get_or starts (k + 1) 0) e,
            )
            | inr ne ↦ omega (arith, get_or-set_other prefixes (x + 1) (w + 1) prefix 0 (λ e. ne (omega (arith, e))), f.prefix w inside, one_other x w ne)
          ];
          noted = λ w inside q. elim (cases_eq x w) [
            | inl e ↦
                let start : get_or (set prefixes (x + 1) prefix) (w + 1) 0 ≡ prefix = ap (λ k. get_or (set prefixes (x + 1) prefix) (k + 1) 0) (sym e) ∙ get_or-set_same prefixes (x + 1) prefix 0 near in
                let end : get_or starts (w + 1) 0 ≡ get_or starts (x + 1) 0 = ap (λ k. get_or starts (k + 1) 0) (sym e) in
                let below : prefix < get_or starts (x + 1) 0 = omega (arith, at, f.prefix x h) in
                let all : between (get_or (set prefixes (x + 1) prefix) (w + 1) 0) (get_or starts (w + 1) 0) (set users prefix p) ≡ p ∷ between (get_or prefixes (x + 1) 0) (get_or starts (x + 1) 0) users =
                ap (λ k. between k (get_or starts (w + 1) 0) (set users prefix p)) start ∙ ap (λ k. between prefix k (set users prefix p)) end
                ∙ between_prefix prefix (get_or starts (x + 1) 0) p users below prefix_within ∙ ap (λ k. p ∷ between k (get_or starts (x + 1) 0) users) at in
                omega (
                  arith,
                  ap (times q) all,
                  times-cons q p (between (get_or prefixes (x + 1) 0) (get_or starts (x + 1) 0) users),
                  f.noted x h q,
                  ap (λ k. seen k q) e,
                  cond-true (nat_eq x w) (one p q) 0 (eq-eqb x w e),
                )
            | inr ne ↦
                let start : get_or (set prefixes (x + 1) prefix) (w + 1) 0 ≡ get_or prefixes (w + 1) 0 = get_or-set_other prefixes (x + 1) (w + 1) prefix 0 (λ e. ne (omega (arith, e))) in
                let all = ap (λ k. between k (get_or starts (w + 1) 0) (set users prefix p)) start ∙ other_run w inside (λ e. ne (sym e)) in
                omega (arith, ap (times q) all, f.noted w inside q, cond-false (nat_eq x w) (one p q) 0 (ne_eqb x w ne))
          ];
        }

cond_zero : (b : Bool) → ◌≡◌ {A = ℕ} (cond b 0 0) 0
cond_zero true = refl
cond_zero false = refl

-- one turn of the loop over the places of a row
module _ (starts : List ℕ) (put : ℕ → ℕ) (seen : ℕ → ℕ → ℕ) (users prefixes row : List ℕ) (i p : ℕ) (inside : i < length row) (room : HasRoom starts put row)
    (f : IsFilling starts (λ w. put w + times w (take i row)) (λ w q. seen w q + cond (nat_eq p q) (times w (take i row)) 0) users prefixes) (h : get_or row i 0 + 1 < length starts) where
  row_room : get_or starts (get_or row i 0) 0 + (put (get_or row i 0) + times (get_or row i 0) (take i row) + 1) ≤ get_or starts (get_or row i 0 + 1) 0
  row_room =
      let x = get_or row i 0 in
      omega (arith, room x h, times_more x row i inside, one_same x x refl, times-take-le x row (i + 1))

  pub row_some : 1 ≤ get_or prefixes (get_or row i 0 + 1) 0
  row_some = omega (arith, row_room, f.prefix (get_or row i 0) h)

  pub row_prefix : get_or prefixes (get_or row i 0 + 1) 0 - 1 < length users
  row_prefix = prefix_within starts _ _ users prefixes f (get_or row i 0) p (get_or prefixes (get_or row i 0 + 1) 0 - 1) h row_room (omega (arith, row_some))

  pub row_filling : IsFilling starts (λ w. put w + times w (take (i + 1) row)) (λ w q. seen w q + cond (nat_eq p q) (times w (take (i + 1) row)) 0)
      (set users (get_or prefixes (get_or row i 0 + 1) 0 - 1) p) (set prefixes (get_or row i 0 + 1) (get_or prefixes (get_or row i 0 + 1) 0 - 1))
  row_filling =
      let x = get_or row i 0 in
      filling_same starts _ _ _ _ _ _
      (λ w. omega (arith, times_more w row i inside))
      (λ w q. let more = times_more w row i inside in elim (cases_eq p q) [
        | inl e ↦
            let this = ap (λ n. cond (nat_eq x w) n 0) (one_same p q e) in
            omega (arith, more, this, cond-true (nat_eq p q) (times w (take i row)) 0 (eq-eqb p q e), cond-true (nat_eq p q) (times w (take (i + 1) row)) 0 (eq-eqb p q e))
        | inr ne ↦
            let none : cond (nat_eq x w) (one p q) 0 ≡ 0 = ap (λ n. cond (nat_eq x w) n 0) (one_other p q ne) ∙ cond_zero (nat_eq x w) in
            omega (arith, none, cond-false (nat_eq p q) (times w (take i row)) 0 (ne_eqb p q ne), cond-false (nat_eq p q) (times w (take (i + 1) row)) 0 (ne_eqb p q ne))
      ])
      (filling_one starts _ _ users prefixes f x p (get_or prefixes (x + 1) 0 - 1) h row_room (omega (arith, row_some)))
