-- Two elements of a list change places.
use Rattle.std.proofs.Common.{◌≡◌, ℕ, zero, suc, ◌+◌, ◌<◌, ◌≤◌, ◌⊎◌, List, [], ◌∷◌, Option, Some, get_or, length, swap, slice_get, slice_set, refl, sym, ap, ◌∙◌, inl, inr, arith}
use Rattle.std.specs.Option.{option_and_then}
use Rattle.std.proofs.lemmas.Option.{slice_get-get_or, slice_get_past, slice_get_cases, slice_get_within}
use Rattle.std.proofs.lemmas.List.Edits.{length-swap}
use Rattle.wit_functions.specs.Reordered.{AreBrought, ArePositions, IsExchange, IsOrder, Shows, TurnsBack}

same_or_not : (m n : ℕ) → (m ≡ n) ⊎ (m ≡ n → ⊥)
same_or_not m n = elim (three_ways m n) [
  | inl less ↦ inr (λ same. omega (arith, less, same))
  | inr rest ↦ elim rest [ inl same ↦ inl same | inr more ↦ inr (λ same. omega (arith, more, same)) ]
]
  where
    three_ways : (m n : ℕ) → (m < n) ⊎ ((m ≡ n) ⊎ (n < m))
    three_ways m n = grind arith

module _ {X : Type 0} where
  set_here : (xs : List X) (i : ℕ) (y : X) → i < length xs → slice_get (slice_set xs i y) i ≡ Some y
  set_here [] i y lt = absurd (let f : ⊥ = omega (arith, lt) in f)
  set_here (x ∷ xs) zero y lt = refl
  set_here (x ∷ xs) (suc i) y lt = set_here xs i y (omega (arith, lt))

  set_other : (xs : List X) (i j : ℕ) (y : X) → (j ≡ i → ⊥) → slice_get (slice_set xs i y) j ≡ slice_get xs j
  set_other [] i j y not_same = refl
  set_other (x ∷ xs) zero zero y not_same = absurd (not_same refl)
  set_other (x ∷ xs) zero (suc j) y not_same = refl
  set_other (x ∷ xs) (suc i) zero y not_same = refl
  set_other (x ∷ xs) (suc i) (suc j) y not_same = set_other xs i j y (λ same. not_same (ap (λ n. suc n) same))

  set_length : (xs : List X) (i : ℕ) (y : X) → length (slice_set xs i y) ≡ length xs
  set_length [] i y = refl
  set_length (x ∷ xs) zero y = refl
  set_length (x ∷ xs) (suc i) y = ap (λ n. suc n) (set_length xs i y)

  pub swapped_second : (xs : List X) (a b : ℕ) → a < length xs → b < length xs → slice_get (swap xs a b) b ≡ slice_get xs a
  swapped_second [] a b la lb = absurd (let f : ⊥ = omega (arith, la) in f)
  swapped_second (x ∷ xs) a b la lb =
      let l = x ∷ xs in
      let long : length (slice_set l a (get_or l b x)) ≡ length l = set_length l a (get_or l b x) in
      set_here (slice_set l a (get_or l b x)) b (get_or l a x) (omega (arith, lb, long)) ∙ sym (slice_get-get_or l a x la)

  pub swapped_first : (xs : List X) (a b : ℕ) → a < length xs → b < length xs → slice_get (swap xs a b) a ≡ slice_get xs b
  swapped_first [] a b la lb = absurd (let f : ⊥ = omega (arith, la) in f)
  swapped_first (x ∷ xs) a b la lb = elim (same_or_not a b) [
    | inl same ↦ ap (λ n. slice_get (swap (x ∷ xs) a b) n) same ∙ swapped_second (x ∷ xs) a b la lb ∙ ap (slice_get (x ∷ xs)) same
    | inr apart ↦ (
        let l = x ∷ xs in
        set_other (slice_set l a (get_or l b x)) b a (get_or l a x) apart ∙ set_here l a (get_or l b x) la ∙ sym (slice_get-get_or l b x lb))
  ]

  pub swapped_other : (xs : List X) (a b k : ℕ) → (k ≡ a → ⊥) → (k ≡ b → ⊥) → slice_get (swap xs a b) k ≡ slice_get xs k
  swapped_other [] a b k not_a not_b = refl
  swapped_other (x ∷ xs) a b k not_a not_b =
      let l = x ∷ xs in
      set_other (slice_set l a (get_or l b x)) b k (get_or l a x) not_b ∙ set_other l a k (get_or l b x) not_a

  -- lists with the same elements at the same places are the same
  pub same_lists : (xs ys : List X) → ((k : ℕ) → slice_get xs k ≡ slice_get ys k) → xs ≡ ys
  same_lists [] [] all = refl
  same_lists [] (y ∷ ys) all = absurd (let at = all 0 in let f : ⊥ = cc in f)
  same_lists (x ∷ xs) [] all = absurd (let at = all 0 in let f : ⊥ = cc in f)
  same_lists (x ∷ xs) (y ∷ ys) all =
      let at : Some x ≡ Some y = all 0 in
      let head : x ≡ y = cc in
      let tail = same_lists xs ys (λ k. all (suc k)) in
      λ i. head i ∷ tail i

-- the entries change places in both lists
crossed : (there back : List ℕ) (a b x y : ℕ) → a < length there → b < length there → x < length back → y < length back → TurnsBack there back
    → slice_get there a ≡ Some y → slice_get there b ≡ Some x → slice_get back x ≡ Some b → slice_get back y ≡ Some a → TurnsBack (swap there a b) (swap back x y)
crossed there back a b x y la lb lx ly turns at_a at_b at_x at_y k w h = elim (same_or_not k a) [
  | inl here ↦ (
      let is : Some w ≡ Some x = sym h ∙ ap (slice_get (swap there a b)) here ∙ swapped_first there a b la lb ∙ at_b in
      let same : w ≡ x = cc in
      ap (slice_get (swap back x y)) same ∙ swapped_first back x y lx ly ∙ at_y ∙ ap (λ (n : ℕ). Some n) (sym here))
  | inr not_a ↦ elim (same_or_not k b) [
    | inl here ↦ (
        let is : Some w ≡ Some y = sym h ∙ ap (slice_get (swap there a b)) here ∙ swapped_second there a b la lb ∙ at_a in
        let same : w ≡ y = cc in
        ap (slice_get (swap back x y)) same ∙ swapped_second back x y lx ly ∙ at_x ∙ ap (λ (n : ℕ). Some n) (sym here))
    | inr not_b ↦ (
        let was : slice_get there k ≡ Some w = sym (swapped_other there a b k not_a not_b) ∙ h in
        let at : slice_get back w ≡ Some k = turns k w was in
        let not_x : w ≡ x → ⊥ = λ same. (let one : Some k ≡ Some b = sym at ∙ ap (slice_get back) same ∙ at_x in let is : k ≡ b = cc in not_b is) in
        let not_y : w ≡ y → ⊥ = λ same. (let one : Some k ≡ Some a = sym at ∙ ap (slice_get back) same ∙ at_y in let is : k ≡ a = cc in not_a is) in
        swapped_other back x y w not_x not_y ∙ at)
  ]
]

module _ (n : ℕ) (entries places : List ℕ) (was : ArePositions n entries places) (place entry from other : ℕ) (at_entry : slice_get places entry ≡ Some from) (at_place : slice_get entries place ≡ Some other) where
  at_from : slice_get entries from ≡ Some entry
  at_from = was.kept entry from at_entry

  at_other : slice_get places other ≡ Some place
  at_other = was.found place other at_place

  within_entries : (k w : ℕ) → slice_get entries k ≡ Some w → k < length entries
  within_entries k w at = slice_get_within entries k w at

  pub from_within : from < n
  from_within = let lt = within_entries from entry at_from in omega (arith, lt, was.all_entries)

  pub other_within : other < n
  other_within = let lt = slice_get_within places other place at_other in omega (arith, lt, was.all_places)

  -- one that is brought to a place changes with what is there
  pub still_present : ArePositions n (swap entries place from) (swap places entry other)
  still_present =
      let lp = within_entries place other at_place in
      let lf = within_entries from entry at_from in
      let le = slice_get_within places entry from at_entry in
      let lo = slice_get_within places other place at_other in
      record {
        all_entries = length-swap entries place from ∙ was.all_entries;
        all_places = length-swap places entry other ∙ was.all_places;
        found = crossed entries places place from entry other lp lf le lo was.found at_place at_from at_entry at_other;
        kept = crossed places entries entry other place from le lo lp lf was.kept at_entry at_other at_place at_from;
      }

module _ (entries after : List ℕ) (place entry from : ℕ) (moved : IsExchange entries after place entry from) where
  pub same_after : (n : ℕ) → n ≡ length entries → n ≡ length after
  same_after n same = same ∙ sym (length-swap entries place from) ∙ ap length (sym moved.exchanged)

  module _ {E : Type 0} (first cur now : List E) (order : List ℕ) (is : IsOrder first order now) (wanted : slice_get order place ≡ Some entry) (so_far : AreBrought first cur order entries place) (long : length cur ≡ length entries) where
    to_place : slice_get (swap entries place from) place ≡ slice_get entries from
    to_place = swapped_first entries place from moved.place_within moved.from_within

    to_from : slice_get (swap entries place from) from ≡ slice_get entries place
    to_from = swapped_second entries place from moved.place_within moved.from_within

    -- a swap of entries and of what they say shows the same
    shown_swapped : Shows first (swap entries place from) (swap cur place from)
    shown_swapped k =
        let lc : place < length cur = omega (arith, moved.place_within, long) in
        let ld : from < length cur = omega (arith, moved.from_within, long) in
        let tell : Option ℕ → Option E = λ o. option_and_then (slice_get first) o in
        elim (same_or_not k place) [
          | inl here ↦ (
              ap (slice_get (swap cur place from)) here ∙ swapped_first cur place from lc ld ∙ so_far.shown from
              ∙ ap tell (sym to_place ∙ ap (slice_get (swap entries place from)) (sym here)))
          | inr not_place ↦ elim (same_or_not k from) [
            | inl here ↦ (
                ap (slice_get (swap cur place from)) here ∙ swapped_second cur place from lc ld ∙ so_far.shown place
                ∙ ap tell (sym to_from ∙ ap (slice_get (swap entries place from)) (sym here)))
            | inr not_from ↦ (
                swapped_other cur place from k not_place not_from ∙ so_far.shown k
                ∙ ap tell (sym (swapped_other entries place from k not_place not_from)))
          ]
        ]

    done_more : (k : ℕ) → k < place + 1 → slice_get (swap entries place from) k ≡ slice_get order k
    done_more k lt = elim (same_or_not k place) [
      | inl here ↦ ap (slice_get (swap entries place from)) here ∙ to_place ∙ moved.was_there ∙ sym wanted ∙ ap (slice_get order) (sym here)
      | inr not_place ↦ (
          let before : k < place = grind (arith, lt, not_place) in
          let not_from : k ≡ from → ⊥ = λ same. not_place (is.once k place entry (sym (so_far.done k before) ∙ ap (slice_get entries) same ∙ moved.was_there) wanted) in
          swapped_other entries place from k not_place not_from ∙ so_far.done k before)
    ]

    -- one more is at its place
    pub brought_next : AreBrought first (swap cur place from) order after (place + 1)
    brought_next = rw moved.exchanged (record { long = length-swap cur place from ∙ so_far.long; shown = shown_swapped; done = done_more })

-- once all are brought
pub all_brought : {E : Type 0} (first cur now : List E) (order entries : List ℕ) (n : ℕ) → IsOrder first order now → length order ≤ n → AreBrought first cur order entries n → length entries ≡ length first → cur ≡ now
all_brought first cur now order entries n is end brought long = same_lists cur now (λ k. brought.shown k ∙ ap (λ o. option_and_then (slice_get first) o) (same k) ∙ sym (is.shows k))
  where
    same : (k : ℕ) → slice_get entries k ≡ slice_get order k
    same k = elim (slice_get_cases order k).1 [
      | inl w ↦ brought.done k (omega (arith, w.1, end))
      | inr w ↦ (let past : length entries ≤ k = omega (arith, w.0, long, is.all) in slice_get_past entries k past ∙ sym w.1)
    ]

-- an entry that is wanted at a place is there, and the place too
pub no_less : {E : Type 0} (entries : List ℕ) (place entry n : ℕ) (first cur now : List E) (order : List ℕ) → IsOrder first order now → slice_get order place ≡ Some entry → AreBrought first cur order entries place → length cur ≡ n → (place < n → entry < n → ⊥) → ⊥
no_less entries place entry n first cur now order is wanted so_far long none =
    let at = slice_get_within order place entry wanted in
    let in_first = is.within place entry wanted in
    none (omega (arith, at, is.all, so_far.long, long)) (omega (arith, in_first, so_far.long, long))
