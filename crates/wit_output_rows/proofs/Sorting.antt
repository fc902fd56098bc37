-- The least order of a table, computed: the least place that is ready comes next.
use Rattle.std.proofs.Common.{◌≡◌, ℕ, zero, suc, ◌+◌, ◌<◌, ◌≤◌, Bool, true, false, not, ◌&&◌, ◌||◌, List, [], ◌∷◌, ◌++◌, length, nat_eq, if◌then◌else◌, Option, Some, None, IsSome, is_some, inl, inr, refl, sym, ap, ◌∙◌, arith, eqb-true, eq-eqb}
use Rattle.wit_arena.proofs.Common.{Id, IsBefore, IsEdge, IsGreedy, IsOrder, Leads, Row, and_parts, cases_Bool, cases_lt, greedy_least, greedy_nil, greedy_push, greedy_sorted, list_all, list_any, slice_get, slice_index, target}

-- what passes at each place
all_get : {X : Type 0} (test : X → Bool) (xs : List X) (i : ℕ) (x : X) → list_all test xs ≡ true → slice_get xs i ≡ Some x → test x ≡ true
all_get test [] i x all at = absurd (let f : ⊥ = cc in f)
all_get test (y ∷ xs) zero x all at = (let same : y ≡ x = cc in ap test (sym same) ∙ (and_parts (test y) (list_all test xs) all).0)
all_get test (y ∷ xs) (suc i) x all at = all_get test xs i x (and_parts (test y) (list_all test xs) all).1 at

all_each : {X : Type 0} (test : X → Bool) (xs : List X) → ((i : ℕ) (x : X) → slice_get xs i ≡ Some x → test x ≡ true) → list_all test xs ≡ true
all_each test [] each = refl
all_each test (x ∷ xs) each = rw (each 0 x refl, all_each test xs (λ i y at. each (suc i) y at)) refl

-- whether a place is in an order
abbrev holds : List ℕ → ℕ → Bool
holds order p = list_any (nat_eq p) order

holds_before : (order : List ℕ) (p : ℕ) → holds order p ≡ true → IsBefore order (length order) p
holds_before [] p h = absurd (let f : ⊥ = cc in f)
holds_before (x ∷ order) p h = elim (cases_Bool (nat_eq p x)) [
  | inl hit ↦ record { index = 0; below = omega arith; is = sym (eqb-true p x hit) }
  | inr miss ↦ (let b = holds_before order p (rw miss at h) in let below = b.below in record { index = suc b.index; below = omega (arith, below); is = b.is })
]

or_right : (a b : Bool) → b ≡ true → (a || b) ≡ true
or_right true b h = refl
or_right false b h = h

before_holds : (order : List ℕ) (p i : ℕ) → i < length order → slice_index order i ≡ p → holds order p ≡ true
before_holds [] p i below is = absurd (omega (arith, below))
before_holds (x ∷ order) p zero below is = rw (eq-eqb p x (sym is)) refl
before_holds (x ∷ order) p (suc i) below is = or_right (nat_eq p x) (holds order p) (before_holds order p i (omega (arith, below)) is)

-- whether what needs this may come, after an order
abbrev met_at : Option ℕ → List ℕ → Bool
met_at None order = false
met_at (Some w) order = holds order w

abbrev needs_of : Option Row → List Id
needs_of None = []
needs_of (Some r) = r.needs

abbrev is_ready : List Row → List ℕ → ℕ → Bool
is_ready rs order q = not (holds order q) && list_all (λ id. met_at (target rs id) order) (needs_of (slice_get rs q))

-- the first that passes of this many from a number on
abbrev first_from : (ℕ → Bool) → ℕ → ℕ → Option ℕ
first_from test from zero = None
first_from test from (suc m) = if test from then Some from else first_from test (suc from) m

record IsFirstFrom (test : ℕ → Bool) (from m p : ℕ) : Type 0 where
  passes : test p ≡ true
  low : from ≤ p
  high : p < from + m
  others : (q : ℕ) → from ≤ q → q < p → test q ≡ false

first_is : (test : ℕ → Bool) (from m p : ℕ) → first_from test from m ≡ Some p → IsFirstFrom test from m p
first_is test from zero p h = absurd (let f : ⊥ = cc in f)
first_is test from (suc m) p h = elim (cases_Bool (test from)) [
  | inl hit ↦ (
      let here : Some from ≡ Some p = rw hit at h in
      let same : from ≡ p = cc in
      record { passes = ap test (sym same) ∙ hit; low = omega (arith, same); high = omega (arith, same); others = λ q le lt. absurd (omega (arith, same, le, lt)) })
  | inr miss ↦ (
      let it = first_is test (suc from) m p (rw miss at h) in
      let low = it.low in
      let high = it.high in
      record {
        passes = it.passes;
        low = omega (arith, low);
        high = omega (arith, high);
        others = λ q le lt. elim (cases_lt from q) [ inl past ↦ it.others q (omega (arith, past)) lt | inr here ↦ (let same : from ≡ q = omega (arith, le, here) in ap test (sym same) ∙ miss) ];
      })
]

-- the least that is ready comes after an order, where one is
abbrev pushed : List ℕ → Option ℕ → List ℕ
pushed order None = order
pushed order (Some p) = order ++ p ∷ []

-- as often as this
abbrev order_from : List Row → ℕ → List ℕ → List ℕ
order_from rs zero order = order
order_from rs (suc m) order = order_from rs m (pushed order (first_from (is_ready rs order) 0 (length rs)))

abbrev pub sorted : List Row → List ℕ
sorted rs = order_from rs (length rs) []

-- whether each name that is needed has a row
abbrev are_known : List Row → Bool
are_known rs = list_all (λ (r : Row). list_all (λ id. is_some (target rs id)) r.needs) rs

-- whether that orders the whole table
abbrev pub is_sorted : List Row → Bool
is_sorted rs = are_known rs && nat_eq (length (sorted rs)) (length rs)

known_edge : (rs : List Row) (i k : ℕ) (id : Id) → are_known rs ≡ true → IsEdge rs i k id → IsSome (target rs id)
known_edge rs i k id known e = all_get (λ id. is_some (target rs id)) e.0.needs k id (all_get (λ (r : Row). list_all (λ id. is_some (target rs id)) r.needs) rs i e.0 known e.1) e.2

some_of : (o : Option ℕ) → IsSome o → (w : ℕ) × (o ≡ Some w)
some_of None h = absurd (let f : ⊥ = cc in f)
some_of (Some w) h = (w, refl)

module _ (rs : List Row) (known : are_known rs ≡ true) where
  needs_met : (order : List ℕ) (p w : ℕ) → list_all (λ id. met_at (target rs id) order) (needs_of (slice_get rs p)) ≡ true → Leads rs p w → holds order w ≡ true
  needs_met order p w met l =
      let own : slice_get (needs_of (slice_get rs p)) l.0 ≡ Some l.1 = ap (λ (o : Option Row). slice_get (needs_of o) l.0) l.2.1 ∙ l.2.2 in
      let it = all_get (λ id. met_at (target rs id) order) (needs_of (slice_get rs p)) l.0 l.1 met own in
      rw l.3 at it

  met_needs : (order : List ℕ) (q : ℕ) (row : Option Row) → slice_get rs q ≡ row → ((w : ℕ) → Leads rs q w → IsBefore order (length order) w) → list_all (λ id. met_at (target rs id) order) (needs_of row) ≡ true
  met_needs order q None at edges = refl
  met_needs order q (Some r) at edges = all_each (λ id. met_at (target rs id) order) r.needs (λ k id there. (
      let to = some_of (target rs id) (known_edge rs q k id known (r, at, there)) in
      let b = edges to.0 (k, id, (r, at, there), to.1) in
      ap (λ (o : Option ℕ). met_at o order) to.1 ∙ before_holds order to.0 b.index b.below b.is))

  ready_again : (order : List ℕ) (q : ℕ) → (IsBefore order (length order) q → ⊥) → ((w : ℕ) → Leads rs q w → IsBefore order (length order) w) → is_ready rs order q ≡ true
  ready_again order q fresh edges = elim (cases_Bool (holds order q)) [
    | inl there ↦ absurd (fresh (holds_before order q there))
    | inr out ↦ rw (out, met_needs order q (slice_get rs q) refl edges) refl
  ]

  push_ready : (order : List ℕ) (p : ℕ) → IsGreedy (Leads rs) (length rs) order → IsFirstFrom (is_ready rs order) 0 (length rs) p → IsGreedy (Leads rs) (length rs) (order ++ p ∷ [])
  push_ready order p greedy first =
      let parts = and_parts (not (holds order p)) (list_all (λ id. met_at (target rs id) order) (needs_of (slice_get rs p))) first.passes in
      let high = first.high in
      greedy_push (Leads rs) (length rs) order p greedy (omega (arith, high))
      (λ b. (let there = before_holds order p b.index b.below b.is in let wrong : false ≡ true = ap not (sym there) ∙ parts.0 in let f : ⊥ = cc in f))
      (λ w l. holds_before order w (needs_met order p w parts.1 l))
      (λ q within fresh edges. elim (cases_lt q p) [
        | inl less ↦ (let ready = ready_again order q fresh edges in let fails = first.others q (omega arith) less in let wrong : true ≡ false = sym ready ∙ fails in absurd (let f : ⊥ = cc in f))
        | inr past ↦ past
      ])

  pushed_greedy : (order : List ℕ) (next : Option ℕ) → IsGreedy (Leads rs) (length rs) order → first_from (is_ready rs order) 0 (length rs) ≡ next → IsGreedy (Leads rs) (length rs) (pushed order next)
  pushed_greedy order None greedy is = greedy
  pushed_greedy order (Some p) greedy is = push_ready order p greedy (first_is (is_ready rs order) 0 (length rs) p is)

  from_greedy : (m : ℕ) (order : List ℕ) → IsGreedy (Leads rs) (length rs) order → IsGreedy (Leads rs) (length rs) (order_from rs m order)
  from_greedy zero order greedy = greedy
  from_greedy (suc m) order greedy =
      let next = first_from (is_ready rs order) 0 (length rs) in
      from_greedy m (pushed order next) (pushed_greedy order next greedy refl)

pub sorted_order : (rs : List Row) → is_sorted rs ≡ true → IsOrder rs (sorted rs)
sorted_order rs whole =
    let parts = and_parts (are_known rs) (nat_eq (length (sorted rs)) (length rs)) whole in
    let long : length (sorted rs) ≡ length rs = eqb-true (length (sorted rs)) (length rs) parts.1 in
    let greedy = from_greedy rs parts.0 (length rs) [] (greedy_nil (Leads rs) (length rs)) in
    record {
      complete = λ i k id e. known_edge rs i k id parts.0 e;
      sorted = greedy_sorted (Leads rs) (length rs) (sorted rs) greedy long;
      least = greedy_least (Leads rs) (length rs) (sorted rs) greedy long;
    }
