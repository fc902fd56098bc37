-- Each table has an outcome.
use Rattle.std.proofs.Common.{◌≡◌, ◌⊎◌, ◌+◌, ◌<◌, ℕ, zero, suc, List, [], ◌∷◌, ◌++◌, length, Some, inl, inr, sym, ◌∙◌, subst, arith}
use Rattle.wit_syntax.proofs.Common.{AreAccepted, AreRefused, Id, IsBefore, IsComplete, IsCyclic, IsEdge, IsGreedy, IsMissing, Leads, ReachesCycle, Row, cases_lt, greedy_nil, greedy_push, greedy_sorted, known, length_push, none-some, one_answer, placed_no_cycle, same_Some, slice_get, slice_get_within, target}
use Rattle.wit_graph.specs.Edges.{IsFirstEdge}
use Rattle.wit_graph.proofs.Cycle.{before_or_not, stuck_cycle}
use Rattle.wit_graph.proofs.Faults.{edge_index, edge_need}
use Rattle.wit_graph.proofs.Outcome.{place_below}
use Rattle.wit_walk.specs.Orders.{Outcome, InOrder, AtMissing, AtCycle, IsOutcome}
use Rattle.wit_graph.proofs.Decided.{none_or_some}

-- the least number below n that something holds of, or none
module _ (P : ℕ → Type 0) (dec : (i : ℕ) → P i ⊎ (P i → ⊥)) where
  least_below : (n : ℕ) → ((i : ℕ) × (i < n) × P i × ((j : ℕ) → j < i → P j → ⊥)) ⊎ ((i : ℕ) → i < n → P i → ⊥)
  least_below zero = inr (λ i lt p. absurd (omega (arith, lt)))
  least_below (suc n) = elim (least_below n) [
    | inl (i, lt, p, first) ↦ inl (i, omega (arith, lt), p, first)
    | inr none ↦ elim (dec n) [
      | inl p ↦ inl (n, omega arith, p, none)
      | inr not ↦ inr (λ i lt p. elim (cases_lt i n) [
        | inl below ↦ none i below p
        | inr past ↦ (let same : i ≡ n = omega (arith, lt, past) in not (subst P same p))
      ])
    ]
  ]

-- the first edge that something holds of, or none
module _ (rs : List Row) (P : ℕ → Id → Type 0) (dec : (i k : ℕ) (id : Id) → IsEdge rs i k id → P i id ⊎ (P i id → ⊥)) where
  abbrev HasAt : ℕ → ℕ → Type 0
  HasAt i k = (id : Id) × IsEdge rs i k id × P i id

  abbrev HasRow : ℕ → Type 0
  HasRow i = (k : ℕ) × HasAt i k

  has_at : (i k : ℕ) → HasAt i k ⊎ (HasAt i k → ⊥)
  has_at i k = elim (none_or_some (slice_get rs i)) [
    | inl past ↦ inr (λ h. none-some h.1.0 (sym past ∙ h.1.1))
    | inr (row, at) ↦ elim (none_or_some (slice_get row.needs k)) [
      | inl past ↦ inr (λ h. none-some h.0 (sym past ∙ edge_need rs i k h.0 row h.1 at))
      | inr (id, there) ↦ elim (dec i k id (row, at, there)) [
        | inl holds ↦ inl (id, (row, at, there), holds)
        | inr fails ↦ inr (λ h. (let one : Some h.0 ≡ Some id = sym (edge_need rs i k h.0 row h.1 at) ∙ there in fails (subst (P i) (same_Some h.0 id one) h.2)))
      ]
    ]
  ]

  least_at : (i : ℕ) → ((k : ℕ) × HasAt i k × ((l : ℕ) → l < k → HasAt i l → ⊥)) ⊎ (HasRow i → ⊥)
  least_at i = elim (none_or_some (slice_get rs i)) [
    | inl past ↦ inr (λ h. none-some h.1.1.0 (sym past ∙ h.1.1.1))
    | inr (row, at) ↦ elim (least_below (HasAt i) (has_at i) (length row.needs)) [
      | inl (k, lt, has, first) ↦ inl (k, has, first)
      | inr none ↦ inr (λ h. none h.0 (edge_index rs i h.0 h.1.0 row h.1.1 at) h.1)
    ]
  ]

  pub has_row : (i : ℕ) → HasRow i ⊎ (HasRow i → ⊥)
  has_row i = elim (least_at i) [
    | inl (k, has, first) ↦ inl (k, has)
    | inr none ↦ inr none
  ]

  first_edge : ((i k : ℕ) × (id : Id) × IsFirstEdge (IsEdge rs) P i k id) ⊎ ((i k : ℕ) (id : Id) → IsEdge rs i k id → P i id → ⊥)
  first_edge = elim (least_below HasRow has_row (length rs)) [
    | inr none ↦ inr (λ i k id edge holds. none i (slice_get_within rs i edge.0 edge.1) (k, (id, edge, holds)))
    | inl (i, lt, has, above) ↦ elim (least_at i) [
      | inr none ↦ absurd (none has)
      | inl (k, (id, edge, holds), first) ↦ inl (
        i,
        k,
        id,
        record {
          is = edge;
          holds = holds;
          earlier = λ j l y other before passes. elim before [
            | inl less ↦ above j less (l, (y, other, passes))
            | inr here ↦ first l here.1 (y, subst (λ (p : ℕ). IsEdge rs p l y) here.0 other, subst (λ (p : ℕ). P p y) here.0 passes)
          ];
        },
      )
    ]
  ]

module _ (rs : List Row) where
  abbrev Placed : List ℕ → ℕ → Type 0
  Placed order p = IsBefore order (length order) p

  -- all that a place leads to is in an order, or some of it is out
  abbrev LeadsOut : List ℕ → ℕ → Id → Type 0
  LeadsOut order i id = (w : ℕ) × (target rs id ≡ Some w) × (Placed order w → ⊥)

  leads_out : (order : List ℕ) (i k : ℕ) (id : Id) → IsEdge rs i k id → LeadsOut order i id ⊎ (LeadsOut order i id → ⊥)
  leads_out order i k id edge = elim (none_or_some (target rs id)) [
    | inl gone ↦ inr (λ h. none-some h.0 (sym gone ∙ h.1))
    | inr (v, there) ↦ elim (before_or_not order v) [
      | inl placed ↦ inr (λ h. (let one : Some v ≡ Some h.0 = sym there ∙ h.1 in h.2 (subst (Placed order) (same_Some v h.0 one) placed)))
      | inr out ↦ inl (v, there, out)
    ]
  ]

  leads_split : (order : List ℕ) (q : ℕ) → ((w : ℕ) → Leads rs q w → Placed order w) ⊎ ((w : ℕ) × Leads rs q w × (Placed order w → ⊥))
  leads_split order q = elim (has_row rs (LeadsOut order) (leads_out order) q) [
    | inl (k, (id, edge, (w, there, out))) ↦ inr (w, (k, id, edge, there), out)
    | inr none ↦ inl (λ w (k, id, edge, there). elim (before_or_not order w) [
      | inl placed ↦ placed
      | inr out ↦ absurd (none (k, (id, edge, (w, there, out))))
    ])
  ]

  -- a place that is out, while all that it leads to is in the order
  abbrev IsReady : List ℕ → ℕ → Type 0
  IsReady order q = (Placed order q → ⊥) × ((w : ℕ) → Leads rs q w → Placed order w)

  ready_or_not : (order : List ℕ) (q : ℕ) → IsReady order q ⊎ (IsReady order q → ⊥)
  ready_or_not order q = elim (before_or_not order q) [
    | inl placed ↦ inr (λ r. r.0 placed)
    | inr out ↦ elim (leads_split order q) [
      | inl all ↦ inl (out, all)
      | inr (w, l, gone) ↦ inr (λ r. gone (r.1 w l))
    ]
  ]

  -- taking the least ready place each time ends where none is ready
  record Ended : Type 0 where
    order : List ℕ
    greedy : IsGreedy (Leads rs) (length rs) order
    none : (q : ℕ) → q < length rs → IsReady order q → ⊥

  end_from : (m : ℕ) (order : List ℕ) → IsGreedy (Leads rs) (length rs) order → length order + m ≡ length rs → Ended
  end_from zero order greedy long =
      let all : length order ≡ length rs = omega (arith, long) in
      record { order = order; greedy = greedy; none = λ q lt ready. ready.0 (subst (λ (n : ℕ). IsBefore order n q) (sym all) ((greedy_sorted (Leads rs) (length rs) order greedy all).each q lt)) }
  end_from (suc m) order greedy long = elim (least_below (IsReady order) (ready_or_not order) (length rs)) [
    | inr none ↦ record { order = order; greedy = greedy; none = none }
    | inl (p, lt, ready, first) ↦ (
        let longer = length_push order p in
        end_from m (order ++ p ∷ []) (greedy_push (Leads rs) (length rs) order p greedy lt ready.0 ready.1 (λ q qn out edges. elim (cases_lt q p) [ inl less ↦ absurd (first q less (out, edges)) | inr past ↦ past ])) (omega (arith, long, longer)))
  ]

  ended : Ended
  ended = end_from (length rs) [] (greedy_nil (Leads rs) (length rs)) (omega arith)

  -- so whether a place reaches a cycle is decided: what is out leads to what is out
  cycle_or_not : (p : ℕ) → p < length rs → ReachesCycle (Leads rs) p ⊎ (ReachesCycle (Leads rs) p → ⊥)
  cycle_or_not p lt =
      let it = ended in
      let Out : ℕ → Type 0 = λ q. (q < length rs) × (Placed it.order q → ⊥) in
      let next : (q : ℕ) → Out q → (w : ℕ) × Out w × Leads rs q w = λ q out. elim (leads_split it.order q) [
        | inl all ↦ absurd (it.none q out.0 (out.1, all))
        | inr (w, l, gone) ↦ (w, (place_below rs l.1.name.now w l.3, gone), l)
      ] in
      elim (before_or_not it.order p) [
        | inl placed ↦ inr (placed_no_cycle (Leads rs) (length rs) it.order it.greedy p placed)
        | inr out ↦ inl (stuck_cycle (Leads rs) (length rs) Out (λ q h. h.0) next p (lt, out))
      ]

  missing_or_not : (i k : ℕ) (id : Id) → IsEdge rs i k id → IsMissing rs i id ⊎ (IsMissing rs i id → ⊥)
  missing_or_not i k id edge = elim (none_or_some (target rs id)) [
    | inl gone ↦ inl gone
    | inr (w, there) ↦ inr (λ gone. none-some w (sym gone ∙ there))
  ]

  cyclic_or_not : (i k : ℕ) (id : Id) → IsEdge rs i k id → IsCyclic rs i id ⊎ (IsCyclic rs i id → ⊥)
  cyclic_or_not i k id edge = elim (cycle_or_not i (slice_get_within rs i edge.0 edge.1)) [
    | inr not ↦ inr (λ h. not h.0)
    | inl from ↦ elim (none_or_some (target rs id)) [
      | inl gone ↦ inr (λ h. none-some h.1.0 (sym gone ∙ h.1.1))
      | inr (w, there) ↦ elim (cycle_or_not w (place_below rs id.name.now w there)) [
        | inl to ↦ inl (from, (w, there, to))
        | inr not ↦ inr (λ h. (let one : Some h.1.0 ≡ Some w = sym h.1.1 ∙ there in not (subst (ReachesCycle (Leads rs)) (same_Some h.1.0 w one) h.1.2)))
      ]
    ]
  ]

  in_order_or_not : ((i k : ℕ) (id : Id) → IsEdge rs i k id → IsMissing rs i id → ⊥) → ((i k : ℕ) (id : Id) → IsEdge rs i k id → IsCyclic rs i id → ⊥) → AreAccepted rs ⊎ AreRefused rs → AreAccepted rs
  in_order_or_not present acyclic (inl accepted) = accepted
  in_order_or_not present acyclic (inr (inl (i, k, id, edge, gone))) = absurd (present i k id edge gone)
  in_order_or_not present acyclic (inr (inr (complete, (i, k, id, edge, cyclic)))) = absurd (acyclic i k id edge cyclic)

  pub outcome_of : (o : Outcome) × IsOutcome rs o
  outcome_of = elim (first_edge rs (IsMissing rs) missing_or_not) [
    | inl (i, k, id, first) ↦ (AtMissing id, (i, k, first))
    | inr present ↦ (
        let complete : IsComplete rs = λ i k id edge. elim (none_or_some (target rs id)) [
          | inl gone ↦ absurd (present i k id edge gone)
          | inr (w, there) ↦ known (target rs id) w there
        ] in
        elim (first_edge rs (IsCyclic rs) cyclic_or_not) [
          | inl (i, k, id, first) ↦ (AtCycle id, (complete, i, k, first))
          | inr acyclic ↦ (let accepted = in_order_or_not present acyclic (one_answer rs).either in (InOrder accepted.0, accepted.1))
        ])
  ]
