-- Each table has an order, or an edge that is refused.
use Rattle.std.proofs.Common.{◌≡◌, ℕ, zero, suc, ◌+◌, ◌<◌, List, [], ◌∷◌, ◌++◌, length, arith, sym, ◌∙◌, ap, refl, subst, inl, inr, ◌⊎◌, Option, Some, None, IsSome, slice_get}
use Rattle.std.proofs.lemmas.List.{length_push}
use Rattle.std.proofs.lemmas.Bool.{cases_lt}
use Rattle.std.proofs.lemmas.Option.{same_Some, none-some, slice_get_within}
use Rattle.wit_type_tree.specs.declared.leaves.Id.{Id}
use Rattle.wit_graph.specs.Order.{ReachesCycle, IsBefore, IsDependencyFirst, IsLeast}
use Rattle.wit_graph.specs.Table.{Row, target, IsMissing, IsCyclic, IsComplete, Leads}
use Rattle.wit_graph.specs.Laws.{HasEdgeThat, AreAccepted, AreRefused}
use Rattle.wit_graph.proofs.Greedy.{IsGreedy, greedy_nil, greedy_push, greedy_least, greedy_sorted}
use Rattle.wit_graph.proofs.Cycle.{before_or_not, missing, stuck_cycle}
use Rattle.wit_graph.proofs.Tables.{known, not_missing}
use Rattle.wit_graph.proofs.Outcome.{cycle_edge, place_below}
use Rattle.wit_graph.proofs.Forward.{no_cycle}

-- a fact of the first element and of the others
each_more : {A : Type 0} (P : A → Type 0) (y : A) (ys : List A) → P y → ((k : ℕ) (x : A) → slice_get ys k ≡ Some x → P x) → (k : ℕ) (x : A) → slice_get (y ∷ ys) k ≡ Some x → P x
each_more P y ys p all zero x at = subst P (same_Some y x at) p
each_more P y ys p all (suc k) x at = all k x at

-- P of each element, or Q of some
each_or_some : {A : Type 0} (P Q : A → Type 0) → ((x : A) → P x ⊎ Q x) → (xs : List A) → ((k : ℕ) (x : A) → slice_get xs k ≡ Some x → P x) ⊎ ((k : ℕ) × (x : A) × (slice_get xs k ≡ Some x) × Q x)
each_or_some P Q dec [] = inl (λ k x at. absurd (none-some x at))
each_or_some P Q dec (y ∷ ys) = elim (dec y) [
  | inr q ↦ inr (0, y, refl, q)
  | inl p ↦ elim (each_or_some P Q dec ys) [
    | inr (k, x, at, q) ↦ inr (suc k, x, at, q)
    | inl all ↦ inl (each_more P y ys p all)
  ]
]

pub none_or_some : {A : Type 0} (o : Option A) → (o ≡ None) ⊎ ((x : A) × (o ≡ Some x))
none_or_some None = inl refl
none_or_some (Some x) = inr (x, refl)

-- taking the least ready place each time comes to an end, or to a place that reaches a cycle
module _ (leads : ℕ → ℕ → Type 0) (n : ℕ) (closed : (a b : ℕ) → leads a b → b < n)
    (split : (order : List ℕ) (q : ℕ) → ((w : ℕ) → leads q w → IsBefore order (length order) w) ⊎ ((w : ℕ) × leads q w × (IsBefore order (length order) w → ⊥))) where
  abbrev Ready : List ℕ → ℕ → Type 0
  Ready order q = (IsBefore order (length order) q → ⊥) × ((w : ℕ) → leads q w → IsBefore order (length order) w)

  ready_or_not : (order : List ℕ) (q : ℕ) → Ready order q ⊎ (Ready order q → ⊥)
  ready_or_not order q = elim (before_or_not order q) [
    | inl b ↦ inr (λ r. r.0 b)
    | inr out ↦ elim (split order q) [
      | inl all ↦ inl (out, all)
      | inr (w, l, gone) ↦ inr (λ r. gone (r.1 w l))
    ]
  ]

  least_below : (order : List ℕ) (k : ℕ) → ((p : ℕ) × (p < k) × Ready order p × ((q : ℕ) → q < p → Ready order q → ⊥)) ⊎ ((q : ℕ) → q < k → Ready order q → ⊥)
  least_below order zero = inr (λ q h r. absurd (omega (arith, h)))
  least_below order (suc k) = elim (least_below order k) [
    | inl (p, h, r, first) ↦ inl (p, omega (arith, h), r, first)
    | inr none ↦ elim (ready_or_not order k) [
      | inl r ↦ inl (k, omega arith, r, none)
      | inr not ↦ inr (λ q h r. elim (cases_lt q k) [
        | inl l ↦ none q l r
        | inr ge ↦ let same : q ≡ k = omega (arith, h, ge) in not (subst (Ready order) same r)
      ])
    ]
  ]

  -- where no place is ready, each that is out leads to one that is out
  stuck_at : (order : List ℕ) → length order < n → ((q : ℕ) → q < n → Ready order q → ⊥) → (p : ℕ) × ReachesCycle leads p
  stuck_at order short none =
      let Out : ℕ → Type 0 = λ p. (p < n) × (IsBefore order (length order) p → ⊥) in
      let next : (p : ℕ) → Out p → (w : ℕ) × Out w × leads p w = λ p h. elim (split order p) [
        | inl all ↦ absurd (none p h.0 (h.1, all))
        | inr (w, l, gone) ↦ (w, (closed p w l, gone), l)
      ] in
      let m = missing order n short in
      (m.0, stuck_cycle leads n Out (λ p h. h.0) next m.0 (m.1, m.2))

  sort_from : (m : ℕ) (order : List ℕ) → IsGreedy leads n order → length order + m ≡ n
      → ((places : List ℕ) × IsDependencyFirst leads n places × IsLeast leads n places) ⊎ ((p : ℕ) × ReachesCycle leads p)
  sort_from zero order g long =
      let all : length order ≡ n = omega (arith, long) in
      inl (order, greedy_sorted leads n order g all, greedy_least leads n order g all)
  sort_from (suc m) order g long = elim (least_below order n) [
    | inr none ↦ inr (stuck_at order (omega (arith, long)) none)
    | inl (p, h, r, first) ↦
        let longer : length (order ++ p ∷ []) ≡ length order + 1 = length_push order p in
        sort_from m (order ++ p ∷ []) (greedy_push leads n order p g h r.0 r.1
        (λ q qn out edges. elim (cases_lt q p) [ inl l ↦ absurd (first q l (out, edges)) | inr ge ↦ ge ])) (omega (arith, long, longer))
  ]

  pub sorted_or_cycle : ((places : List ℕ) × IsDependencyFirst leads n places × IsLeast leads n places) ⊎ ((p : ℕ) × ReachesCycle leads p)
  sorted_or_cycle = sort_from n [] (greedy_nil leads n) (omega arith)

-- what a place leads to is in an order, or some of it is out
module _ (rs : List Row) where
  leads_split : (order : List ℕ) (q : ℕ) → ((w : ℕ) → Leads rs q w → IsBefore order (length order) w) ⊎ ((w : ℕ) × Leads rs q w × (IsBefore order (length order) w → ⊥))
  leads_split order q = elim (none_or_some (slice_get rs q)) [
    | inl past ↦ inl (λ w l. let e = l.2 in absurd (none-some e.0 (sym past ∙ e.1)))
    | inr (row, at) ↦
        let In : Id → Type 0 = λ id. (w : ℕ) → target rs id ≡ Some w → IsBefore order (length order) w in
        let Out : Id → Type 0 = λ id. (w : ℕ) × (target rs id ≡ Some w) × (IsBefore order (length order) w → ⊥) in
        let each : (id : Id) → In id ⊎ Out id = λ id. elim (none_or_some (target rs id)) [
          | inl gone ↦ inl (λ w there. absurd (none-some w (sym gone ∙ there)))
          | inr (v, there) ↦ elim (before_or_not order v) [
            | inl b ↦ inl (λ w same. let both : Some v ≡ Some w = sym there ∙ same in subst (IsBefore order (length order)) (same_Some v w both) b)
            | inr out ↦ inr (v, there, out)
          ]
        ] in
        elim (each_or_some In Out each row.needs) [
          | inr (k, id, e, (w, there, out)) ↦ inr (w, (k, id, (row, at, e), there), out)
          | inl all ↦ inl (λ w l.
              let e = l.2 in
              let rows : Some e.0 ≡ Some row = sym e.1 ∙ at in
              all l.0 l.1 (ap (λ (r : Row). slice_get r.needs l.0) (sym (same_Some e.0 row rows)) ∙ e.2) w l.3)
        ]
  ]

  complete_or_missing : IsComplete rs ⊎ HasEdgeThat (IsMissing rs) rs
  complete_or_missing =
      let Known : Id → Type 0 = λ id. IsSome (target rs id) in
      let Gone : Id → Type 0 = λ id. target rs id ≡ None in
      let each : (id : Id) → Known id ⊎ Gone id = λ id. elim (none_or_some (target rs id)) [ inl gone ↦ inr gone | inr (w, there) ↦ inl (known (target rs id) w there) ] in
      let All : Row → Type 0 = λ row. (k : ℕ) (id : Id) → slice_get row.needs k ≡ Some id → Known id in
      let Lacks : Row → Type 0 = λ row. (k : ℕ) × (id : Id) × (slice_get row.needs k ≡ Some id) × Gone id in
      elim (each_or_some All Lacks (λ row. each_or_some Known Gone each row.needs) rs) [
        | inl all ↦ inl (λ i k id e. all i e.0 e.1 k id e.2)
        | inr (i, row, at, (k, id, there, gone)) ↦ inr (i, k, id, (row, at, there), gone)
      ]

  cyclic_edge : (p : ℕ) → ReachesCycle (Leads rs) p → HasEdgeThat (IsCyclic rs) rs
  cyclic_edge p r =
      let e = cycle_edge (Leads rs) p r in
      let l = e.2 in
      (e.0, l.0, l.1, l.2, (e.3, (e.1, l.3, e.4)))

  pub accepted_or_refused : AreAccepted rs ⊎ AreRefused rs
  accepted_or_refused = elim complete_or_missing [
    | inr gone ↦ inr (inl gone)
    | inl complete ↦ elim (sorted_or_cycle (Leads rs) (length rs) (λ a b l. place_below rs l.1.name.now b l.3) leads_split) [
      | inl (places, sorted, least) ↦ inl (places, record { complete = complete; sorted = sorted; least = least })
      | inr (p, r) ↦ inr (inr (complete, cyclic_edge p r))
    ]
  ]

  pub never_both : AreAccepted rs → AreRefused rs → ⊥
  never_both a (inl (i, k, id, e, gone)) = not_missing (target rs id) ((a.1).complete i k id e) gone
  never_both a (inr (complete, (i, k, id, e, cyclic))) = no_cycle (Leads rs) (length rs) a.0 ((a.1).sorted) i (slice_get_within rs i e.0 e.1) cyclic.0
