-- What the graph's order or its first stuck edge says of the rows.
use Rattle.std.proofs.Common.{◌≡◌, ℕ, zero, suc, ◌<◌, List, length, get_or, sym, ◌∙◌, ap, refl, subst, inl, inr, Bool, false, Some, Vec, Global, [], ◌∷◌, map, drop, arith, sum_by}
use Rattle.std.specs.Str.{bytes_eq}
use Rattle.std.proofs.lemmas.List.{length-map}
use Rattle.std.proofs.lemmas.List.Quantifiers.{position-Some}
use Rattle.std.proofs.lemmas.Bool.{cases_Bool, MatchBool-at_true, MatchBool-at_false}
use Rattle.std.proofs.lemmas.Option.{slice_get_within, get_or_from_slice_get, slice_get-get_or, same_Some}
use Rattle.wit_type_tree.specs.declared.leaves.Id.{Id}
use Rattle.wit_graph.specs.declared.table_fault.OrderFault.TheVariants.{Cyclic}
use Rattle.wit_graph.specs.Edges.{IsFirstEdge}
use Rattle.std.proofs.lemmas.List.Sums.{sum_by-cons}
use Rattle.wit_graph.specs.Graph.{Graph, edge_count, HasEdge, IsClosed, IsGraphEdge, IsStuckEdge, IsSortOf}
use Rattle.wit_graph.specs.Order.{Walk, ReachesCycle, IsDependencyFirst, IsLeast}
use Rattle.wit_graph.specs.Table.{Row, place_of, target, IsEdge, Leads, IsComplete, IsOrder}
use Rattle.wit_graph.specs.PlaceGraph.{IsGraphOf, Cycles}
use Rattle.wit_graph.specs.declared.sorted.Sorted.TheVariants.{Stuck}
use Rattle.wit_graph.proofs.Tables.{matched, known, wants, has}
use Rattle.wit_graph.proofs.Sorting.{edge_from, edge_to}

-- Relations with the same edges have the same walks and orders.

module _ (R S : ℕ → ℕ → Type 0) (to : (a b : ℕ) → R a b → S a b) where
  walk_to : (a b n : ℕ) → Walk R a b n → Walk S a b n
  walk_to a b zero e = e
  walk_to a b (suc n) (c, w, l) = (c, walk_to a c n w, to c b l)

  pub cycle_to : (a : ℕ) → ReachesCycle R a → ReachesCycle S a
  cycle_to a r = record {
    place = r.place;
    before = r.before;
    around = r.around;
    there = walk_to a r.place r.before r.there;
    again = walk_to r.place r.place (suc r.around) r.again;
  }

  pub order_from : (n : ℕ) (order : List ℕ) → IsDependencyFirst S n order → IsDependencyFirst R n order
  order_from n order s = record {
    long = s.long;
    within = s.within;
    each = s.each;
    once = s.once;
    after = λ i p h l. s.after i p h (to (get_or order i 0) p l);
  }

  pub least_to : (n : ℕ) (order : List ℕ) → IsLeast R n order → IsLeast S n order
  least_to n order least other o = least other (order_from n other o)

-- where some place reaches a cycle, an edge has two ends that do
pub cycle_edge : (R : ℕ → ℕ → Type 0) (a : ℕ) → ReachesCycle R a → (c : ℕ) × (b : ℕ) × R c b × ReachesCycle R c × ReachesCycle R b
cycle_edge R a r =
    let p = r.place in
    let c = r.again.0 in (
      c,
      p,
      r.again.2,
      record { place = p; before = 1; around = r.around; there = (c, refl, r.again.2); again = r.again },
      record { place = p; before = 0; around = r.around; there = refl; again = r.again },
    )

pub place_below : (rs : List Row) (name : List ℕ) (w : ℕ) → place_of rs name ≡ Some w → w < length rs
place_below rs name w e = (position-Some (λ (row : Row). bytes_eq name row.name) rs w (record { name = name; needs = [] }) e).0

row_edge : (g : Graph) (i k w : ℕ) → IsGraphEdge g i k w → HasEdge g i w
row_edge g i k w (row, at, there) = (row, at, (k, slice_get_within row k w there, get_or_from_slice_get row k w w there))

module _ (g : Graph) (free : Vec Bool Global) (s : IsSortOf g (Stuck free)) where
  stuck_cycle_at : (p : ℕ) → p < length g → get_or free.items p false ≡ false → ReachesCycle (HasEdge g) p
  stuck_cycle_at p h e = MatchBool-at_false (ReachesCycle (HasEdge g) p → ⊥) (ReachesCycle (HasEdge g) p) e (s.1 p h)

  stuck_from_cycle : (p : ℕ) → p < length g → ReachesCycle (HasEdge g) p → get_or free.items p false ≡ false
  stuck_from_cycle p h r = elim (cases_Bool (get_or free.items p false)) [
    | inl e ↦ absurd (MatchBool-at_true (ReachesCycle (HasEdge g) p → ⊥) (ReachesCycle (HasEdge g) p) e (s.1 p h) r)
    | inr e ↦ e
  ]

  pub some_stuck : IsClosed g → ((i k w : ℕ) → IsGraphEdge g i k w → IsStuckEdge free.items i w → ⊥) → ⊥
  some_stuck closed none =
      let e = cycle_edge (HasEdge g) s.2.0 s.2.2 in
      let l = e.2 in
      let row = l.0 in
      none e.0 l.2.0 e.1 (row, l.1, slice_get-get_or row l.2.0 e.1 l.2.1 ∙ ap Some l.2.2)
      (stuck_from_cycle e.0 (edge_from g e.0 e.1 l) e.3, stuck_from_cycle e.1 (edge_to g e.0 e.1 closed l) e.4)

-- the graph of some rows has as many edges as they have
edges_alike : (rs : List Row) (g : Graph) (vs : List Row) → map has g ≡ map (wants rs) vs → edge_count g ≡ sum_by (λ (row : Row). length row.needs) vs
edges_alike rs [] [] same = refl
edges_alike rs [] (v ∷ vs) same = absurd (omega (arith, ap length same))
edges_alike rs (r ∷ g) [] same = absurd (omega (arith, ap length same))
edges_alike rs (r ∷ g) (v ∷ vs) same =
    let first : has r ≡ wants rs v = ap (λ l. get_or l 0 []) same in
    let rest = edges_alike rs g vs (ap (drop 1) same) in
    let long : length r ≡ length v.needs = sym (length-map r Some) ∙ ap length first ∙ length-map v.needs (target rs) in
    omega (arith, rest, long, sum_by-cons (λ (row : List ℕ). length row) r g, sum_by-cons (λ (row : Row). length row.needs) v vs)

module _ (rs : List Row) (g : Graph) (same : IsGraphOf rs g) where
  pub edges_counted : edge_count g ≡ sum_by (λ (row : Row). length row.needs) rs
  edges_counted = edges_alike rs g rs same

  pub graph_long : length g ≡ length rs
  graph_long = sym (length-map g has) ∙ ap length same ∙ length-map rs (wants rs)

  pub edge_to_graph : (i k : ℕ) (id : Id) → IsEdge rs i k id → (w : ℕ) × IsGraphEdge g i k w × (target rs id ≡ Some w)
  edge_to_graph i k id (ids, at, there) =
      let row = matched has (wants rs) g rs same i ids at in
      let x = matched Some (target rs) row.0 ids.needs row.2 k id there in
      (x.0, (row.0, row.1, x.1), sym x.2)

  pub edge_from_graph : (i k w : ℕ) → IsGraphEdge g i k w → (id : Id) × IsEdge rs i k id × (target rs id ≡ Some w)
  edge_from_graph i k w (row, at, there) =
      let ids = matched (wants rs) has rs g (sym same) i row at in
      let x = matched (target rs) Some ids.0.needs row ids.2 k w there in
      (x.0, (ids.0, ids.1, x.1), x.2)

  pub leads_edge : (a b : ℕ) → Leads rs a b → HasEdge g a b
  leads_edge a b (k, id, e, p) =
      let w = edge_to_graph a k id e in
      let some : Some w.0 ≡ Some b = sym w.2 ∙ p in
      let row = w.1.0 in
      (row, w.1.1, (k, slice_get_within row k w.0 w.1.2, get_or_from_slice_get row k w.0 b w.1.2 ∙ same_Some w.0 b some))

  pub edge_leads : (a b : ℕ) → HasEdge g a b → Leads rs a b
  edge_leads a b (row, at, (k, inside, e)) =
      let w = edge_from_graph a k b (row, at, slice_get-get_or row k b inside ∙ ap Some e) in
      (k, w.0, w.1, w.2)

  pub graph_complete : IsComplete rs
  graph_complete i k id e = let w = edge_to_graph i k id e in known (target rs id) w.0 w.2

  pub graph_closed : IsClosed g
  graph_closed i d h k d' h' =
      let row = get_or g i d in
      let w = get_or row k d' in
      let x = edge_from_graph i k w (row, slice_get-get_or g i d h, slice_get-get_or row k d' h') in
      subst (λ n. w < n) (sym graph_long) (place_below rs x.0.name.now w x.2)

  pub in_order : (places : List ℕ) → IsDependencyFirst (HasEdge g) (length g) places → IsLeast (HasEdge g) (length g) places → IsOrder rs places
  in_order places sorted least = record {
    complete = graph_complete;
    sorted = subst (λ n. IsDependencyFirst (Leads rs) n places) graph_long (order_from (Leads rs) (HasEdge g) leads_edge (length g) places sorted);
    least = subst (λ n. IsLeast (Leads rs) n places) graph_long (least_to (HasEdge g) (Leads rs) edge_leads (length g) places least);
  }

  pub cycle_fault : (free : Vec Bool Global) → IsSortOf g (Stuck free) → (i k w : ℕ) → IsFirstEdge (IsGraphEdge g) (IsStuckEdge free.items) i k w → Cycles rs (Cyclic i k)
  cycle_fault free s i k w f =
      let x = edge_from_graph i k w f.is in
      let hold = f.holds in
      let below : w < length g = edge_to g i w graph_closed (row_edge g i k w f.is) in
      record {
        place = i;
        index = k;
        is = refl;
        first = record {
          complete = graph_complete;
          id = x.0;
          first = record {
            is = x.1;
            holds = (
              cycle_to (HasEdge g) (Leads rs) edge_leads i (stuck_cycle_at g free s i (slice_get_within g i f.is.0 f.is.1) hold.0),
              (w, x.2, cycle_to (HasEdge g) (Leads rs) edge_leads w (stuck_cycle_at g free s w below hold.1)),
            );
            earlier = λ j l y ed before cyc.
                let z = edge_to_graph j l y ed in
                let b = cyc.1 in
                let some : Some b.0 ≡ Some z.0 = sym b.1 ∙ z.2 in
                let same_end : b.0 ≡ z.0 = same_Some b.0 z.0 some in
                let zbelow : z.0 < length g = edge_to g j z.0 graph_closed (row_edge g j l z.0 z.1) in
                f.earlier j l z.0 z.1 before (
                  stuck_from_cycle g free s j (slice_get_within g j z.1.0 z.1.1) (cycle_to (Leads rs) (HasEdge g) leads_edge j cyc.0),
                  stuck_from_cycle g free s z.0 zbelow (subst (λ v. ReachesCycle (HasEdge g) v) same_end (cycle_to (Leads rs) (HasEdge g) leads_edge b.0 b.2)),
                );
          };
        };
      }
