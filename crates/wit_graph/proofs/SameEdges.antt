-- Rows with the same edges have the same walks, and one least order.
use Rattle.std.proofs.Common.{◌≡◌, ℕ, zero, suc, ◌+◌, ◌<◌, ◌≤◌, Bool, not, cond, List, [], ◌∷◌, ◌++◌, length, take, get_or, map, arith, sym, ◌∙◌, ap, refl, subst, inl, inr, Some, None, IsSome}
use Rattle.std.specs.Prelude.{nat_lt}
use Rattle.std.specs.List.{prefix_len, position_or_len}
use Rattle.std.specs.Str.{bytes_eq}
use Rattle.std.proofs.lemmas.List.{take_more, take_all, length-map}
use Rattle.wit_graph.specs.Order.{IsDependencyFirst, IsLeast}
use Rattle.wit_graph.specs.Table.{Row, place_of, IsMissing, IsCyclic, IsComplete, Leads, IsOrder}
use Rattle.wit_graph.specs.Laws.{NeedsAll, HaveSameEdges, HasEdgeThat, AreRefused, OneAnswerLaw, SameEdgesLaw}
use Rattle.wit_graph.proofs.Outcome.{cycle_to, order_from, least_to}
use Rattle.wit_graph.proofs.Decided.{accepted_or_refused, never_both}

-- two least orders are one
same_prefix : (leads : ℕ → ℕ → Type 0) (n : ℕ) (p q : List ℕ) → IsDependencyFirst leads n p → IsLeast leads n p → IsDependencyFirst leads n q → IsLeast leads n q
    → (i : ℕ) → i ≤ n → take i p ≡ take i q
same_prefix leads n p q sp lp sq lq zero h = refl
same_prefix leads n p q sp lp sq lq (suc i) h =
    let below : i < n = omega (arith, h) in
    let prefix : take i p ≡ take i q = same_prefix leads n p q sp lp sq lq i (omega (arith, h)) in
    let there : get_or p i 0 ≤ get_or q i 0 = lp q sq i below (sym prefix) in
    let back : get_or q i 0 ≤ get_or p i 0 = lq p sp i below prefix in
    let same : get_or p i 0 ≡ get_or q i 0 = omega (arith, there, back) in
    let in_p : i < length p = subst (λ m. i < m) (sym sp.long) below in
    let in_q : i < length q = subst (λ m. i < m) (sym sq.long) below in
    let one_more : i + 1 ≡ suc i = omega arith in
    subst (λ k. take k p ≡ take k q) one_more
    (take_more p i 0 in_p ∙ ap (λ l. l ++ get_or p i 0 ∷ []) prefix ∙ ap (λ x. take i q ++ x ∷ []) same ∙ sym (take_more q i 0 in_q))

pub least_one : (leads : ℕ → ℕ → Type 0) (n : ℕ) (p q : List ℕ) → IsDependencyFirst leads n p → IsLeast leads n p → IsDependencyFirst leads n q → IsLeast leads n q → p ≡ q
least_one leads n p q sp lp sq lq =
    let all : n ≤ n = omega arith in
    let long_p : length p ≤ n = subst (λ m. length p ≤ m) sp.long (omega arith) in
    let long_q : length q ≤ n = subst (λ m. length q ≤ m) sq.long (omega arith) in
    sym (take_all n p long_p) ∙ same_prefix leads n p q sp lp sq lq n all ∙ take_all n q long_q

-- where a test of names first passes
name_prefix : (test : List ℕ → Bool) (rs : List Row) → prefix_len (λ (row : Row). not (test row.name)) rs ≡ prefix_len (λ n. not (test n)) (map (λ (row : Row). row.name) rs)
name_prefix test [] = refl
name_prefix test (row ∷ rs) = ap (λ n. cond (not (test row.name)) (1 + n) 0) (name_prefix test rs)

module _ (rs ss : List Row) (names : map (λ (row : Row). row.name) rs ≡ map (λ (row : Row). row.name) ss) where
  pub same_long : length rs ≡ length ss
  same_long = sym (length-map rs (λ (row : Row). row.name)) ∙ ap length names ∙ length-map ss (λ (row : Row). row.name)

  pub same_place : (name : List ℕ) → place_of rs name ≡ place_of ss name
  same_place name =
      let test = λ (row : Row). bytes_eq name row.name in
      let p : position_or_len test rs ≡ position_or_len test ss =
      name_prefix (bytes_eq name) rs ∙ ap (prefix_len (λ n. not (bytes_eq name n))) names ∙ sym (name_prefix (bytes_eq name) ss) in
      ap (λ n. cond (nat_lt n (length rs)) (Some n) None) p ∙ ap (λ n. cond (nat_lt (position_or_len test ss) n) (Some (position_or_len test ss)) None) same_long

  -- what the edges of rs do, those of ss do
  module _ (onward : NeedsAll ss rs) where
    pub leads_onward : (a b : ℕ) → Leads rs a b → Leads ss a b
    leads_onward a b (k, id, e, p) =
        let x = onward a k id e in
        (x.0, x.1, x.2, ap (place_of ss) x.3 ∙ sym (same_place id.name.now) ∙ p)

    pub complete_back : IsComplete ss → IsComplete rs
    complete_back complete i k id e =
        let x = onward i k id e in
        subst IsSome (ap (place_of ss) x.3 ∙ sym (same_place id.name.now)) (complete i x.0 x.1 x.2)

    pub missing_onward : HasEdgeThat (IsMissing rs) rs → HasEdgeThat (IsMissing ss) ss
    missing_onward (i, k, id, e, gone) =
        let x = onward i k id e in
        (i, x.0, x.1, x.2, ap (place_of ss) x.3 ∙ sym (same_place id.name.now) ∙ gone)

    pub cyclic_onward : HasEdgeThat (IsCyclic rs) rs → HasEdgeThat (IsCyclic ss) ss
    cyclic_onward (i, k, id, e, (from, (b, at, to))) =
        let x = onward i k id e in
        let cycles = cycle_to (Leads rs) (Leads ss) leads_onward in
        (i, x.0, x.1, x.2, (cycles i from, (b, ap (place_of ss) x.3 ∙ sym (same_place id.name.now) ∙ at, cycles b to)))

order_onward : (rs ss : List Row) → HaveSameEdges rs ss → (places : List ℕ) → IsOrder rs places → IsOrder ss places
order_onward rs ss h places o =
    let there = leads_onward rs ss h.names h.onward in
    let back = leads_onward ss rs (sym h.names) h.back in
    let long = same_long rs ss h.names in
    record {
      complete = complete_back ss rs (sym h.names) h.back o.complete;
      sorted = subst (λ n. IsDependencyFirst (Leads ss) n places) long (order_from (Leads ss) (Leads rs) back (length rs) places o.sorted);
      least = subst (λ n. IsLeast (Leads ss) n places) long (least_to (Leads rs) (Leads ss) there (length rs) places o.least);
    }

refused_onward : (rs ss : List Row) → HaveSameEdges rs ss → AreRefused rs → AreRefused ss
refused_onward rs ss h (inl missing) = inl (missing_onward rs ss h.names h.onward missing)
refused_onward rs ss h (inr (complete, cyclic)) = inr (complete_back ss rs (sym h.names) h.back complete, cyclic_onward rs ss h.names h.onward cyclic)

orders_same : (rs ss : List Row) → HaveSameEdges rs ss → (places others : List ℕ) → IsOrder rs places → IsOrder ss others → places ≡ others
orders_same rs ss h places others o o' =
    let onto = order_onward rs ss h places o in
    least_one (Leads ss) (length ss) places others onto.sorted onto.least o'.sorted o'.least

pub one_answer : OneAnswerLaw
one_answer rs = record {
  either = accepted_or_refused rs;
  never_both = never_both rs;
  one = λ places others o o'. least_one (Leads rs) (length rs) places others o.sorted o.least o'.sorted o'.least;
}

pub same_edges : SameEdgesLaw
same_edges rs ss h = record {
  alike = elim (accepted_or_refused rs) [
    | inl a ↦ inl (a, (a.0, order_onward rs ss h a.0 a.1))
    | inr r ↦ inr (r, refused_onward rs ss h r)
  ];
  same = orders_same rs ss h;
}
