-- Tables that are alike, and what comes of ordering them.
use Rattle.std.proofs.Common.{◌≡◌, ℕ, List, [], ◌∷◌, Option, Some, None, inl, inr, refl, ap, sym, ◌∙◌, subst}
use Rattle.wit_walk.proofs.Common.{AllZip, AtCycle, AtMissing, Fault, HaveSameEdges, Id, InOrder, IsComplete, IsCyclic, IsEdge, IsMissing, IsOutcome, Leads, NeedsAll, Outcome, ReachesCycle, Row, complete_back, leads_onward, one_answer, order_fault, order_of, outcome_one, place_of, same_edges, same_place, slice_get, target}
use Rattle.wit_graph.specs.Edges.{IsFirstEdge}
use Rattle.wit_graph.proofs.Outcome.{cycle_to}
use Rattle.wit_alike.proofs.Lists.{Both, zip_at, zip_same}
use Rattle.wit_alike.proofs.Leaves.{SameId, same_text}

abbrev pub SameRow : Row → Row → Type 0
SameRow r s = (r.name ≡ s.name) × AllZip SameId r.needs s.needs

abbrev pub SameTable : List Row → List Row → Type 0
SameTable rs ss = AllZip SameRow rs ss

abbrev pub SameOutcome : Outcome → Outcome → Type 0
SameOutcome (InOrder p) (InOrder q) = p ≡ q
SameOutcome (AtMissing a) (AtMissing b) = SameId a b
SameOutcome (AtCycle a) (AtCycle b) = SameId a b
SameOutcome a b = ⊥

pub turned : {A : Type 0} (R : A → A → Type 0) → ((x y : A) → R x y → R y x) → (xs ys : List A) → AllZip R xs ys → AllZip R ys xs
turned R back [] [] h = tt
turned R back [] (y ∷ ys) h = absurd h
turned R back (x ∷ xs) [] h = absurd h
turned R back (x ∷ xs) (y ∷ ys) h = (back x y h.0, turned R back xs ys h.1)

pub table_back : (rs ss : List Row) → SameTable rs ss → SameTable ss rs
table_back rs ss h = turned SameRow (λ r s same. (sym same.0, turned SameId (λ a b one. sym one) r.needs s.needs same.1)) rs ss h

-- what is there in the one is there in the other
there : {A : Type 0} (R : A → A → Type 0) (o p : Option A) (x : A) → Both R o p → o ≡ Some x → (y : A) × (p ≡ Some y) × R x y
there R None p x h e = absurd (let f : ⊥ = cc in f)
there R (Some z) None x h e = absurd h
there R (Some z) (Some y) x h e = (let same : z ≡ x = cc in (y, refl, subst (λ w. R w y) same h))

-- an edge of the one is an edge of the other
edge_to : (rs ss : List Row) → SameTable rs ss → (i k : ℕ) (id : Id) → IsEdge rs i k id → (other : Id) × IsEdge ss i k other × SameId id other
edge_to rs ss h i k id e =
    let row = there SameRow (slice_get rs i) (slice_get ss i) e.0 (zip_at SameRow rs ss i h) e.1 in
    let need = there SameId (slice_get e.0.needs k) (slice_get row.0.needs k) id (zip_at SameId e.0.needs row.0.needs k row.2.1) e.2 in
    (need.0, (row.0, row.1, need.1), need.2)

needs_all : (rs ss : List Row) → SameTable rs ss → NeedsAll ss rs
needs_all rs ss h i k id e = (let it = edge_to rs ss h i k id e in (k, it.0, it.1, sym (same_text id it.0 it.2)))

pub table_edges : (rs ss : List Row) → SameTable rs ss → HaveSameEdges rs ss
table_edges rs ss h = record {
  names = zip_same SameRow (λ (r : Row). r.name) (λ (r : Row). r.name) (λ r s same. same.0) rs ss h;
  onward = needs_all rs ss h;
  back = needs_all ss rs (table_back rs ss h);
}

module _ (rs ss : List Row) (h : SameTable rs ss) where
  same_target : (a b : Id) → SameId a b → target rs a ≡ target ss b
  same_target a b same = same_place rs ss (table_edges rs ss h).names a.name.now ∙ ap (place_of ss) (same_text a b same)

  -- the first edge of which something holds
  first_to : (P Q : ℕ → Id → Type 0) → ((i : ℕ) (a b : Id) → SameId a b → P i a → Q i b) → ((i : ℕ) (a b : Id) → SameId a b → Q i b → P i a) → (i k : ℕ) (id : Id) → IsFirstEdge (IsEdge rs) P i k id → (other : Id) × IsFirstEdge (IsEdge ss) Q i k other × SameId id other
  first_to P Q onto back i k id first =
      let it = edge_to rs ss h i k id first.is in (
        it.0,
        record {
          is = it.1;
          holds = onto i id it.0 it.2 first.holds;
          earlier = λ j l y edge before passes.
              let other = edge_to ss rs (table_back rs ss h) j l y edge in
              first.earlier j l other.0 other.1 before (back j other.0 y (sym other.2) passes);
        },
        it.2,
      )

  missing_to : (i : ℕ) (a b : Id) → SameId a b → IsMissing rs i a → IsMissing ss i b
  missing_to i a b same gone = sym (same_target a b same) ∙ gone

  missing_back : (i : ℕ) (a b : Id) → SameId a b → IsMissing ss i b → IsMissing rs i a
  missing_back i a b same gone = same_target a b same ∙ gone

  reaches_to : (i : ℕ) → ReachesCycle (Leads rs) i → ReachesCycle (Leads ss) i
  reaches_to = cycle_to (Leads rs) (Leads ss) (leads_onward rs ss (table_edges rs ss h).names (table_edges rs ss h).onward)

  reaches_back : (i : ℕ) → ReachesCycle (Leads ss) i → ReachesCycle (Leads rs) i
  reaches_back = cycle_to (Leads ss) (Leads rs) (leads_onward ss rs (sym (table_edges rs ss h).names) (table_edges rs ss h).back)

  cyclic_to : (i : ℕ) (a b : Id) → SameId a b → IsCyclic rs i a → IsCyclic ss i b
  cyclic_to i a b same (from, (w, at, to)) = (reaches_to i from, (w, sym (same_target a b same) ∙ at, reaches_to w to))

  cyclic_back : (i : ℕ) (a b : Id) → SameId a b → IsCyclic ss i b → IsCyclic rs i a
  cyclic_back i a b same (from, (w, at, to)) = (reaches_back i from, (w, same_target a b same ∙ at, reaches_back w to))

  complete_to : IsComplete rs → IsComplete ss
  complete_to complete = complete_back ss rs (sym (table_edges rs ss h).names) (table_edges rs ss h).back complete

  -- an outcome of the one is alike an outcome of the other
  outcome_to : (o : Outcome) → IsOutcome rs o → (p : Outcome) × IsOutcome ss p × SameOutcome o p
  outcome_to (InOrder order) is = elim ((same_edges rs ss (table_edges rs ss h)).alike) [
    | inl (a, b) ↦ (InOrder b.0, b.1, (same_edges rs ss (table_edges rs ss h)).same order b.0 is b.1)
    | inr (r, s) ↦ absurd ((one_answer rs).never_both (order, is) r)
  ]
  outcome_to (AtMissing id) is =
      let it = first_to (IsMissing rs) (IsMissing ss) missing_to missing_back is.0 is.1 id is.2 in
      (AtMissing it.0, (is.0, is.1, it.1), it.2)
  outcome_to (AtCycle id) is =
      let it = first_to (IsCyclic rs) (IsCyclic ss) cyclic_to cyclic_back is.1 is.2 id is.3 in
      (AtCycle it.0, (complete_to is.0, is.1, is.2, it.1), it.2)

  pub same_outcome : (o p : Outcome) → IsOutcome rs o → IsOutcome ss p → SameOutcome o p
  same_outcome o p x y = (let it = outcome_to o x in subst (SameOutcome o) (outcome_one ss it.0 p it.1 y) it.2)

pub same_order_of : (o p : Outcome) → SameOutcome o p → order_of o ≡ order_of p
same_order_of (InOrder p) (InOrder q) h = h
same_order_of (AtMissing a) (AtMissing b) h = refl
same_order_of (AtCycle a) (AtCycle b) h = refl
same_order_of o p h = absurd h

pub same_order_fault : (lost round : Id → Fault) → ((a b : Id) → SameId a b → lost a ≡ lost b) → ((a b : Id) → SameId a b → round a ≡ round b) → (o p : Outcome) → SameOutcome o p → order_fault lost round o ≡ order_fault lost round p
same_order_fault lost round one other (InOrder p) (InOrder q) h = refl
same_order_fault lost round one other (AtMissing a) (AtMissing b) h = ap Some (one a b h)
same_order_fault lost round one other (AtCycle a) (AtCycle b) h = ap Some (other a b h)
same_order_fault lost round one other o p h = absurd h
