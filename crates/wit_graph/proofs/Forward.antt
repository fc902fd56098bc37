-- From how it came out to what must come out.
use Rattle.std.proofs.Common.{◌≡◌, ℕ, zero, suc, ◌+◌, ◌≤◌, get_or, ◌<◌, arith, sym, ◌∙◌, ap, refl, subst, inl, inr, ◌⊎◌, List, length, Some, slice_get, Result, Ok, Err}
use Rattle.std.specs.Result.{IfOk, IfErr}
use Rattle.std.proofs.lemmas.Bool.{cases_order}
use Rattle.std.proofs.lemmas.Option.{same_Some, slice_get_within}
use Rattle.wit_type_tree.specs.declared.leaves.Id.{Id}
use Rattle.wit_type_tree.specs.declared.error.ParseError.{ParseError}
use Rattle.wit_type_tree.specs.RefusalText.{IsTypeCycle}
use Rattle.wit_graph.specs.Edges.{IsFirstEdge}
use Rattle.wit_graph.specs.Table.{Row, target, IsEdge, IsMissing, IsCyclic, IsComplete, Leads, IsOrder}
use Rattle.wit_graph.specs.Refused.{IsNotFound, IsRefused, FailsAtMissing, FailsAtCycle}
use Rattle.wit_graph.specs.TableFaults.{IsFaultOf, FaultsMissing, FaultsCycle}
use Rattle.wit_graph.specs.declared.table_fault.OrderFault.{OrderFault}
use Rattle.wit_graph.specs.declared.table_fault.OrderFault.TheVariants.{Missing, Cyclic, OutOfMemory}
use Rattle.wit_graph.specs.Order.{Walk, ReachesCycle, IsDependencyFirst}
use Rattle.wit_graph.proofs.Tables.{not_missing}

-- two first edges are one
first_cases : (i k j l : ℕ) → ((i ≡ j) × (k ≡ l)) ⊎ (((i < j) ⊎ ((i ≡ j) × (k < l))) ⊎ ((j < i) ⊎ ((j ≡ i) × (l < k))))
first_cases i k j l = elim (cases_order i j) [
  | inr (inl less) ↦ inr (inl (inl less))
  | inr (inr more) ↦ inr (inr (inl more))
  | inl e ↦ elim (cases_order k l) [
    | inl f ↦ inl (e, f)
    | inr (inl less) ↦ inr (inl (inr (e, less)))
    | inr (inr more) ↦ inr (inr (inr (sym e, more)))
  ]
]

pub same_id : (rs : List Row) (i k : ℕ) (a b : Id) → IsEdge rs i k a → IsEdge rs i k b → a ≡ b
same_id rs i k a b (r, at, there) (r', at', there') =
    let rows : Some r ≡ Some r' = sym at ∙ at' in
    let ends : Some a ≡ Some b = sym there ∙ ap (λ (v : Row). slice_get v.needs k) (same_Some r r' rows) ∙ there' in
    same_Some a b ends

first_place : (rs : List Row) (P : ℕ → Id → Type 0) (i k j l : ℕ) (a b : Id) → IsFirstEdge (IsEdge rs) P i k a → IsFirstEdge (IsEdge rs) P j l b → (i ≡ j) × (k ≡ l)
first_place rs P i k j l a b f g = elim (first_cases i k j l) [
  | inl same ↦ same
  | inr (inl before) ↦ absurd (g.earlier i k a f.is before f.holds)
  | inr (inr after) ↦ absurd (f.earlier j l b g.is after g.holds)
]

pub first_same : (rs : List Row) (P : ℕ → Id → Type 0) (i k j l : ℕ) (a b : Id) → IsFirstEdge (IsEdge rs) P i k a → IsFirstEdge (IsEdge rs) P j l b → a ≡ b
first_same rs P i k j l a b f g =
    let e = first_place rs P i k j l a b f g in
    same_id rs j l a b (subst (λ x. IsEdge rs x l a) e.0 (subst (λ x. IsEdge rs i x a) e.1 f.is)) g.is

pub fails_missing : {T : Type 0} (rs : List Row) (sort : List ℕ) (r : Result T ParseError) → IfOk r (λ _. IsComplete rs) → IfErr r (λ e. IsRefused rs sort e.kind) → FailsAtMissing rs sort r
fails_missing rs sort (Ok x) ok err i k id f = not_missing (target rs id) (ok i k id f.is) f.holds
fails_missing rs sort (Err e) ok (inl out) i k id f = inl out
fails_missing rs sort (Err e) ok (inr (inl r)) i k id f = inr (subst (λ x. IsNotFound x.span x.name.now sort e.kind) (first_same rs (IsMissing rs) r.place r.index i k r.id id r.first f) r.says)
fails_missing rs sort (Err e) ok (inr (inr r)) i k id f = absurd (not_missing (target rs id) (r.complete i k id f.is) f.holds)

-- a walk from a place of the order goes down it
walk_down : (leads : ℕ → ℕ → Type 0) (n : ℕ) (order : List ℕ) → IsDependencyFirst leads n order → (i a b m : ℕ) → i < n → get_or order i 0 ≡ a → Walk leads a b m
    → (j : ℕ) × (j + m ≤ i) × (get_or order j 0 ≡ b)
walk_down leads n order s i a b zero h is w = (i, omega arith, is ∙ w)
walk_down leads n order s i a b (suc m) h is (c, w, l) =
    let d = walk_down leads n order s i a c m h is w in
    let inside : d.0 < n = omega (arith, d.1) in
    let x = s.after d.0 b inside (subst (λ x. leads x b) (sym d.2) l) in
    (x.index, omega (arith, x.below, d.1), x.is)

pub no_cycle : (leads : ℕ → ℕ → Type 0) (n : ℕ) (order : List ℕ) → IsDependencyFirst leads n order → (p : ℕ) → p < n → ReachesCycle leads p → ⊥
no_cycle leads n order s p h r =
    let b = s.each p h in
    let d = walk_down leads n order s b.index p r.place r.before b.below b.is r.there in
    let inside : d.0 < n = omega (arith, d.1, b.below) in
    let e = walk_down leads n order s d.0 r.place r.place (suc r.around) inside d.2 r.again in
    let less : e.0 < d.0 = omega (arith, e.1) in
    s.once e.0 d.0 less inside (e.2 ∙ sym d.2)

pub fails_cycle : {T : Type 0} (rs : List Row) (sort : List ℕ) (r : Result T ParseError) → IfOk r (λ _. (places : List ℕ) × IsOrder rs places) → IfErr r (λ e. IsRefused rs sort e.kind) → FailsAtCycle rs sort r
fails_cycle rs sort (Ok x) (places, o) err complete i k id f = no_cycle (Leads rs) (length rs) places o.sorted i (slice_get_within rs i f.is.0 f.is.1) f.holds.0
fails_cycle rs sort (Err e) ok (inl out) complete i k id f = inl out
fails_cycle rs sort (Err e) ok (inr (inl r)) complete i k id f = absurd (not_missing (target rs r.id) (complete r.place r.index r.id r.first.is) r.first.holds)
fails_cycle rs sort (Err e) ok (inr (inr r)) complete i k id f = inr (subst (λ x. IsTypeCycle x.span x.name.now sort e.kind) (first_same rs (IsCyclic rs) r.place r.index i k r.id id r.first f) r.says)

pub faults_missing : {T : Type 0} (rs : List Row) (r : Result T OrderFault) → IfOk r (λ _. IsComplete rs) → IfErr r (IsFaultOf rs) → FaultsMissing rs r
faults_missing rs (Ok x) ok err i k id f = not_missing (target rs id) (ok i k id f.is) f.holds
faults_missing rs (Err OutOfMemory) ok err i k id f = inl refl
faults_missing rs (Err (Missing p l)) ok err i k id f =
    let e = first_place rs (IsMissing rs) p l i k err.id id err.first f in
    inr (ap (λ x. Missing x l) e.0 ∙ ap (λ y. Missing i y) e.1)
faults_missing rs (Err (Cyclic p l)) ok err i k id f = absurd (not_missing (target rs id) (err.complete i k id f.is) f.holds)

pub faults_cycle : {T : Type 0} (rs : List Row) (r : Result T OrderFault) → IfOk r (λ _. (places : List ℕ) × IsOrder rs places) → IfErr r (IsFaultOf rs) → FaultsCycle rs r
faults_cycle rs (Ok x) (places, o) err complete i k id f = no_cycle (Leads rs) (length rs) places o.sorted i (slice_get_within rs i f.is.0 f.is.1) f.holds.0
faults_cycle rs (Err OutOfMemory) ok err complete i k id f = inl refl
faults_cycle rs (Err (Missing p l)) ok err complete i k id f = absurd (not_missing (target rs err.id) (complete p l err.id err.first.is) err.first.holds)
faults_cycle rs (Err (Cyclic p l)) ok err complete i k id f =
    let e = first_place rs (IsCyclic rs) p l i k err.id id err.first f in
    inr (ap (λ x. Cyclic x l) e.0 ∙ ap (λ y. Cyclic i y) e.1)
