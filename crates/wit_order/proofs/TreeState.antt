-- The state of a sort by counts and a set.
use Rattle.std.proofs.Common.{◌≡◌, ◌≢◌, ℕ, suc, ◌+◌, ◌<◌, ◌≤◌, ◌^◌, List, [], ◌∷◌, ◌++◌, length, get_or, set, arith, sym, ◌∙◌, ap, refl, subst, inl, inr, Bool, true, cond, nat_eq, Vec, Global, All, sum}
use Rattle.std.proofs.lemmas.Bool.{cases_Bool}
use Rattle.std.proofs.lemmas.List.Sums.{sum_by-cons}
use Rattle.wit_graph.specs.Order.{IsBefore}
use Rattle.wit_graph.specs.Graph.{Graph, HasEdge, IsClosed}
use Rattle.wit_order.specs.declared.ready.Ready.{Ready}
use Rattle.wit_order.specs.declared.ready.Steps.{Steps}
use Rattle.wit_order.specs.Heap.{times, zeros, row_at}
use Rattle.wit_order.specs.Released.{times_in, MayRelease, IsReleased}
use Rattle.wit_order.proofs.Counts.{one, one_same, one_other}
use Rattle.wit_graph.proofs.Greedy.{greedy_sorted}
use Rattle.wit_graph.proofs.Sorting.{true_from_before}
use Rattle.wit_order.proofs.HeapState.{HeapState, due, due_off, due_on, users_enough, users_within, heap_pop, done_waits}

due_some : (done : List Bool) (counts : List ℕ) (q : ℕ) → get_or counts q 0 ≢ 0 → due done counts q ≡ 0
due_some done counts q some = elim (cases_Bool (get_or done q true)) [
  | inl on ↦ due_off done counts q on
  | inr off ↦ due_on done counts q off ∙ one_other (get_or counts q 0) 0 some
]

-- the first place of the set is taken, and an edge of each of its users is counted down
module _ {g : Graph} {done : List Bool} {order : List ℕ} (closed : IsClosed g) (old in_use : Ready) (s : HeapState g done order old.counts.items (λ q. times_in q old)) (p : ℕ)
    (counts : in_use.counts ≡ old.counts) (popped : (q : ℕ) → times_in q old ≡ one p q + times_in q in_use) (us : List ℕ) (noted : (q : ℕ) → times q us ≡ times p (row_at g q)) where
  pub may_release : in_use.steps ≡ old.steps → old.steps.entered ≡ zeros old.counts.items → old.steps.closed + sum old.counts.items < 2 ^ 64 → MayRelease us in_use
  may_release steps entered room =
      let enough : (u : ℕ) → times u us ≤ get_or old.counts.items u 0 = users_enough closed s p (λ q. times_in q in_use) us popped noted in
      record {
        within = subst (λ (v : Vec ℕ Global). All (λ u. u < length v.items) us) (sym counts) (users_within closed s p (λ q. times_in q in_use) us popped noted);
        enough = λ u. subst (λ (v : Vec ℕ Global). times u us ≤ get_or v.items u 0) (sym counts) (enough u);
        fresh = λ u h.
            let some : get_or old.counts.items u 0 ≢ 0 = λ z. let e = enough u in absurd (omega (arith, z, h, e)) in
            omega (arith, popped u, s.holds u, due_some done old.counts.items u some);
        entered = ap (λ (x : Steps). x.entered) steps ∙ entered ∙ ap (λ (v : Vec ℕ Global). zeros v.items) (sym counts);
        room = omega (arith, room, ap (λ (x : Steps). x.closed) steps, ap (λ (v : Vec ℕ Global). sum v.items) counts);
      }

  pub tree_pop : (next : Ready) → ((q : ℕ) → 0 < times_in q old → p ≤ q) → IsReleased us in_use next
      → HeapState g (set done p true) (order ++ p ∷ []) next.counts.items (λ q. times_in q next)
  tree_pop next least r =
      let same : length in_use.counts.items ≡ length old.counts.items = ap (λ (v : Vec ℕ Global). length v.items) counts in
      heap_pop closed s p (λ q. times_in q in_use) us popped noted next.counts.items (λ q. times_in q next) least (r.long ∙ same)
      (λ u. r.counts u ∙ ap (λ (v : Vec ℕ Global). get_or v.items u 0) counts) r.places

zeros_all : (xs : List ℕ) → ((k : ℕ) → k < length xs → get_or xs k 0 ≡ 0) → (zeros xs ≡ length xs) × (sum xs ≡ 0)
zeros_all [] h = (refl, refl)
zeros_all (x ∷ xs) h =
    let rest = zeros_all xs (λ k l. h (suc k) (omega (arith, l))) in
    let first : x ≡ 0 = h 0 (omega arith) in
    (omega (arith, rest.0, one_same x 0 first, sum_by-cons (λ y. cond (nat_eq y 0) 1 0) x xs), omega (arith, rest.1, first, sum_by-cons (λ (y : ℕ). y) x xs))

-- where all were placed, nothing is left to be counted down
pub all_closed : {g : Graph} {done : List Bool} {order counts : List ℕ} {ready : ℕ → ℕ} → IsClosed g → HeapState g done order counts ready → length order ≡ length g → (zeros counts ≡ length g) × (sum counts ≡ 0)
all_closed {g} {done} {order} {counts} {ready} closed s long =
    let sorted = greedy_sorted (HasEdge g) (length g) order s.state.greedy long in
    let none : (q : ℕ) → q < length counts → get_or counts q 0 ≡ 0 = λ q h.
    let l : q < length g = omega (arith, h, s.long) in
    let on = true_from_before s.state q l (subst (λ n. IsBefore order n q) (sym long) (sorted.each q l)) in
    s.counted q ∙ done_waits closed s q l on in
    let all = zeros_all counts none in
    (all.0 ∙ s.long, all.1)
