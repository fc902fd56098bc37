-- Edges of places counted down, and the places that then wait for none.
use Rattle.std.specs.Prelude.{◌≡◌, ℕ, ◌+◌, ◌<◌, ◌≤◌, ◌^◌, ⊤, List, length, All, cond, nat_eq, nat_lt, slice_index, sum}
use Rattle.wit_graph.specs.Graph.{Graph, edge_count}
use Rattle.wit_order.specs.Heap.{times, zeros, came_free}
use Rattle.wit_order.specs.declared.ready.Ready.{Ready}
use Rattle.wit_order.specs.declared.ready.Steps.{Steps}
use Rattle.wit_graph.specs.declared.sorted.Sorted.{Sorted}
use Rattle.wit_graph.specs.declared.sorted.Sorted.TheVariants.{Order, Stuck}

-- how often q is among the places that wait for none: those passed, and of those from next on each whose count is 0
abbrev pub times_in : ℕ → Ready → ℕ
times_in q r = times q r.passed.keys + cond (nat_lt q r.next) 0 (cond (nat_lt q (length r.counts.items)) (cond (nat_eq (slice_index r.counts.items q) 0) 1 0) 0)

-- an edge of each of the users may be counted down
pub record MayRelease (us : List ℕ) (r : Ready) : Type 0 where
  pub within : All (λ u. u < length r.counts.items) us
  pub enough : (u : ℕ) → times u us ≤ slice_index r.counts.items u
  pub fresh : (u : ℕ) → 0 < times u us → times_in u r ≡ 0
  pub entered : r.steps.entered ≡ zeros r.counts.items
  pub room : r.steps.closed + sum r.counts.items < 2 ^ 64

-- an edge of each of the users was counted down, and who came to wait for none came in
pub record IsReleased (us : List ℕ) (old new : Ready) : Type 0 where
  pub long : length new.counts.items ≡ length old.counts.items
  pub counts : (u : ℕ) → slice_index new.counts.items u + times u us ≡ slice_index old.counts.items u
  pub places : (q : ℕ) → times_in q new ≡ times_in q old + came_free us new.counts.items q
  pub entered : new.steps.entered ≡ zeros new.counts.items
  pub closed : new.steps.closed + sum new.counts.items ≡ old.steps.closed + sum old.counts.items

-- where all were placed, each was put in once and each edge counted down once
abbrev pub AreStepsOf : Graph → Sorted → Steps → Type 0
AreStepsOf g (Order order) steps = (steps.entered ≡ length g) × (steps.closed ≡ edge_count g)
AreStepsOf g (Stuck free) steps = ⊤
