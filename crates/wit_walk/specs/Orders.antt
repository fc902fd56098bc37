-- What comes of ordering a table: an order, or the name at which there is none.
use Rattle.std.specs.Prelude.{ℕ, List, [], Option, None, Some}
use Rattle.wit_type_tree.specs.declared.leaves.Id.{Id}
use Rattle.wit_graph.specs.Edges.{IsFirstEdge}
use Rattle.wit_graph.specs.Table.{Row, IsComplete, IsCyclic, IsEdge, IsMissing, IsOrder}
use Rattle.wit_syntax.specs.Fault.{Fault}

pub data Outcome : Type 0 where
  InOrder : (order : List ℕ) → Outcome
  AtMissing : (id : Id) → Outcome
  AtCycle : (id : Id) → Outcome

-- the least order; or the first missing name; or, where none is missing, the first whose edge has two ends that reach a cycle
abbrev pub IsOutcome : List Row → Outcome → Type 0
IsOutcome rs (InOrder order) = IsOrder rs order
IsOutcome rs (AtMissing id) = (place index : ℕ) × IsFirstEdge (IsEdge rs) (IsMissing rs) place index id
IsOutcome rs (AtCycle id) = IsComplete rs × (place index : ℕ) × IsFirstEdge (IsEdge rs) (IsCyclic rs) place index id

abbrev pub order_of : Outcome → List ℕ
order_of (InOrder order) = order
order_of _ = []

-- the fault of such a name: E7 or E8 among items, E15 or E16 among definitions
abbrev pub order_fault : (lost round : Id → Fault) → Outcome → Option Fault
order_fault lost round (InOrder order) = None
order_fault lost round (AtMissing id) = Some (lost id)
order_fault lost round (AtCycle id) = Some (round id)
