-- Why a table has no order, by the places of the edge that forbids one.
use Rattle.std.specs.Prelude.{Result, MatchResult, ◌≡◌, ℕ, ◌⊎◌, List, ⊤}
use Rattle.wit_type_tree.specs.declared.leaves.Id.{Id}
use Rattle.wit_graph.specs.declared.table_fault.OrderFault.{OrderFault}
use Rattle.wit_graph.specs.declared.table_fault.OrderFault.TheVariants.{Missing, Cyclic, OutOfMemory}
use Rattle.wit_graph.specs.Edges.{IsFirstEdge}
use Rattle.wit_graph.specs.Table.{Row, IsEdge, IsMissing, IsCyclic, IsComplete}

-- the first edge to a name that is missing
pub record IsFirstMissing (rs : List Row) (place index : ℕ) : Type 0 where
  pub id : Id
  pub first : IsFirstEdge (IsEdge rs) (IsMissing rs) place index id

-- none is missing, and the first edge both of whose ends reach a cycle
pub record IsFirstCyclic (rs : List Row) (place index : ℕ) : Type 0 where
  pub complete : IsComplete rs
  pub id : Id
  pub first : IsFirstEdge (IsEdge rs) (IsCyclic rs) place index id

-- what the fault says of the rows is so
abbrev pub IsFaultOf : List Row → OrderFault → Type 0
IsFaultOf rs (Missing place index) = IsFirstMissing rs place index
IsFaultOf rs (Cyclic place index) = IsFirstCyclic rs place index
IsFaultOf rs OutOfMemory = ⊤

-- it failed, because an allocation failed or by this fault
abbrev pub FailsWith : {T : Type 0} → OrderFault → Result T OrderFault → Type 0
FailsWith fault r = MatchResult r (λ _. ⊥) (λ f. (f ≡ OutOfMemory) ⊎ (f ≡ fault))

-- where a name is missing, the first edge to such a name is the fault
abbrev pub FaultsMissing : {T : Type 0} → List Row → Result T OrderFault → Type 0
FaultsMissing rs r = (i k : ℕ) (id : Id) → IsFirstEdge (IsEdge rs) (IsMissing rs) i k id → FailsWith (Missing i k) r

-- where none is, and an edge has two ends that reach a cycle, the first such edge is the fault
abbrev pub FaultsCycle : {T : Type 0} → List Row → Result T OrderFault → Type 0
FaultsCycle rs r = IsComplete rs → (i k : ℕ) (id : Id) → IsFirstEdge (IsEdge rs) (IsCyclic rs) i k id → FailsWith (Cyclic i k) r
