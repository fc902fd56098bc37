-- The refusal of an edge that forbids an order.
use Rattle.std.proofs.Common.{◌≡◌, ◌⊎◌, ℕ, List, Some, inl, inr, ap, ◌∙◌}
use Rattle.wit_syntax.proofs.Common.{Fault, Id, IsAllocationFailure, IsEdge, ParseError, Row, fault_of}
use Rattle.wit_graph.specs.TableFaults.{IsFirstMissing, IsFirstCyclic}
use Rattle.wit_first.specs.OrderFaults.{IsOrderFault}
use Rattle.wit_graph.proofs.Forward.{same_id}

pub missing_edge : (lost round : Id → Fault) (rs : List Row) (i k : ℕ) (id : Id) (e : ParseError) → IsFirstMissing rs i k → IsEdge rs i k id → IsAllocationFailure e ⊎ (fault_of e ≡ lost id) → IsAllocationFailure e ⊎ IsOrderFault lost round rs (Some (fault_of e))
missing_edge lost round rs i k id e f edge says = elim says [
  | inl memory ↦ inl memory
  | inr is ↦ inr (inl (i, k, f, is ∙ ap lost (same_id rs i k id f.id edge f.first.is)))
]

pub cyclic_edge : (lost round : Id → Fault) (rs : List Row) (i k : ℕ) (id : Id) (e : ParseError) → IsFirstCyclic rs i k → IsEdge rs i k id → IsAllocationFailure e ⊎ (fault_of e ≡ round id) → IsAllocationFailure e ⊎ IsOrderFault lost round rs (Some (fault_of e))
cyclic_edge lost round rs i k id e f edge says = elim says [
  | inl memory ↦ inl memory
  | inr is ↦ inr (inr (i, k, f, is ∙ ap round (same_id rs i k id f.id edge f.first.is)))
]
