-- The graph of places that the rows of a table make.
use Rattle.std.specs.Prelude.{◌≡◌, ℕ, ◌<◌, ◌++◌, List, Some, None, IsSome, map, slice_get}
use Rattle.wit_type_tree.specs.declared.leaves.Id.{Id}
use Rattle.wit_graph.specs.declared.table_fault.OrderFault.{OrderFault}
use Rattle.wit_graph.specs.declared.table_fault.OrderFault.TheVariants.{Missing, Cyclic}
use Rattle.wit_graph.specs.TableFaults.{IsFirstMissing, IsFirstCyclic}
use Rattle.wit_graph.specs.Graph.{Graph}
use Rattle.wit_graph.specs.Table.{Row, target}

-- the row of a place holds the places of what its edges name
abbrev pub Resolves : List Row → List Id → List ℕ → Type 0
Resolves rs ids row = map Some row ≡ map (target rs) ids

-- the row of the ids was put after what was there
abbrev pub AddsRow : List Row → List Id → List ℕ → List ℕ → Type 0
AddsRow rs ids old new = (row : List ℕ) × (new ≡ old ++ row) × Resolves rs ids row

-- the first of the ids of a place that is missing is the fault
pub record MissesFirst (rs : List Row) (ids : List Id) (place : ℕ) (fault : OrderFault) : Type 0 where
  pub index : ℕ
  pub id : Id
  pub at : slice_get ids index ≡ Some id
  pub missing : target rs id ≡ None
  pub earlier : (k : ℕ) (other : Id) → k < index → slice_get ids k ≡ Some other → IsSome (target rs other)
  pub is : fault ≡ Missing place index

-- the first edge to a name that is missing is the fault
pub record Misses (rs : List Row) (fault : OrderFault) : Type 0 where
  pub place : ℕ
  pub index : ℕ
  pub is : fault ≡ Missing place index
  pub first : IsFirstMissing rs place index

-- none is missing, and the first edge both of whose ends reach a cycle is the fault
pub record Cycles (rs : List Row) (fault : OrderFault) : Type 0 where
  pub place : ℕ
  pub index : ℕ
  pub is : fault ≡ Cyclic place index
  pub first : IsFirstCyclic rs place index

-- the graph of the rows
abbrev pub IsGraphOf : List Row → Graph → Type 0
IsGraphOf rs g = map (map Some) g ≡ map (λ (row : Row). map (target rs) row.needs) rs
