-- Which tables have an order, and which have the same one.
use Rattle.std.specs.Prelude.{◌≡◌, ◌⊎◌, ℕ, List, map}
use Rattle.wit_type_tree.specs.declared.leaves.Id.{Id}
use Rattle.wit_graph.specs.Table.{Row, IsEdge, IsMissing, IsCyclic, IsComplete, IsOrder}

-- what the rows of rs need, the same rows of ss need too
abbrev pub NeedsAll : List Row → List Row → Type 0
NeedsAll ss rs = (i k : ℕ) (id : Id) → IsEdge rs i k id → (l : ℕ) × (other : Id) × IsEdge ss i l other × (other.name.now ≡ id.name.now)

-- the same names in the same order, each with the same set of needed names
pub record HaveSameEdges (rs ss : List Row) : Type 0 where
  pub names : map (λ row. row.name) rs ≡ map (λ row. row.name) ss
  pub onward : NeedsAll ss rs
  pub back : NeedsAll rs ss

-- some edge that P holds of
abbrev pub HasEdgeThat : (ℕ → Id → Type 0) → List Row → Type 0
HasEdgeThat P rs = (i : ℕ) × (k : ℕ) × (id : Id) × IsEdge rs i k id × P i id

-- the rows have a least dependency-first order
abbrev pub AreAccepted : List Row → Type 0
AreAccepted rs = (places : List ℕ) × IsOrder rs places

-- a needed name is missing; or none is, and an edge has two ends that reach a cycle
abbrev pub AreRefused : List Row → Type 0
AreRefused rs = HasEdgeThat (IsMissing rs) rs ⊎ (IsComplete rs × HasEdgeThat (IsCyclic rs) rs)

-- accepted in one order, or refused, and never both
pub record AreDecided (rs : List Row) : Type 0 where
  pub either : AreAccepted rs ⊎ AreRefused rs
  pub never_both : AreAccepted rs → AreRefused rs → ⊥
  pub one : (places others : List ℕ) → IsOrder rs places → IsOrder rs others → places ≡ others

-- both accepted or both refused, and in the same order
pub record AreOrderedAlike (rs ss : List Row) : Type 0 where
  pub alike : (AreAccepted rs × AreAccepted ss) ⊎ (AreRefused rs × AreRefused ss)
  pub same : (places others : List ℕ) → IsOrder rs places → IsOrder ss others → places ≡ others

-- each table has one answer
abbrev pub OneAnswerLaw : Type 0
OneAnswerLaw = (rs : List Row) → AreDecided rs

-- how often and in which order a row writes the names that it needs changes nothing
abbrev pub SameEdgesLaw : Type 0
SameEdgesLaw = (rs ss : List Row) → HaveSameEdges rs ss → AreOrderedAlike rs ss
