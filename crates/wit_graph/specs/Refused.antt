-- The refusal that names the edge for which a table has no order.
use Rattle.std.specs.Prelude.{Result, MatchResult, ◌≡◌, ℕ, ◌⊎◌, List, None, string_bytes}
use Rattle.wit_type_tree.specs.declared.leaves.Id.{Id}
use Rattle.wit_values.specs.declared.span.Span.{Span}
use Rattle.wit_type_tree.specs.declared.error.ParseError.{ParseError}
use Rattle.wit_type_tree.specs.declared.error.ParseErrorKind.{ParseErrorKind}
use Rattle.wit_type_tree.specs.declared.error.ParseErrorKind.TheVariants.{Syntax, ItemNotFound, TypeCycle, OutOfMemory}
use Rattle.wit_type_tree.specs.RefusalText.{IsTypeCycle}
use Rattle.wit_graph.specs.Edges.{IsFirstEdge}
use Rattle.wit_graph.specs.Table.{Row, IsEdge, IsMissing, IsCyclic, IsComplete}

-- nothing of this sort has the name written at the span, and no hint is given
abbrev pub IsNotFound : Span → List ℕ → List ℕ → ParseErrorKind → Type 0
IsNotFound at name sort (ItemNotFound s n k h) = (s ≡ at) × (string_bytes n ≡ name) × (string_bytes k ≡ sort) × (h ≡ None)
IsNotFound at name sort (Syntax s m) = ⊥
IsNotFound at name sort (TypeCycle s n k) = ⊥
IsNotFound at name sort OutOfMemory = ⊥

-- the first edge to a name that is missing is refused
pub record RefusesMissing (rs : List Row) (sort : List ℕ) (kind : ParseErrorKind) : Type 0 where
  pub place : ℕ
  pub index : ℕ
  pub id : Id
  pub first : IsFirstEdge (IsEdge rs) (IsMissing rs) place index id
  pub says : IsNotFound id.span id.name.now sort kind

-- none is missing, and the first edge both of whose ends reach a cycle is refused
pub record RefusesCycle (rs : List Row) (sort : List ℕ) (kind : ParseErrorKind) : Type 0 where
  pub complete : IsComplete rs
  pub place : ℕ
  pub index : ℕ
  pub id : Id
  pub first : IsFirstEdge (IsEdge rs) (IsCyclic rs) place index id
  pub says : IsTypeCycle id.span id.name.now sort kind

-- because an allocation failed, for the first missing name, or for the first edge of a cycle
abbrev pub IsRefused : List Row → List ℕ → ParseErrorKind → Type 0
IsRefused rs sort kind = (kind ≡ OutOfMemory) ⊎ (RefusesMissing rs sort kind ⊎ RefusesCycle rs sort kind)

-- it failed, by memory or by an error that P holds of
abbrev pub FailsBy : {T : Type 0} → (ParseErrorKind → Type 0) → Result T ParseError → Type 0
FailsBy P r = MatchResult r (λ _. ⊥) (λ e. (e.kind ≡ OutOfMemory) ⊎ P e.kind)

-- where a name is missing, the first edge to such a name is what is refused
abbrev pub FailsAtMissing : {T : Type 0} → List Row → List ℕ → Result T ParseError → Type 0
FailsAtMissing rs sort r = (i k : ℕ) (id : Id) → IsFirstEdge (IsEdge rs) (IsMissing rs) i k id → FailsBy (IsNotFound id.span id.name.now sort) r

-- where none is, and an edge has two ends that reach a cycle, the first such edge is what is refused
abbrev pub FailsAtCycle : {T : Type 0} → List Row → List ℕ → Result T ParseError → Type 0
FailsAtCycle rs sort r = IsComplete rs → (i k : ℕ) (id : Id) → IsFirstEdge (IsEdge rs) (IsCyclic rs) i k id → FailsBy (IsTypeCycle id.span id.name.now sort) r
