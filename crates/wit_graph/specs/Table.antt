-- A table of names, each with the names that it needs, and the order in which each name comes after those.
use Rattle.std.specs.Prelude.{◌≡◌, ℕ, List, length, map, Option, Some, None, IsSome, slice_get, position, Vec}
use Rattle.std.specs.Global.{Global}
use Rattle.std.specs.Str.{bytes_eq}
use denote.Ref.{Bor}
use Rattle.std.specs.Map.{keys_of}
use Rattle.wit_type_tree.specs.declared.leaves.Id.{Id}
use Rattle.wit_graph.specs.Order.{ReachesCycle, IsDependencyFirst, IsLeast}

-- a name, and the names that it needs, as written
pub record Row : Type 0 where
  pub name : List ℕ
  pub needs : List Id

-- an entry of a table: a key, and the names that it needs
abbrev pub Entry : Type 0
Entry = Bor (List ℕ) × Vec Id Global

-- the row of an entry
abbrev pub entry_row : Entry → Row
entry_row entry = record { name = entry.0.now; needs = entry.1.items }

-- the rows of a table's entries, in its order; a row's index is its place
abbrev pub rows : List Entry → List Row
rows entries = map entry_row entries

-- the place of the first row of this name
abbrev pub place_of : List Row → List ℕ → Option ℕ
place_of rs name = position (λ row. bytes_eq name row.name) rs

-- the place of what the id names
abbrev pub target : List Row → Id → Option ℕ
target rs id = place_of rs id.name.now

-- these ids are what the name at the place needs
abbrev pub AreNeedsAt : List Row → ℕ → List Id → Type 0
AreNeedsAt rs place ids = (row : Row) × (slice_get rs place ≡ Some row) × (row.needs ≡ ids)

-- id is the edge k of the place i
abbrev pub IsEdge : List Row → ℕ → ℕ → Id → Type 0
IsEdge rs i k id = (row : Row) × (slice_get rs i ≡ Some row) × (slice_get row.needs k ≡ Some id)

-- an edge leads from the place a to the place b
abbrev pub Leads : List Row → ℕ → ℕ → Type 0
Leads rs a b = (k : ℕ) × (id : Id) × IsEdge rs a k id × (target rs id ≡ Some b)

-- no row has the name
abbrev pub IsMissing : List Row → ℕ → Id → Type 0
IsMissing rs i id = target rs id ≡ None

-- both ends of an edge of i reach a cycle
abbrev pub IsCyclic : List Row → ℕ → Id → Type 0
IsCyclic rs i id = ReachesCycle (Leads rs) i × ((b : ℕ) × (target rs id ≡ Some b) × ReachesCycle (Leads rs) b)

-- each edge leads to a place
abbrev pub IsComplete : List Row → Type 0
IsComplete rs = (i k : ℕ) (id : Id) → IsEdge rs i k id → IsSome (target rs id)

-- the least dependency-first order of the places
pub record IsOrder (rs : List Row) (places : List ℕ) : Type 0 where
  pub complete : IsComplete rs
  pub sorted : IsDependencyFirst (Leads rs) (length rs) places
  pub least : IsLeast (Leads rs) (length rs) places

-- the table's own keys at these places
abbrev pub AreKeysAt : List Entry → List ℕ → List (Bor (List ℕ)) → Type 0
AreKeysAt entries places names = map Some names ≡ map (slice_get (keys_of entries)) places

-- the table's own keys, in the least dependency-first order
pub record IsOrdered (entries : List Entry) (names : List (Bor (List ℕ))) : Type 0 where
  pub places : List ℕ
  pub order : IsOrder (rows entries) places
  pub own : AreKeysAt entries places names
