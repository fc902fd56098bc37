-- The edges of a graph turned round: for each place, whose edges lead to it.
use Rattle.std.specs.Prelude.{◌≡◌, ℕ, ◌+◌, ◌<◌, ◌≤◌, List, cond, length, nat_eq, slice_index, sum_by}
use Rattle.wit_order.specs.Cut.{between}
use Rattle.wit_graph.specs.Graph.{Graph}
use Rattle.wit_order.specs.Heap.{times, row_at}

-- how many edges lead to w
abbrev pub edges_to : ℕ → Graph → ℕ
edges_to w g = sum_by (λ row. times w row) g

-- the row of w has q as often as q has an edge to w
pub record IsTurned (g users : Graph) : Type 0 where
  pub long : length users ≡ length g
  pub noted : (w q : ℕ) → times q (row_at users w) ≡ times w (row_at g q)

-- runs that begin at these places, each filled from its end down to its prefix: that of w with so many places, where q is as often as seen says
pub record IsFilling (starts : List ℕ) (put : ℕ → ℕ) (seen : ℕ → ℕ → ℕ) (users prefixes : List ℕ) : Type 0 where
  pub long : length prefixes ≡ length starts
  pub prefix : (w : ℕ) → w + 1 < length starts → slice_index prefixes (w + 1) + put w ≡ slice_index starts (w + 1)
  pub room : (w : ℕ) → w + 1 < length starts → slice_index starts w + put w ≤ slice_index starts (w + 1)
  pub within : (i : ℕ) → i < length starts → slice_index starts i ≤ length users
  pub noted : (w : ℕ) → w + 1 < length starts → (q : ℕ) → times q (between (slice_index prefixes (w + 1)) (slice_index starts (w + 1)) users) ≡ seen w q

-- the runs have room for a row of edges
abbrev pub HasRoom : List ℕ → (ℕ → ℕ) → List ℕ → Type 0
HasRoom starts put row = (w : ℕ) → w + 1 < length starts → slice_index starts w + (put w + times w row) ≤ slice_index starts (w + 1)

-- p is put before what the run of each place of its row has
abbrev pub FillsNext : ℕ → List ℕ → (old_users old_prefixes users prefixes : List ℕ) → Type 0
FillsNext p row old_users old_prefixes users prefixes = (starts : List ℕ) (put : ℕ → ℕ) (seen : ℕ → ℕ → ℕ) → IsFilling starts put seen old_users old_prefixes → HasRoom starts put row
    → IsFilling starts (λ w. put w + times w row) (λ w q. seen w q + cond (nat_eq p q) (times w row) 0) users prefixes
