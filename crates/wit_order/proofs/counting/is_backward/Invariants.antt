use Rattle.std.proofs.Common.{◌≡◌, ℕ, ◌<◌, List, Some, slice_get, All}
use Rattle.wit_order.proofs.counting.is_backward.Given as goal

abbrev pub invariant-loop-p : goal.invariant-loop-p
invariant-loop-p l = (q : ℕ) (row : List ℕ) → q < l.p → slice_get l.graph q ≡ Some row → All (λ w. w < q) row
