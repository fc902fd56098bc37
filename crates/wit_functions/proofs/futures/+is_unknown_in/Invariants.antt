use Rattle.std.proofs.Common.{◌≡◌, ◌≤◌, ℕ, suc, false, take}
use Rattle.std.specs.List.{list_any}
use Rattle.wit_functions.specs.Futures.{has_unknown}
use Rattle.wit_types.specs.InnerTypes.{rank, slots}
use Rattle.wit_functions.proofs.futures.+is_unknown_in.Given as goal

abbrev pub decreases-is_unknown_in : goal.decreases-is_unknown_in
decreases-is_unknown_in l = rank l.in_slot

abbrev pub invariant-loop-place : goal.invariant-loop-place
invariant-loop-place l = (n : ℕ) → rank l.fn.in_slot ≤ suc n → list_any (has_unknown l.types n) (take l.place (slots l.kind)) ≡ false
