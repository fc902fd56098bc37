use Rattle.std.proofs.Common.{◌≡◌, ◌≤◌, ◌++◌, ℕ, suc, take}
use Rattle.std.specs.List.{flat_map}
use Rattle.wit_functions.specs.Futures.{futures}
use Rattle.wit_types.specs.InnerTypes.{rank, slots}
use Rattle.wit_functions.proofs.futures.+add_futures.Given as goal

abbrev pub decreases-add_futures : goal.decreases-add_futures
decreases-add_futures l = rank l.in_slot

abbrev pub invariant-loop-place : goal.invariant-loop-place
invariant-loop-place l = (n : ℕ) → rank l.fn.in_slot ≤ suc n → l.out.items ≡ l.initial.out.items ++ flat_map (futures l.types n) (take l.place (slots l.kind))
