use Rattle.std.proofs.Common.{◌≡◌, ◌<◌, ◌≤◌, ℕ, Option, Some, slice_get}
use Rattle.wit_types.specs.InnerTypes.{rank, slots}
use Rattle.wit_types.specs.declared.types.«Type».{«Type» as Ty}
use Rattle.wit_types.proofs.backward.are_slots_below.Given as goal

abbrev pub invariant-loop-i : goal.invariant-loop-i
invariant-loop-i l = (j : ℕ) (s : Option Ty) → j < l.i → slice_get (slots l.kind) j ≡ Some s → rank s ≤ l.fn.place
