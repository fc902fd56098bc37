use Rattle.std.proofs.Common.{◌≡◌, length}
use Rattle.wit_functions.specs.Reordered.{AreFirst}
use Rattle.wit_functions.proofs.reordering.all_places.Given as goal

abbrev pub invariant-loop-place : goal.invariant-loop-place
invariant-loop-place l = record { long : length l.places.items ≡ l.place; first : AreFirst l.places.items }
