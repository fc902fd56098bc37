use Rattle.std.proofs.Common.{◌≡◌, ◌++◌, ℕ, map}
use Rattle.std.specs.Vec.Iter.{into_iter_items}
use Rattle.wit_functions.proofs.placed.places_of.Given as goal

abbrev pub invariant-loop-entry : goal.invariant-loop-entry
invariant-loop-entry l = l.places.items ++ map {B = ℕ} (λ t. t.0) (into_iter_items l.entry-iterator) ≡ map (λ t. t.0) l.fn.maybe_function.items
