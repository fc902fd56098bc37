use Rattle.wit_maps.specs.Slots.{AreUsed}
use Rattle.wit_maps.proofs.slots.free_near.Given as goal

abbrev pub invariant-loop-step : goal.invariant-loop-step
invariant-loop-step l = AreUsed l.slots l.home l.step
