use Rattle.std.specs.Map.{keys_of}
use Rattle.wit_maps.specs.Slots.{AreUsed}
use Rattle.wit_maps.proofs.Sights.{NoneAmong}
use Rattle.wit_maps.proofs.slots.look.Given as goal

abbrev pub invariant-loop-step : goal.invariant-loop-step
invariant-loop-step g l = AreUsed l.slots l.home l.step × NoneAmong (g.Q.Equivalent.equivalent l.fn.key) (keys_of l.entries) l.slots l.home l.step
