use Rattle.std.specs.Map.{keys_of}
use Rattle.wit_maps.proofs.Indexed.{NoneBefore}
use Rattle.wit_maps.proofs.index.place_among.Given as goal

abbrev pub invariant-loop-place : goal.invariant-loop-place
invariant-loop-place g l = NoneBefore (g.Q.Equivalent.equivalent l.fn.key) (keys_of l.entries) l.place
