use Rattle.std.specs.Map.{keys_of}
use Rattle.wit_maps.specs.Indexed.{AreKnown}
use Rattle.wit_maps.proofs.index.index_of.Given as goal

abbrev pub invariant-loop-place : goal.invariant-loop-place
invariant-loop-place g l = AreKnown g.K.Ord.cmp g.K.Hash.hash_input l.slots.items l.keys (keys_of l.entries) l.place
