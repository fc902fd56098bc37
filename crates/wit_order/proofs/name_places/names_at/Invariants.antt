use Rattle.std.proofs.Common.{◌≡◌, map, Some, slice_get, take}
use Rattle.std.specs.Map.{keys_of}
use Rattle.wit_order.proofs.name_places.names_at.Given as goal

abbrev pub invariant-loop-place : goal.invariant-loop-place
invariant-loop-place g l = map Some l.names.items ≡ map (slice_get (keys_of (g.T.NameTable.entries l.deps))) (take l.place-index l.places)
