use Rattle.std.proofs.Common.{Some, slice_get, sym}
use Rattle.std.specs.Map.{keys_of}
use Rattle.std.proofs.lemmas.Option.{slice_get-get_or}
use Rattle.wit_graph.proofs.Tables.{map_step}
use Rattle.wit_order.proofs.name_places.names_at.Goals as goal

pub loop-place-preserved : goal.loop-place-preserved
loop-place-preserved g c = rw c.in_ok-push.ensures.items (map_step Some (slice_get (keys_of (g.T.NameTable.entries c.args.deps.now))) c.loop-place.names.items c.args.places.now c.loop-place.place-index _ _
    c.loop-place.invariant (slice_get-get_or c.args.places.now c.loop-place.place-index 0 c.loop-place-test.true) (sym c.key.ensures))
