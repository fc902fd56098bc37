use Rattle.std.proofs.Common.{ap, sym, ◌∙◌}
use Rattle.std.specs.Prelude.{slice_get}
use Rattle.wit_listing.specs.Worlds.{world_lines}
use Rattle.wit_listing.proofs.Growing.{added_more}
use Rattle.wit_listing.proofs.worlds.push_worlds.Goals as goal

pub loop-place-preserved : goal.loop-place-preserved
loop-place-preserved c =
    added_more (world_lines c.args.interfaces.now) c.loop-place.place c.args.worlds.now c.get.result.now _ _ _
    (ap (slice_get c.args.worlds.now) (sym c.id_at.ensures) ∙ c.get.ensures)
    c.loop-place.invariant
    c.in_ok-push_world.ensures
