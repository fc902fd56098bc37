use Rattle.std.proofs.Common.{ap, sym, ◌∙◌}
use Rattle.std.specs.Prelude.{slice_get}
use Rattle.wit_listing.specs.Interfaces.{interface_lines}
use Rattle.wit_listing.proofs.Growing.{added_more}
use Rattle.wit_listing.proofs.interfaces.push_interfaces.Goals as goal

pub loop-place-preserved : goal.loop-place-preserved
loop-place-preserved c = added_more interface_lines c.loop-place.place c.args.interfaces.now c.get.result.now _ _ _
    (ap (slice_get c.args.interfaces.now) (sym c.id_at.ensures) ∙ c.get.ensures)
    c.loop-place.invariant c.in_ok-push_interface.ensures
