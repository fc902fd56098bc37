use Rattle.std.proofs.Common.{ap, sym, ◌∙◌}
use Rattle.std.specs.Prelude.{slice_get}
use Rattle.wit_listing.specs.Types.{type_line}
use Rattle.wit_listing.proofs.Growing.{added_more}
use Rattle.wit_listing.proofs.types.push_type_lines.Goals as goal

pub loop-place-preserved : goal.loop-place-preserved
loop-place-preserved c = added_more type_line c.loop-place.place c.args.types.now c.get.result.now _ _ _
    (ap (slice_get c.args.types.now) (sym c.id_at.ensures) ∙ c.get.ensures)
    c.loop-place.invariant c.in_ok-push_type_line.ensures
