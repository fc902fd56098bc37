use Rattle.std.proofs.Common.{sym}
use Rattle.wit_listing.specs.Interfaces.{named_type_line}
use Rattle.wit_listing.proofs.Growing.{joined_more}
use Rattle.wit_listing.proofs.interfaces.push_named_types.Goals as goal

pub loop-place-preserved : goal.loop-place-preserved
loop-place-preserved c =
    joined_more named_type_line c.loop-place.place c.args.types.now (c.in-Some.name.now, c.in-Some.id.now) _ _ _ (sym c.in-Some.ensures) c.loop-place.invariant c.in_ok-push_named_type.ensures
