use Rattle.std.proofs.Common.{sym}
use Rattle.wit_listing.specs.ForeignLines.{dep_lines}
use Rattle.wit_listing.proofs.Growing.{joined_more}
use Rattle.wit_listing.proofs.foreign.push_deps.Goals as goal

pub loop-place-preserved : goal.loop-place-preserved
loop-place-preserved c =
    joined_more dep_lines c.loop-place.place c.args.deps.now (c.in-Some.package_name.now, c.in-Some.items.now) _ _ _
    (sym c.in-Some.ensures)
    c.loop-place.invariant
    c.in_ok-push_items.ensures
