use Rattle.std.proofs.Common.{sym}
use Rattle.wit_listing.specs.ForeignLines.{item_line}
use Rattle.wit_listing.proofs.Growing.{joined_more}
use Rattle.wit_listing.proofs.foreign.push_items.Goals as goal

pub loop-place-preserved : goal.loop-place-preserved
loop-place-preserved c =
    joined_more (item_line c.args.package_name.now) c.loop-place.place c.args.items.now (c.in-Some.name.now, c.in-Some.entry.now) _ _ _
    (sym c.in-Some.ensures)
    c.loop-place.invariant
    c.in_ok-push_item.ensures
