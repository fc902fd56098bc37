use Rattle.std.proofs.Common.{sym}
use Rattle.wit_listing.specs.Worlds.{extern_line}
use Rattle.wit_listing.proofs.Growing.{joined_more}
use Rattle.wit_listing.proofs.worlds.push_externs.Goals as goal

pub loop-place-preserved : goal.loop-place-preserved
loop-place-preserved c =
    joined_more (extern_line c.args.side.now c.args.interfaces.now) c.loop-place.place c.args.externs.now (c.in-Some.key.now, c.in-Some.item.now) _ _ _
    (sym c.in-Some.ensures)
    c.loop-place.invariant
    c.in_ok-push_extern_line.ensures
