use Rattle.std.proofs.Common.{sym}
use Rattle.wit_listing.specs.Interfaces.{function_line}
use Rattle.wit_listing.proofs.Growing.{joined_more}
use Rattle.wit_listing.proofs.interfaces.push_functions.Goals as goal

pub loop-place-preserved : goal.loop-place-preserved
loop-place-preserved c =
    joined_more function_line c.loop-place.place c.args.functions.now (c.in-Some.name.now, c.in-Some.function.now) _ _ _ (sym c.in-Some.ensures) c.loop-place.invariant c.in_ok-push_function.ensures
