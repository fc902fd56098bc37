use Rattle.std.proofs.Common.{refl}
use Rattle.std.proofs.lemmas.Option.{slice_get_read}
use Rattle.wit_listing.specs.Worlds.{include_line}
use Rattle.wit_listing.proofs.Growing.{joined_more}
use Rattle.wit_listing.proofs.worlds.push_includes.Goals as goal

pub loop-include-preserved : goal.loop-include-preserved
loop-include-preserved c =
    joined_more include_line c.loop-include.include-index c.args.includes.now c.include-item.result _ _ _
    (slice_get_read _ _ _ _ refl c.loop-include-test.true c.include-item.is)
    c.loop-include.invariant
    c.in_ok-push_include.ensures
