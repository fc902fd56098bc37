use Rattle.std.proofs.Common.{refl}
use Rattle.std.proofs.lemmas.Option.{slice_get_read}
use Rattle.wit_listing.specs.Package.{package_text}
use Rattle.wit_listing.proofs.Growing.{joined_more}
use Rattle.wit_listing.proofs.group.push_packages.Goals as goal

pub loop-resolved-preserved : goal.loop-resolved-preserved
loop-resolved-preserved c =
    joined_more package_text c.loop-resolved.resolved-index c.args.packages.now c.resolved-item.result _ _ _
    (slice_get_read _ _ _ _ refl c.loop-resolved-test.true c.resolved-item.is)
    c.loop-resolved.invariant
    c.in_ok-push_package.ensures
