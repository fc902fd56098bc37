use Rattle.std.proofs.lemmas.Option.{slice_get_read}
use Rattle.std.proofs.Common.{refl}
use Rattle.wit_listing.specs.Worlds.{rename_text}
use Rattle.wit_listing.proofs.Growing.{added_more}
use Rattle.wit_listing.proofs.worlds.push_renames.Goals as goal

pub loop-place-preserved : goal.loop-place-preserved
loop-place-preserved c =
    added_more rename_text c.loop-place.place c.args.renames.now c.index-renames-place.result _ _ _
    (slice_get_read _ _ _ _ refl c.loop-place-test.true c.index-renames-place.is)
    c.loop-place.invariant
    c.in_ok-push_rename.ensures
