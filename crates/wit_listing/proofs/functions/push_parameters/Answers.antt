use Rattle.std.proofs.lemmas.Option.{slice_get_read}
use Rattle.std.proofs.Common.{refl}
use Rattle.wit_listing.specs.Functions.{parameter_text}
use Rattle.wit_listing.proofs.Growing.{added_more}
use Rattle.wit_listing.proofs.functions.push_parameters.Goals as goal

pub loop-place-preserved : goal.loop-place-preserved
loop-place-preserved c =
    added_more parameter_text c.loop-place.place c.args.params.now c.index-params-place.result _ _ _
    (slice_get_read _ _ _ _ refl c.loop-place-test.true c.index-params-place.is)
    c.loop-place.invariant
    c.in_ok-push_parameter.ensures
