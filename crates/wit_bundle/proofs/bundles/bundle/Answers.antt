use Rattle.std.specs.Option.{option_copied}
use Rattle.std.proofs.lemmas.Result.{err_from_is_err_and}
use Rattle.wit_bundle.proofs.Laying.{more_large, split_more}
use Rattle.wit_bundle.proofs.bundles.bundle.Goals as goal

pub returns-in_err-push-clause-too_large : goal.returns-in_err-push-clause-too_large
returns-in_err-push-clause-too_large c =
    let p = err_from_is_err_and c.from_residual-in_err-push.result c.from_residual-in_err-push.ensures.1 in
    rw
    (p.1, p.2)
    (more_large c.args.text.now c.in-Some.rest_after.now c.named.result.0.now c.named.result.1.now c.prefix_of-in-Some.result.0.now (option_copied c.prefix_of-in-Some.result.1) c.loop-rest.map.sources.items c.in_err-push.field-0.0
    (rw c.in-Some.is at c.loop-rest.invariant)
    c.named.ensures.parts
    c.prefix_of-in-Some.ensures.parts
    c.in_err-push.ensures.too_large)

pub loop-rest-preserved : goal.loop-rest-preserved
loop-rest-preserved c =
    let pushed = c.in_ok-push.ensures.sources in
    split_more c.args.text.now c.in-Some.rest_after.now c.named.result.0.now c.named.result.1.now c.prefix_of-in-Some.result.0.now (option_copied c.prefix_of-in-Some.result.1) c.loop-rest.map.sources.items c.push.new.self.sources.items pushed.0
    (rw c.in-Some.is at c.loop-rest.invariant)
    c.named.ensures.parts
    c.prefix_of-in-Some.ensures.parts
    pushed.1
    pushed.2
    c.in_ok-push.ensures.fits
