use Rattle.std.proofs.Common.{arith}
use Rattle.std.proofs.lemmas.Result.{err_from_is_err_and}
use Rattle.wit_bundle.proofs.Pairing.{first_two, paired_after, paired_all, paired_large, paired_more, paired_rest}
use Rattle.wit_bundle.proofs.apart.sources_of_pieces.Goals as goal

pub returns-in_err-push-clause-too_large : goal.returns-in_err-push-clause-too_large
returns-in_err-push-clause-too_large c =
    let p = err_from_is_err_and c.from_residual.result c.from_residual.ensures.1 in
    rw (p.1, p.2) (paired_large _ _ _ _ _ _ (paired_rest _ _ _ _ c.loop-rest.invariant (first_two c.loop-rest.rest.now _ c.loop-rest-test.true)) c.in_err-push.ensures.too_large)

pub loop-rest-preserved : goal.loop-rest-preserved
loop-rest-preserved c =
    let pushed = c.in_ok-push.ensures.sources in
    paired_after _ _ _ (paired_more _ _ _ _ _ _ pushed.0 (paired_rest _ _ _ _ c.loop-rest.invariant (first_two c.loop-rest.rest.now _ c.loop-rest-test.true)) pushed.1 pushed.2 c.in_ok-push.ensures.fits)

pub returns-clause-laid : goal.returns-clause-laid
returns-clause-laid c = (paired_all _ _ _ c.loop-rest.invariant (omega arith)).0

pub returns-clause-fits : goal.returns-clause-fits
returns-clause-fits c = (paired_all _ _ _ c.loop-rest.invariant (omega arith)).1
