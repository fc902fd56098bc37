use Rattle.std.proofs.Common.{sym, ◌∙◌, arith}
use Rattle.wit_refusals.proofs.Few.{pair_alike, pair_apart, none_more}
use Rattle.wit_refusals.proofs.Seeing.{texts_of}
use Rattle.wit_refusals.proofs.repeats.earlier_place.Goals as goal

pub returns-then-eq-clause-some : goal.returns-then-eq-clause-some
returns-then-eq-clause-some c = pair_alike c.args.texts.now c.loop-earlier.earlier c.args.place _ _ (omega arith) (omega (arith, c.requires)) (sym c.eq.ensures ∙ c.if-eq.true)

pub loop-earlier-preserved : goal.loop-earlier-preserved
loop-earlier-preserved c = none_more (texts_of c.args.texts.now) c.loop-earlier.earlier c.args.place c.loop-earlier.invariant (pair_apart c.args.texts.now c.loop-earlier.earlier c.args.place _ _ (omega (arith, c.requires)) (omega (arith, c.requires)) (sym c.eq.ensures ∙ c.if-eq.false))
