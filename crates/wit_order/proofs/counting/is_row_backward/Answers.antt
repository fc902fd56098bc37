use Rattle.std.proofs.Common.{◌<◌, arith, subst, All}
use Rattle.std.proofs.lemmas.List.{take_all}
use Rattle.std.proofs.lemmas.List.Elements.{All-more}
use Rattle.wit_order.proofs.counting.is_row_backward.Goals as goal

pub loop-w-preserved : goal.loop-w-preserved
loop-w-preserved c = All-more (λ w. w < c.args.place) c.args.row.now c.loop-w.w-index 0 c.loop-w-test.true c.loop-w.invariant (omega (arith, c.if-w-place.false))

pub returns : goal.returns
returns c = subst (λ xs. All (λ w. w < c.args.place) xs) (take_all c.loop-w.w-index c.args.row.now (omega (arith, c.loop-w-test.false))) c.loop-w.invariant
