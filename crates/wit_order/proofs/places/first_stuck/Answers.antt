use Rattle.std.proofs.Common.{arith, ◌<◌, length}
use Rattle.std.proofs.lemmas.Option.{slice_get-get_or, slice_get_within}
use Rattle.wit_order.proofs.StuckEdges.{free_more}
use Rattle.wit_order.proofs.places.first_stuck.Goals as goal

pub loop-k-preserved : goal.loop-k-preserved
loop-k-preserved c = free_more c.args.row.now c.args.free.now c.loop-k.k c.loop-k.invariant c.loop-k-test.true c.if-not-free-w.false

pub returns-then-not-free-w : goal.returns-then-not-free-w
returns-then-not-free-w c = record { found = (_, slice_get-get_or c.args.row.now c.loop-k.k 0 c.loop-k-test.true, c.if-not-free-w.true); earlier = c.loop-k.invariant; none = tt }

pub returns-clause-none : goal.returns-clause-none
returns-clause-none c = λ j w at. let inside : j < length c.args.row.now = slice_get_within c.args.row.now j w at in c.loop-k.invariant j w (omega arith) at
