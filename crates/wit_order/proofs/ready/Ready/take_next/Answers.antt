use Rattle.std.proofs.Common.{arith}
use Rattle.wit_order.proofs.ReadySet.{first_ahead, none_ahead}
use Rattle.wit_order.proofs.ready.Ready.take_next.Goals as goal

pub returns-in-Some-clause-least : goal.returns-in-Some-clause-least
returns-in-Some-clause-least c = λ q h. first_ahead c.in-Some.place c.args.self.now.next c.args.self.now.counts.items (rw c.deref.ensures.value at c.in-Some.ensures.earlier) q (omega (arith, h, c.requires q))

pub returns-in-None-clause-none : goal.returns-in-None-clause-none
returns-in-None-clause-none c = λ q.
    let nothing = none_ahead c.args.self.now.next c.args.self.now.counts.items (rw c.deref.ensures.value at c.in-None.ensures.none) q in
    omega (arith, c.requires q, nothing)
