use Rattle.std.proofs.Common.{length, get_or}
use Rattle.wit_order.proofs.ReadySet.{below_used, passed_least}
use Rattle.wit_order.proofs.ready.Ready.take.Goals as goal

pub invariant_of-self : goal.invariant_of-self
invariant_of-self c = record { below = below_used c.pop_first.result c.args.self.now.passed.keys c.pop_first.new.self.keys c.args.self.now.next c.pop_first.ensures.removal c.pop_first.ensures.unchanged c.args.self.now.below }

pub returns-in-Some-clause-least : goal.returns-in-Some-clause-least
returns-in-Some-clause-least c = λ q. passed_least c.in-Some.place q c.args.self.now.next (length c.args.self.now.counts.items) (get_or c.args.self.now.counts.items q 0) c.args.self.now.passed.keys c.pop_first.new.self.keys
    c.in-Some.ensures.removal c.in-Some.ensures.all_above c.args.self.now.below
