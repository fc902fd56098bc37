use Rattle.wit_graph.proofs.Outcome.{in_order, cycle_fault, some_stuck}
use Rattle.wit_order.proofs.least_order.conclude.Goals as goal

pub returns-in-Order-clause-ok : goal.returns-in-Order-clause-ok
returns-in-Order-clause-ok c =
    let sorted = rw c.in-Order.is at c.requires.sorted in
    λ rs same. in_order rs c.args.graph.now same c.in-Order.places.items sorted.0 sorted.1

pub unreachable-requires : goal.unreachable-requires
unreachable-requires c =
    let sorted = rw c.in-Stuck.is at c.requires.sorted in
    some_stuck c.args.graph.now c.in-Stuck.free sorted c.requires.closed (rw c.deref.ensures.value at c.in-None.ensures.none)

pub returns-in-Some-clause-err : goal.returns-in-Some-clause-err
returns-in-Some-clause-err c =
    let sorted = rw c.in-Stuck.is at c.requires.sorted in
    let first = rw c.deref.ensures.value at c.in-Some.ensures.some in
    λ rs same. cycle_fault rs c.args.graph.now same c.in-Stuck.free sorted c.in-Some.place c.in-Some.index first.0 first.1
