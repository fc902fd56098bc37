use Rattle.std.proofs.Common.{sym, arith}
use Rattle.wit_resolved.proofs.Searching.{entries_step}
use Rattle.wit_resolved.proofs.Validity.{name_within}
use Rattle.wit_resolved.proofs.interface_ref.NamedTypesIterator.next.Goals as goal

pub invariant_of-result-clause-within : goal.invariant_of-result-clause-within
invariant_of-result-clause-within c =
    let low = name_within c.args.self.now.of.now c.args.self.now.names.now c.args.self.now.next c.in-Some.name.now c.in-Some.id.now c.args.self.now.within (sym c.in-Some.ensures) in
    omega (arith, low, c.index-place.ensures)

pub returns-clause-steps : goal.returns-clause-steps
returns-clause-steps c = rw c.index-place.ensures (entries_step c.args.self.now.of.now c.args.self.now.names.now c.args.self.now.next (c.in-Some.name.now, c.in-Some.id.now) (sym c.in-Some.ensures))
