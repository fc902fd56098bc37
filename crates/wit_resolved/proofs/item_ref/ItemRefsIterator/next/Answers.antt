use Rattle.std.proofs.Common.{sym}
use Rattle.wit_resolved.proofs.Searching.{entries_step}
use Rattle.wit_resolved.proofs.Validity.{item_at}
use Rattle.wit_resolved.proofs.item_ref.ItemRefsIterator.next.Goals as goal

pub invariant_of-result-clause-within : goal.invariant_of-result-clause-within
invariant_of-result-clause-within c = item_at _ _ _ _ _ c.args.self.now.each (sym c.in-Some.ensures)

pub returns-clause-steps : goal.returns-clause-steps
returns-clause-steps c = entries_step c.args.self.now.of.now c.args.self.now.items.now c.args.self.now.next (c.in-Some.key.now, c.in-Some.item.now) (sym c.in-Some.ensures)
