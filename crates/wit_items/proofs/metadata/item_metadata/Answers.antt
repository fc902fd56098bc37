use Rattle.wit_items.proofs.metadata.item_metadata.Goals as goal

pub returns-in-Interface-clause-first : goal.returns-in-Interface-clause-first
returns-in-Interface-clause-first c = rw c.in-Interface.is (rw c.deref.ensures.value at c.as_stated.ensures.first)

pub returns-in-World-clause-first : goal.returns-in-World-clause-first
returns-in-World-clause-first c = rw c.in-World.is (rw c.deref-in-World.ensures.value at c.as_stated-in-World.ensures.first)

pub returns-in-Inline-clause-first : goal.returns-in-Inline-clause-first
returns-in-Inline-clause-first c = rw c.in-Inline.is (rw c.deref-in-Inline.ensures.value at c.as_stated-in-Inline.ensures.first)
