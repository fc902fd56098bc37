use Rattle.wit_scopes.proofs.definition_order.scope_order.Goals as goal

pub returns-in-Ok-clause-first : goal.returns-in-Ok-clause-first
returns-in-Ok-clause-first c = (c.in-Ok.places.items, rw c.in_ok-table.ensures.rows at c.in-Ok.ensures.ok)

pub returns-clause-first : goal.returns-clause-first
returns-clause-first c = rw c.in_ok-table.ensures.rows at c.refuse_type_order.ensures
