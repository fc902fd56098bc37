use Rattle.wit_entries.proofs.Resolves.{types_none}
use Rattle.wit_definitions.proofs.bodies.resolve_case.Goals as goal

pub returns-in_ok-case-in-Some-clause-resolves : goal.returns-in_ok-case-in-Some-clause-resolves
returns-in_ok-case-in-Some-clause-resolves c = rw (c.in-Some.is, c.in_ok-case-in-Some.ensures.typed) c.in_ok-ty-in-Some.ensures

pub returns-in_ok-case-in-None-clause-resolves : goal.returns-in_ok-case-in-None-clause-resolves
returns-in_ok-case-in-None-clause-resolves c = rw (c.in-None.is, c.in_ok-case-in-None.ensures.typed) (types_none c.args.scope.now c.args.given.now c.args.types.now c.args.required.now.items)
