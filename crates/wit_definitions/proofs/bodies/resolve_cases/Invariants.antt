use Rattle.std.proofs.Common.{◌≡◌, map, take}
use Rattle.wit_arena.proofs.Common.{Case as WrittenCase, case_types, filter_map, is_some, member}
use Rattle.wit_types.specs.declared.types.Case.{Case}
use Rattle.wit_definitions.specs.Bodies.{case_member}
use Rattle.wit_entries.proofs.Resolves.{ResolvedTypes}
use Rattle.wit_definitions.proofs.bodies.resolve_cases.Given as goal

abbrev pub invariant-loop-written : goal.invariant-loop-written
invariant-loop-written l = record {
  members : map case_member l.resolved.items ≡ map (λ (x : WrittenCase). (member x.docs x.name, is_some x.ty)) (take l.written-index l.cases);
  types : ResolvedTypes l.scope l.given l.fn.types l.types l.fn.required.items l.required.items (case_types (take l.written-index l.cases)) (filter_map (λ (c : Case). c.ty) l.resolved.items);
}
