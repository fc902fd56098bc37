use Rattle.std.proofs.Common.{◌≡◌, map, take}
use Rattle.wit_types.specs.declared.types.Field.{Field}
use Rattle.wit_arena.proofs.Common.{Field as WrittenField, field_types, member}
use Rattle.wit_definitions.specs.Bodies.{field_member}
use Rattle.wit_entries.proofs.Resolves.{ResolvedTypes}
use Rattle.wit_definitions.proofs.bodies.resolve_fields.Given as goal

abbrev pub invariant-loop-written : goal.invariant-loop-written
invariant-loop-written l = record {
  members : map field_member l.resolved.items ≡ map (λ (x : WrittenField). member x.docs x.name) (take l.written-index l.fields);
  types : ResolvedTypes l.scope l.given l.fn.types l.types l.fn.required.items l.required.items (field_types (take l.written-index l.fields)) (map (λ (f : Field). f.ty) l.resolved.items);
}
