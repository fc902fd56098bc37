use Rattle.std.proofs.Common.{◌≡◌, map, take}
use Rattle.wit_arena.proofs.Common.{EnumCase as WrittenEnumCase, member}
use Rattle.wit_definitions.specs.Bodies.{enum_case_member}
use Rattle.wit_definitions.proofs.bodies.enum_cases.Given as goal

abbrev pub invariant-loop-written : goal.invariant-loop-written
invariant-loop-written l = map enum_case_member l.made.items ≡ map (λ (x : WrittenEnumCase). member x.docs x.name) (take l.written-index l.cases)
