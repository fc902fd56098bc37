use Rattle.std.proofs.Common.{◌≡◌, map, take}
use Rattle.wit_arena.proofs.Common.{Flag as WrittenFlag, member}
use Rattle.wit_definitions.specs.Bodies.{flag_member}
use Rattle.wit_definitions.proofs.bodies.flags.Given as goal

abbrev pub invariant-loop-written : goal.invariant-loop-written
invariant-loop-written l = map flag_member l.made.items ≡ map (λ (x : WrittenFlag). member x.docs x.name) (take l.written-index l.flags)
