use Rattle.std.proofs.Common.{◌≡◌, List, map, take}
use Rattle.wit_arena.proofs.Common.{ScopeName, local_id, type_imports}
use Rattle.wit_world_sides.proofs.sides.type_imports.Given as goal

abbrev pub invariant-loop-place : goal.invariant-loop-place
invariant-loop-place l = (xs : List ScopeName) → l.turn ≡ map local_id xs → l.imports ≡ type_imports (take l.place xs) l.types
