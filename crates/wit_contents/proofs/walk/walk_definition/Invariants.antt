use Rattle.std.proofs.Common.{take}
use Rattle.wit_contents.proofs.Names.{DefinitionPart, part_items, stage, walk_of, flat_map}
use Rattle.wit_contents.proofs.MemberFaults.{AreDone, function_sides}
use Rattle.wit_contents.proofs.walk.walk_definition.Given as goal

-- the functions up to here are added, and none of them has a fault
abbrev pub invariant-loop-function : goal.invariant-loop-function
invariant-loop-function l = AreDone (walk_of l.item l.walk) (part_items (DefinitionPart l.definition)) (flat_map (function_sides l.definition.name) (take l.function-index l.function-items)) (stage l.fn.growing l.fn.walked) (stage l.growing l.walked)
