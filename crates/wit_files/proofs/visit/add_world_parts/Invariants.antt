use Rattle.std.proofs.Common.{◌≡◌, ◌++◌, map, take}
use Rattle.wit_syntax.proofs.Common.{flat_map}
use Rattle.wit_files.specs.Visits.{visit_view, world_part_visits}
use Rattle.wit_files.proofs.visit.add_world_parts.Given as goal

abbrev pub invariant-loop-item : goal.invariant-loop-item
invariant-loop-item l = map visit_view l.visits.items ≡ map visit_view l.fn.visits.items ++ flat_map (world_part_visits l.world.name) (take l.item-index l.item-items)
