use Rattle.std.proofs.Common.{◌≡◌, ◌++◌, None, map, take}
use Rattle.wit_syntax.proofs.Common.{flat_map}
use Rattle.wit_files.specs.Visits.{visit_view, part_visits}
use Rattle.wit_files.proofs.visit.add_inline_visits.Given as goal

abbrev pub invariant-loop-item : goal.invariant-loop-item
invariant-loop-item l = map visit_view l.visits.items ≡ map visit_view l.fn.visits.items ++ flat_map (part_visits None) (take l.item-index l.items)
