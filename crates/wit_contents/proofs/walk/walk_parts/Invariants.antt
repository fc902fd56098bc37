use Rattle.std.proofs.Common.{take}
use Rattle.wit_contents.proofs.Names.{side_items, stage, walk_of, item_view, flat_map}
use Rattle.wit_contents.proofs.MemberFaults.{AreDone, part_sides}
use Rattle.wit_contents.proofs.walk.walk_parts.Given as goal

-- the parts up to here are added, and nothing of theirs has a fault
abbrev pub invariant-loop-part : goal.invariant-loop-part
invariant-loop-part l = AreDone (walk_of l.item l.walk) (side_items (item_view l.item)) (flat_map part_sides (take l.part-index l.part-items)) (stage l.fn.growing l.fn.walked) (stage l.growing l.walked)
