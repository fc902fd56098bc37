use Rattle.std.proofs.Common.{map, sym}
use Rattle.wit_syntax.proofs.Common.{append-nil}
use Rattle.wit_files.specs.Visits.{side_part_visits, visit_view}
use Rattle.wit_files.proofs.Added.{added_all, added_next}
use Rattle.wit_files.proofs.visit.add_side.Goals as goal

pub loop-item-init : goal.loop-item-init
loop-item-init c = sym (append-nil (map visit_view c.args.visits.now.items))

pub loop-item-preserved : goal.loop-item-preserved
loop-item-preserved c = added_next (side_part_visits c.args.side) (map visit_view c.args.visits.now.items) _ _ c.world_items-item-items.result.now c.loop-item.item-index c.item-item.result c.loop-item-test.true c.item-item.is c.loop-item.invariant c.in_ok-add_side_part.ensures

pub returns : goal.returns
returns c = added_all (side_part_visits c.args.side) (map visit_view c.args.visits.now.items) _ c.world_items-item-items.result.now c.args.world.now.items.items c.loop-item.item-index c.loop-item.invariant c.loop-item-test.false c.world_items-item-items.ensures
