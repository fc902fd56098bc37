use Rattle.std.proofs.Common.{map, sym}
use Rattle.wit_syntax.proofs.Common.{append-nil}
use Rattle.wit_files.specs.Visits.{visit_view, world_part_visits}
use Rattle.wit_files.proofs.Added.{added_all, added_next}
use Rattle.wit_files.proofs.visit.add_world_parts.Goals as goal

pub loop-item-init : goal.loop-item-init
loop-item-init c = sym (append-nil (map visit_view c.args.visits.now.items))

pub loop-item-preserved : goal.loop-item-preserved
loop-item-preserved c = added_next (world_part_visits c.args.world.now.name) (map visit_view c.args.visits.now.items) _ _ c.world_items-item-items.result.now c.loop-item.item-index c.item-item.result c.loop-item-test.true c.item-item.is c.loop-item.invariant c.in_ok-add_world_part.ensures

pub returns : goal.returns
returns c = added_all (world_part_visits c.args.world.now.name) (map visit_view c.args.visits.now.items) _ c.world_items-item-items.result.now c.args.world.now.items.items c.loop-item.item-index c.loop-item.invariant c.loop-item-test.false c.world_items-item-items.ensures
