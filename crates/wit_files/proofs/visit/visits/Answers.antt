use Rattle.std.proofs.Common.{[]}
use Rattle.wit_files.specs.Visits.{item_visits}
use Rattle.wit_files.proofs.Added.{added_all, added_next}
use Rattle.wit_files.proofs.visit.visits.Goals as goal

pub loop-item-preserved : goal.loop-item-preserved
loop-item-preserved c = added_next item_visits [] _ _ c.deref-item-items.result.now c.loop-item.item-index c.item-item.result c.loop-item-test.true c.item-item.is c.loop-item.invariant c.in_ok-add_visits.ensures

pub returns : goal.returns
returns c = added_all item_visits [] _ c.deref-item-items.result.now c.args.list.now.items.items c.loop-item.item-index c.loop-item.invariant c.loop-item-test.false c.deref-item-items.ensures.value
