use Rattle.std.proofs.Common.{Option, None, ◌++◌, map, refl, sym, ap, ◌∙◌}
use Rattle.wit_syntax.proofs.Common.{Id, InterfaceItem, append-nil}
use Rattle.wit_files.specs.Visits.{part_visits, visit_view}
use Rattle.wit_files.proofs.Added.{added_all, added_next, added_none, no_use}
use Rattle.wit_files.proofs.visit.add_inline_visits.Goals.{in-Use+in_ok-add_use, in_default}
use Rattle.wit_files.proofs.visit.add_inline_visits.Goals as goal

pub loop-item-init : goal.loop-item-init
loop-item-init c = sym (append-nil (map visit_view c.args.visits.now.items))

pub loop-item-preserved : goal.loop-item-preserved
loop-item-preserved c =
    let owner : Option Id = None in
    let xs = c.args.items.now in
    let i = c.loop-item.item-index in
    let x = c.item-item.result in
    let old = map visit_view c.args.visits.now.items in
    let now = map visit_view c.loop-item.visits.items in
    elim c.match-item.branch [
      | in-Use+in_ok-add_use w ↦ rw w.visits-is (added_next (part_visits owner) old now _ xs i x c.loop-item-test.true c.item-item.is c.loop-item.invariant (w.in_ok-add_use.ensures ∙ ap (λ (y : InterfaceItem). now ++ part_visits owner y) (sym w.in-Use.is)))
      | in_default w ↦ rw w.visits-is (added_none (part_visits owner) old now xs i x c.loop-item-test.true c.item-item.is c.loop-item.invariant (no_use owner x w.in_default.not-Use))
    ]

pub returns : goal.returns
returns c = added_all (part_visits None) (map visit_view c.args.visits.now.items) _ c.args.items.now c.args.items.now c.loop-item.item-index c.loop-item.invariant c.loop-item-test.false refl
