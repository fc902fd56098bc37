use Rattle.std.proofs.Common.{List, ◌++◌, map, sym, ap, ◌∙◌}
use Rattle.wit_syntax.proofs.Common.{AstItem, append-nil, declared_items, flat_map, is_world, take_all, top_names}
use Rattle.wit_files.proofs.Added.{added_seen}
use Rattle.wit_files.proofs.item_table.add_kinds.Goals.{in-Interface+in_ok-push-in-Interface, in-World+in_ok-push-in-World, in-Use}
use Rattle.wit_files.proofs.item_table.add_kinds.Goals as goal

pub loop-item-init : goal.loop-item-init
loop-item-init c = sym (append-nil c.args.kinds.now.items)

pub loop-item-preserved : goal.loop-item-preserved
loop-item-preserved c =
    let items = declared_items (top_names c.args.file.now) in
    let old = c.args.kinds.now.items in
    let now = c.loop-item.kinds.items in
    let xs = c.declarations-items.result.now in
    let i = c.loop-item.item-index in
    let x = c.item-item.result in
    let own = λ (y : AstItem). now ++ map is_world (items y) in
    elim c.match-item.branch [
      | in-Interface+in_ok-push-in-Interface b ↦ rw b.kinds-is (added_seen is_world items old now _ xs i x c.loop-item-test.true c.item-item.is c.loop-item.invariant (b.in_ok-push-in-Interface.ensures.items ∙ ap own (sym b.in-Interface.is)))
      | in-World+in_ok-push-in-World b ↦ rw b.kinds-is (added_seen is_world items old now _ xs i x c.loop-item-test.true c.item-item.is c.loop-item.invariant (b.in_ok-push-in-World.ensures.items ∙ ap own (sym b.in-World.is)))
      | in-Use b ↦ rw b.kinds-is (added_seen is_world items old now now xs i x c.loop-item-test.true c.item-item.is c.loop-item.invariant (sym (append-nil now) ∙ ap own (sym b.in-Use.is)))
    ]

pub returns : goal.returns
returns c = c.loop-item.invariant ∙ ap (λ (l : List AstItem). c.args.kinds.now.items ++ map is_world (flat_map (declared_items (top_names c.args.file.now)) l)) (take_all c.loop-item.item-index c.declarations-items.result.now c.loop-item-test.false ∙ c.declarations-items.ensures)
