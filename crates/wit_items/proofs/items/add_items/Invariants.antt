use Rattle.std.proofs.Common.{◌≡◌, ◌++◌, None, map, take}
use Rattle.wit_syntax.proofs.Common.{AstItem}
use Rattle.wit_arena.proofs.Common.{declared_items, flat_map, top_names}
use Rattle.wit_first.specs.First.{first_in}
use Rattle.wit_first.specs.UseFaults.{item_uses_fault}
use Rattle.wit_items.specs.BorrowedItems.{item_view, AreItemsOf}
use Rattle.wit_items.proofs.items.add_items.Given as goal

abbrev pub invariant-loop-item : goal.invariant-loop-item
invariant-loop-item l = record {
  items : map item_view l.items.items ≡ map item_view l.fn.items.items ++ flat_map (declared_items (top_names l.file)) (take l.item-index l.declared);
  each : AreItemsOf l.files l.fn.items.items → AreItemsOf l.files l.items.items;
  none : first_in (λ (d : AstItem). first_in (item_uses_fault l.files) (declared_items (top_names l.file) d)) (take l.item-index l.declared) ≡ None;
}
