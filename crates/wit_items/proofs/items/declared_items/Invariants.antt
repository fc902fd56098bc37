use Rattle.std.proofs.Common.{◌≡◌, None, map, take}
use Rattle.wit_arena.proofs.Common.{PackageFile, all_items, file_items}
use Rattle.wit_first.specs.First.{first_in}
use Rattle.wit_first.specs.UseFaults.{item_uses_fault}
use Rattle.wit_items.specs.BorrowedItems.{item_view, AreItemsOf}
use Rattle.wit_items.proofs.items.declared_items.Given as goal

abbrev pub invariant-loop-place : goal.invariant-loop-place
invariant-loop-place l = record {
  items : map item_view l.items.items ≡ all_items (take l.place l.names);
  each : AreItemsOf l.names l.items.items;
  none : first_in (λ (file : PackageFile). first_in (item_uses_fault l.names) (file_items file)) (take l.place l.names) ≡ None;
}
