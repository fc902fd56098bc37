use Rattle.std.proofs.Common.{◌≡◌, ◌++◌, List, None, map, take}
use Rattle.wit_syntax.proofs.Common.{AstItem, Item, declared_items, flat_map, item_row, rows, top_names}
use Rattle.wit_first.specs.FileFaults.{paths_fault}
use Rattle.wit_first.specs.First.{first_in}
use Rattle.wit_top_names.specs.Tops.{AreDeclared}
use Rattle.wit_files.proofs.item_table.add_items.Given as goal

abbrev pub invariant-loop-item : goal.invariant-loop-item
invariant-loop-item l = record {
  rows : rows l.table ≡ rows l.fn.table ++ map item_row (flat_map (declared_items (top_names l.file)) (take l.item-index l.items));
  none : (is : List Item) → AreDeclared is l.paths.declared.now → first_in (λ (d : AstItem). first_in (paths_fault is) (declared_items (top_names l.file) d)) (take l.item-index l.items) ≡ None;
}
