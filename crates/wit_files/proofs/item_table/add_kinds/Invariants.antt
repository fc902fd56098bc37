use Rattle.std.proofs.Common.{◌≡◌, ◌++◌, map, take}
use Rattle.wit_syntax.proofs.Common.{declared_items, flat_map, is_world, top_names}
use Rattle.wit_files.proofs.item_table.add_kinds.Given as goal

abbrev pub invariant-loop-item : goal.invariant-loop-item
invariant-loop-item l = l.kinds.items ≡ l.fn.kinds.items ++ map is_world (flat_map (declared_items (top_names l.file)) (take l.item-index l.items))
