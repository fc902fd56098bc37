use Rattle.std.proofs.Common.{◌≡◌, ◌++◌, map, take}
use Rattle.wit_syntax.proofs.Common.{declared_items, flat_map, top_names}
use Rattle.wit_top_names.specs.Tops.{top_view, item_top}
use Rattle.wit_top_names.proofs.top_name.add_declared.Given as goal

abbrev pub invariant-loop-item : goal.invariant-loop-item
invariant-loop-item l = map top_view l.names.items ≡ map top_view l.fn.names.items ++ map item_top (flat_map (declared_items (top_names l.file)) (take l.item-index l.item-items))
