use Rattle.std.proofs.Common.{◌≡◌, map, take}
use Rattle.wit_syntax.proofs.Common.{top_name}
use Rattle.wit_top_names.specs.Tops.{top_view}
use Rattle.wit_top_names.proofs.top_name.top_names.Given as goal

abbrev pub invariant-loop-item : goal.invariant-loop-item
invariant-loop-item l = map top_view l.names.items ≡ map top_name (take l.item-index l.items)
