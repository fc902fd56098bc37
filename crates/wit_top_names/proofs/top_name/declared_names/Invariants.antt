use Rattle.std.proofs.Common.{◌≡◌, map, take}
use Rattle.wit_syntax.proofs.Common.{all_items}
use Rattle.wit_top_names.specs.Tops.{top_view, item_top}
use Rattle.wit_top_names.proofs.top_name.declared_names.Given as goal

abbrev pub invariant-loop-file : goal.invariant-loop-file
invariant-loop-file l = map top_view l.names.items ≡ map item_top (all_items (take l.file-index l.files))
