use Rattle.std.proofs.Common.{◌≡◌, map, take}
use Rattle.wit_items.proofs.Common.{flat_map, part_functions, world_part}
use Rattle.wit_rules.specs.Signatures.{function_view}
use Rattle.wit_item_entries.proofs.functions.world_functions.Given as goal

abbrev pub invariant-loop-part : goal.invariant-loop-part
invariant-loop-part l = map function_view l.functions.items ≡ flat_map part_functions (map world_part (take l.part-index l.part-items))
