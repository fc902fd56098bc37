use Rattle.std.proofs.Common.{◌≡◌, ◌++◌, map, take}
use Rattle.wit_items.proofs.Common.{resource_function}
use Rattle.wit_rules.specs.Signatures.{function_view}
use Rattle.wit_item_entries.proofs.functions.add_definition.Given as goal

abbrev pub invariant-loop-function : goal.invariant-loop-function
invariant-loop-function l = map function_view l.functions.items ≡ map function_view l.fn.functions.items ++ map (resource_function l.fn.part.name) (take l.function-index l.function-items)
