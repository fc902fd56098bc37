use Rattle.std.proofs.Common.{◌-◌, length}
use Rattle.wit_grammar.specs.Seen.{see_item}
use Rattle.wit_grammar.specs.ItemRules.{interface_item}
use Rattle.wit_interface_reader.proofs.Braces.{IsInBraces}
use Rattle.wit_interface_reader.proofs.definition.read_interface_items.Given as goal

abbrev pub invariant-items : goal.invariant-items
invariant-items l = IsInBraces see_item interface_item l.fn.reader l.items.items l.reader

abbrev pub decreases-items : goal.decreases-items
decreases-items l = length l.fn.reader.source.now - l.reader.before
