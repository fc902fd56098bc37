use Rattle.std.proofs.Common.{map, take}
use Rattle.wit_rules.specs.Signatures.{AreResults}
use Rattle.wit_items.proofs.Common.{name_view}
use Rattle.wit_item_entries.proofs.functions.written_results.Given as goal

abbrev pub invariant-loop-name : goal.invariant-loop-name
invariant-loop-name l = AreResults l.results (map name_view (take l.name-index l.names))
