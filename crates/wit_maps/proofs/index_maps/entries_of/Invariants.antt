use Rattle.std.proofs.Common.{◌≡◌, ◌++◌}
use Rattle.wit_maps.proofs.index_maps.entries_of.Given as goal

abbrev pub invariant-loop-entry : goal.invariant-loop-entry
invariant-loop-entry g l = l.entries.items ++ l.entry-iterator ≡ l.fn.map.entries
