use Rattle.wit_item_entries.proofs.FunctionTables.{AreOthers}
use Rattle.wit_item_entries.proofs.uses.has_function.Given as goal

abbrev pub invariant-loop-place : goal.invariant-loop-place
invariant-loop-place l = AreOthers l.functions l.place l.name
