use Rattle.std.proofs.Common.{◌≡◌, ◌++◌, take}
use Rattle.wit_item_entries.proofs.required.add_required.Given as goal

abbrev pub invariant-loop-one : goal.invariant-loop-one
invariant-loop-one l = l.required.items ≡ l.fn.required.items ++ take l.one-index l.own
