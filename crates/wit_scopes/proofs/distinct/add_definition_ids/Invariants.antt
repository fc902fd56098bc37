use Rattle.std.proofs.Common.{◌≡◌, ◌++◌, map, take}
use Rattle.wit_arena.proofs.Common.{local_id}
use Rattle.wit_scopes.specs.BorrowedNames.{definition_view}
use Rattle.wit_scopes.proofs.distinct.add_definition_ids.Given as goal

abbrev pub invariant-loop-defined : goal.invariant-loop-defined
invariant-loop-defined l = l.ids.items ≡ l.fn.ids.items ++ map local_id (map definition_view (take l.defined-index l.definitions))
