use Rattle.std.proofs.Common.{◌≡◌, map, take}
use Rattle.wit_arena.proofs.Common.{local_id}
use Rattle.wit_scopes.specs.BorrowedNames.{use_view}
use Rattle.wit_scopes.proofs.distinct.used_ids.Given as goal

abbrev pub invariant-loop-used : goal.invariant-loop-used
invariant-loop-used l = l.ids.items ≡ map local_id (map use_view (take l.used-index l.uses))
