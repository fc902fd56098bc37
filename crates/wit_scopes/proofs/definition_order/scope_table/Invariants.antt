use Rattle.std.proofs.Common.{◌≡◌, map, take}
use Rattle.wit_arena.proofs.Common.{rows, rows_of}
use Rattle.wit_scopes.specs.BorrowedNames.{name_view}
use Rattle.wit_scopes.proofs.definition_order.scope_table.Given as goal

abbrev pub invariant-loop-name : goal.invariant-loop-name
invariant-loop-name l = rows l.table ≡ rows_of (map name_view (take l.name-index l.names))
