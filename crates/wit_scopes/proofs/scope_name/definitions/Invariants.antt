use Rattle.std.proofs.Common.{◌≡◌, map, take}
use Rattle.wit_arena.proofs.Common.{defined}
use Rattle.wit_scopes.specs.BorrowedNames.{name_view, definition_view}
use Rattle.wit_scopes.proofs.scope_name.definitions.Given as goal

abbrev pub invariant-loop-name : goal.invariant-loop-name
invariant-loop-name l = map definition_view l.definitions.items ≡ defined (map name_view (take l.name-index l.names))
