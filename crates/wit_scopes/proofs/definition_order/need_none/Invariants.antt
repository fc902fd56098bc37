use Rattle.std.proofs.Common.{map, take}
use Rattle.wit_scopes.specs.DefinitionOrder.{NeedNone}
use Rattle.wit_scopes.specs.BorrowedNames.{name_view}
use Rattle.wit_scopes.proofs.definition_order.need_none.Given as goal

abbrev pub invariant-loop-name : goal.invariant-loop-name
invariant-loop-name l = NeedNone (take l.name-index (map name_view l.names))
