use Rattle.std.proofs.Common.{◌≡◌, ◌++◌, List, map, take}
use Rattle.wit_arena.proofs.Common.{Address, Used}
use Rattle.wit_scopes.specs.BorrowedNames.{source_view, name_view, IsPlaced, AreNamesPlaced}
use Rattle.wit_scopes.proofs.scope_name.add_used_names.Given as goal

abbrev pub invariant-loop-name : goal.invariant-loop-name
invariant-loop-name l = record {
  names : map name_view l.names.items ≡ map name_view l.fn.names.items ++ map (Used (source_view l.from) l.attributes) (take l.name-index l.used);
  placed : (prefix : List Address) → IsPlaced prefix l.from → AreNamesPlaced prefix l.fn.names.items → AreNamesPlaced prefix l.names.items;
}
