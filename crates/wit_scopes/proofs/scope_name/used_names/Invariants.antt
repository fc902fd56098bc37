use Rattle.std.proofs.Common.{◌≡◌, take}
use Rattle.wit_arena.proofs.Common.{flat_map}
use Rattle.wit_scopes.specs.BorrowedNames.{own_use}
use Rattle.wit_scopes.proofs.scope_name.used_names.Given as goal

abbrev pub invariant-loop-name : goal.invariant-loop-name
invariant-loop-name l = l.uses.items ≡ flat_map own_use (take l.name-index l.names)
