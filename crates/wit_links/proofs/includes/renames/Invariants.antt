use Rattle.std.proofs.Common.{◌≡◌, map, take}
use Rattle.wit_items.proofs.Common.{renamed}
use Rattle.wit_links.proofs.includes.renames.Given as goal

abbrev pub invariant-loop-name : goal.invariant-loop-name
invariant-loop-name l = l.renames.items ≡ map renamed (take l.name-index l.names)
