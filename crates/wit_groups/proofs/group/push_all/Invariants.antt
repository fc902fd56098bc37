use Rattle.std.proofs.Common.{map, take}
use Rattle.wit_groups.specs.Groups.{AreUsed}
use Rattle.wit_groups.proofs.group.push_all.Given as goal

abbrev pub invariant-loop-source : goal.invariant-loop-source
invariant-loop-source l = AreUsed (map (λ s. s.now) (take l.source-index l.turn)) l.resolver.main.files.items l.resolver.nested.items
