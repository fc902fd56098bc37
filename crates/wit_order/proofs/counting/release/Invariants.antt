use Rattle.std.proofs.Common.{take}
use Rattle.wit_order.specs.Released.{IsReleased}
use Rattle.wit_order.proofs.counting.release.Given as goal

abbrev pub invariant-loop-user : goal.invariant-loop-user
invariant-loop-user l = IsReleased (take l.user-index l.users) l.initial.ready l.ready
