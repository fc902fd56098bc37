use Rattle.std.proofs.Common.{◌≡◌, take}
use Rattle.wit_arena.proofs.Common.{in_order}
use Rattle.wit_scopes.proofs.by_place.in_order.Given as goal

abbrev pub invariant-loop-place : goal.invariant-loop-place
invariant-loop-place g l = l.ordered.items ≡ in_order l.items (take l.place-index l.places)
