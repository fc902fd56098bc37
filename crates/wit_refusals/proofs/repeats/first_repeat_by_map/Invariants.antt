use Rattle.std.proofs.Common.{map, take}
use Rattle.wit_refusals.specs.Lent.{place_of}
use Rattle.wit_refusals.proofs.Seeing.{ArePlaced}
use Rattle.wit_refusals.proofs.repeats.first_repeat_by_map.Given as goal

abbrev pub invariant-loop-place : goal.invariant-loop-place
invariant-loop-place l = ArePlaced (take l.place (map (λ t. t.now) l.texts)) (place_of l.seen)
