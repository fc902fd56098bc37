use Rattle.std.proofs.Common.{◌≡◌, map, take}
use Rattle.wit_bundle.proofs.path_order.by_path.Given as goal

abbrev pub invariant-loop-source : goal.invariant-loop-source
invariant-loop-source l = map (λ s. s.now) l.turn.items ≡ take l.source-index l.sources
