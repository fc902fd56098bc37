use Rattle.std.proofs.Common.{length, map}
use Rattle.wit_bundle.proofs.Pairing.{ArePaired}
use Rattle.wit_bundle.proofs.apart.sources_of_pieces.Given as goal

abbrev pub invariant-loop-rest : goal.invariant-loop-rest
invariant-loop-rest l = ArePaired (map (λ p. p.now) l.pieces) (map (λ p. p.now) l.rest) l.map.sources.items

abbrev pub decreases-loop-rest : goal.decreases-loop-rest
decreases-loop-rest l = length l.rest
