use Rattle.std.proofs.Common.{map}
use Rattle.wit_bundle.proofs.Pieces.{AreCut}
use Rattle.wit_bundle.proofs.apart.pieces_of.Given as goal

abbrev pub invariant-loop-len : goal.invariant-loop-len
invariant-loop-len l = AreCut l.bytes l.lens (map (λ p. p.now) l.pieces.items) l.rest l.len-index
