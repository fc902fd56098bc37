use Rattle.std.proofs.Common.{Bor, List, ℕ, arith, subst, sym}
use Rattle.std.proofs.lemmas.List.{length-map}
use Rattle.wit_bundle.specs.Apart.{ArePieces, pairs_of}
use Rattle.wit_bundle.proofs.Pairing.{pairs_whole, parts_even}
use Rattle.wit_ffi.specs.Answer.IsPartsAnswer.{NoParts, Parts}
use Rattle.wit_ffi.proofs.answering.answer_even.Goals as goal

pub returns-then-pieces-eq0 : goal.returns-then-pieces-eq0
returns-then-pieces-eq0 c bytes lens are =
    let long = length-map c.args.pieces.now (λ (p : Bor (List ℕ)). p.now) in
    Parts (pairs_of _) (subst (ArePieces bytes lens) (sym (pairs_whole _ (omega (arith, long)))) are) c.answer_pieces.ensures

pub returns-else-pieces-eq0 : goal.returns-else-pieces-eq0
returns-else-pieces-eq0 c bytes lens are =
    let long = length-map c.args.pieces.now (λ (p : Bor (List ℕ)). p.now) in
    NoParts (parts_even bytes lens _ are (λ even. omega (arith, long, even))) c.bare.ensures.status c.bare.ensures.json
