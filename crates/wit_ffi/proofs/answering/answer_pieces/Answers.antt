use Rattle.std.proofs.Common.{Bor, List, ℕ, map}
use Rattle.wit_bundle.specs.Apart.{pairs_of}
use Rattle.wit_outcome.proofs.Finding.{mapped}
use Rattle.wit_ffi.proofs.answering.answer_pieces.Goals as goal

pub returns-in-Ok : goal.returns-in-Ok
returns-in-Ok c =
    let parts : List (List ℕ × List ℕ) = pairs_of (map (λ (p : Bor (List ℕ)). p.now) c.args.pieces.now) in
    let made = c.sources_of_pieces.ensures in
    c.answer_outcome.ensures parts (c.in-Ok.ensures parts (mapped parts c.sources_of_pieces.result made.laid made.fits made.too_large))
