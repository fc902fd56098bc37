use Rattle.std.proofs.Common.{Bor, List, ℕ, [], ◌∷◌, ◌∙◌, ap, arith, map, subst, sym}
use Rattle.std.specs.Prelude.{IsUtf8}
use Rattle.std.proofs.lemmas.List.{map-append}
use Rattle.wit_bundle.proofs.Pieces.{cut_on, length_at, no_text, too_long, too_short}
use Rattle.wit_bundle.proofs.apart.pieces_of.Goals as goal

pub returns-then-rest-len : goal.returns-then-rest-len
returns-then-rest-len c = too_short _ _ _ _ _ _ c.loop-len.invariant (length_at c.args.lens.now c.loop-len.len-index c.loop-len-test.true) c.if-rest-len.true

pub returns-in-Err : goal.returns-in-Err
returns-in-Err c = no_text _ _ _ _ _ _ c.loop-len.invariant (length_at c.args.lens.now c.loop-len.len-index c.loop-len-test.true) (λ text. c.in-Err.ensures.cases.0 (subst IsUtf8 (sym c.split_at.ensures.front) text))

pub loop-len-preserved : goal.loop-len-preserved
loop-len-preserved c =
    cut_on _ _ _ _ _ _ _ _ _ _ c.loop-len.invariant (length_at c.args.lens.now c.loop-len.len-index c.loop-len-test.true) (omega arith) c.split_at.ensures.front c.split_at.ensures.back c.in-Ok.ensures.cases.0 c.in-Ok.ensures.cases.1
    (ap (map (λ (p : Bor (List ℕ)). p.now)) c.in_ok-push-in-Ok.ensures.items ∙ map-append (λ (p : Bor (List ℕ)). p.now) c.loop-len.pieces.items (c.in-Ok.text ∷ []))

pub returns : goal.returns
returns c = too_long _ _ _ _ _ c.loop-len.invariant (omega arith) (omega arith)
