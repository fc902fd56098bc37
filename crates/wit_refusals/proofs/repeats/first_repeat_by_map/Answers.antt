use Rattle.std.proofs.Common.{◌≡◌, map, take, subst, sym, ◌∙◌, arith}
use Rattle.wit_syntax.proofs.Common.{AllDiffer, length-map, take_all}
use Rattle.wit_refusals.proofs.Seeing.{placed_differ, seen-again, seen-next}
use Rattle.wit_refusals.proofs.repeats.first_repeat_by_map.Goals as goal

pub returns-in-Some-clause-some : goal.returns-in-Some-clause-some
returns-in-Some-clause-some c = seen-again c.args.texts.now _ c.loop-place.place c.in-Some.earlier _ c.loop-place.invariant (omega arith) (sym c.in-Some.is ∙ c.in_ok-earlier.ensures.found)

pub returns-in-Some-clause-first : goal.returns-in-Some-clause-first
returns-in-Some-clause-first c = placed_differ _ _ c.loop-place.invariant

pub loop-place-preserved : goal.loop-place-preserved
loop-place-preserved c = seen-next c.args.texts.now _ _ c.loop-place.place _ c.loop-place.invariant (omega arith) (sym c.in_default.is ∙ c.in_ok-earlier.ensures.found) c.in_ok-earlier.ensures.noted

pub returns-clause-none : goal.returns-clause-none
returns-clause-none c =
    let texts = map (λ t. t.now) c.args.texts.now in
    let ended = c.loop-place-test.false in
    let whole : take c.loop-place.place texts ≡ texts = take_all c.loop-place.place texts (omega (arith, length-map c.args.texts.now (λ t. t.now))) in
    subst AllDiffer whole (placed_differ _ _ c.loop-place.invariant)
