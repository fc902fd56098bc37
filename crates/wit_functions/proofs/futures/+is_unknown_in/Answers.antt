use Rattle.std.proofs.Common.{arith, ap, ◌≡◌, ◌||◌, ◌∙◌, sym, false}
use Rattle.std.specs.List.{list_any}
use Rattle.wit_functions.specs.Futures.{has_unknown, is_unknown}
use Rattle.wit_types.specs.InnerTypes.{places_to, slots}
use Rattle.std.proofs.lemmas.Option.{slice_get_within}
use Rattle.wit_functions.proofs.Walk.{list_any-found, list_any_one_more, slot_below, unknown_found, unknown_missing}
use Rattle.wit_functions.proofs.futures.+is_unknown_in.Goals as goal

pub is_unknown_in-requires : goal.is_unknown_in-requires
is_unknown_in-requires t c =
    let low = slot_below c.args.types.now c.in-Some.id c.get.result.now c.loop-place.place c.slot.result c.requires c.get.ensures c.slot.ensures in
    let high = ap places_to (sym c.place_of_slot.ensures ∙ c.in-Some.is) in
    (omega (arith, low, high, c.decreases), c.requires)

pub returns-then-is_unknown_in : goal.returns-then-is_unknown_in
returns-then-is_unknown_in t c = λ n g_h.
    let inside = slice_get_within c.args.types.now c.in-Some.id c.get.result.now c.get.ensures in
    let rank_is = ap places_to (sym c.place_of_slot.ensures ∙ c.in-Some.is) in
    let h = g_h (omega (arith, rank_is, inside)) in
    let low = slot_below c.args.types.now c.in-Some.id c.get.result.now c.loop-place.place c.slot.result c.requires c.get.ensures c.slot.ensures in
    let high = ap places_to (sym c.place_of_slot.ensures ∙ c.in-Some.is) in
    let plain : is_unknown c.get.result.now.kind ≡ false = sym c.is_unknown.ensures ∙ c.if-is_unknown.false in
    unknown_found c.args.types.now c.args.in_slot c.in-Some.id c.get.result.now (sym c.place_of_slot.ensures ∙ c.in-Some.is) c.get.ensures n h (λ m g.
    let hit = list_any-found (has_unknown c.args.types.now m) (slots c.get.result.now.kind) c.loop-place.place c.slot.result c.slot.ensures (sym (c.is_unknown_in.ensures m (λ _. omega (arith, low, high, g))) ∙ c.if-is_unknown_in.true) in
    ap (λ b. b || list_any (has_unknown c.args.types.now m) (slots c.get.result.now.kind)) plain ∙ hit)

pub loop-place-preserved : goal.loop-place-preserved
loop-place-preserved t c = λ n h.
    let low = slot_below c.args.types.now c.in-Some.id c.get.result.now c.loop-place.place c.slot.result c.requires c.get.ensures c.slot.ensures in
    let high = ap places_to (sym c.place_of_slot.ensures ∙ c.in-Some.is) in
    list_any_one_more (has_unknown c.args.types.now n) (slots c.get.result.now.kind) c.loop-place.place c.slot.result c.slot.ensures (c.loop-place.invariant n h) (sym (c.is_unknown_in.ensures n (λ _. omega (arith, low, high, h))) ∙ c.if-is_unknown_in.false)

pub returns : goal.returns
returns t c = λ n g_h.
    let inside = slice_get_within c.args.types.now c.in-Some.id c.get.result.now c.get.ensures in
    let rank_is = ap places_to (sym c.place_of_slot.ensures ∙ c.in-Some.is) in
    let h = g_h (omega (arith, rank_is, inside)) in
    unknown_missing c.args.types.now c.args.in_slot c.in-Some.id c.get.result.now (sym c.place_of_slot.ensures ∙ c.in-Some.is) c.get.ensures n c.loop-place.place h (omega (arith, c.loop-place-test.false, c.slot_count-place-end.ensures)) (sym c.is_unknown.ensures ∙ c.if-is_unknown.false) c.loop-place.invariant
