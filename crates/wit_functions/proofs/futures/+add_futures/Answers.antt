use Rattle.std.proofs.Common.{arith, ap, refl, ◌≡◌, ◌∙◌, ◌++◌, sym, []}
use Rattle.std.proofs.lemmas.List.{append-nil}
use Rattle.wit_functions.specs.Futures.{futures, is_awaited, itself}
use Rattle.wit_types.specs.InnerTypes.{places_to, slots}
use Rattle.std.proofs.lemmas.Option.{slice_get_within}
use Rattle.wit_functions.proofs.Walk.{flat_map_one_more, futures_whole, slot_below}
use Rattle.wit_functions.proofs.futures.+add_futures.Goals as goal

pub add_futures-requires : goal.add_futures-requires
add_futures-requires t c =
    let low = slot_below c.args.types.now c.in-Some.id c.get.result.now c.loop-place.place c.slot.result c.requires c.get.ensures c.slot.ensures in
    let high = ap places_to (sym c.place_of_slot.ensures ∙ c.in-Some.is) in
    (omega (arith, low, high, c.decreases), c.requires)

pub loop-place-preserved : goal.loop-place-preserved
loop-place-preserved t c = λ n h.
    let low = slot_below c.args.types.now c.in-Some.id c.get.result.now c.loop-place.place c.slot.result c.requires c.get.ensures c.slot.ensures in
    let high = ap places_to (sym c.place_of_slot.ensures ∙ c.in-Some.is) in
    flat_map_one_more (futures c.args.types.now n) (slots c.get.result.now.kind) c.loop-place.place c.slot.result _ _ _ c.slot.ensures (c.loop-place.invariant n h) (c.in_ok-add_futures.ensures n (λ _. omega (arith, low, high, h)))

pub returns-in_ok-push : goal.returns-in_ok-push
returns-in_ok-push t c = λ n g_h.
    let inside = slice_get_within c.args.types.now c.in-Some.id c.get.result.now c.get.ensures in
    let rank_is = ap places_to (sym c.place_of_slot.ensures ∙ c.in-Some.is) in
    let h = g_h (omega (arith, rank_is, inside)) in
    let last : itself (is_awaited c.get.result.now.kind) c.in-Some.id ≡ _ = rw (← c.is_awaited.ensures, c.if-is_awaited.true) refl in
    futures_whole c.args.types.now c.args.in_slot c.in-Some.id c.get.result.now (sym c.place_of_slot.ensures ∙ c.in-Some.is) c.get.ensures n c.loop-place.place c.args.out.now.items c.loop-place.out.items c.push.new.self.items h (omega (arith, c.loop-place-test.false, c.slot_count-place-end.ensures)) c.loop-place.invariant (c.in_ok-push.ensures.items ∙ ap (λ l. c.loop-place.out.items ++ l) (sym last))

pub returns-else-is_awaited : goal.returns-else-is_awaited
returns-else-is_awaited t c = λ n g_h.
    let inside = slice_get_within c.args.types.now c.in-Some.id c.get.result.now c.get.ensures in
    let rank_is = ap places_to (sym c.place_of_slot.ensures ∙ c.in-Some.is) in
    let h = g_h (omega (arith, rank_is, inside)) in
    let last : itself (is_awaited c.get.result.now.kind) c.in-Some.id ≡ [] = rw (← c.is_awaited.ensures, c.if-is_awaited.false) refl in
    futures_whole c.args.types.now c.args.in_slot c.in-Some.id c.get.result.now (sym c.place_of_slot.ensures ∙ c.in-Some.is) c.get.ensures n c.loop-place.place c.args.out.now.items c.loop-place.out.items _ h (omega (arith, c.loop-place-test.false, c.slot_count-place-end.ensures)) c.loop-place.invariant (sym (ap (λ l. c.loop-place.out.items ++ l) last ∙ append-nil c.loop-place.out.items))
