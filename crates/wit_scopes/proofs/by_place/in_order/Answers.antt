use Rattle.std.proofs.Common.{◌≡◌, ◌<◌, ◌++◌, ◌∷◌, [], Some, length, get_or, ap, sym, ◌∙◌}
use Rattle.wit_arena.proofs.Common.{in_order, in_order-more, slice_get, slice_get-get_or, take_all}
use Rattle.wit_scopes.proofs.by_place.in_order.Goals as goal

pub loop-place-preserved : goal.loop-place-preserved
loop-place-preserved g c =
    let places = c.args.places.now in
    let items = c.args.items.now in
    let i = c.loop-place.place-index in
    let p = get_or places i 0 in
    let x = c.index-items-place.result in
    let at : slice_get places i ≡ Some p = slice_get-get_or places i 0 c.loop-place-test.true in
    let within : p < length items = c.requires i 0 c.loop-place-test.true in
    let there : slice_get items p ≡ Some x = slice_get-get_or items p x within ∙ ap Some (sym c.index-items-place.is) in
    c.in_ok-push.ensures.items ∙ ap (λ l. l ++ x ∷ []) c.loop-place.invariant ∙ sym (in_order-more items places i p x at there)

pub returns : goal.returns
returns g c = c.loop-place.invariant ∙ ap (in_order c.args.items.now) (take_all c.loop-place.place-index c.args.places.now c.loop-place-test.false)
