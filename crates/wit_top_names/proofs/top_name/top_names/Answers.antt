use Rattle.std.proofs.Common.{◌≡◌, ◌+◌, ◌++◌, List, ◌∷◌, [], map, take, sym, ap, ◌∙◌}
use Rattle.wit_syntax.proofs.Common.{AstItem, TopName, map-append, take_all, take_more, top_name}
use Rattle.wit_top_names.specs.Tops.{top_view}
use Rattle.wit_top_names.proofs.top_name.top_names.Goals as goal

pub loop-item-preserved : goal.loop-item-preserved
loop-item-preserved c =
    let items = c.args.items.now in
    let i = c.loop-item.item-index in
    let item = c.item-item.result in
    let out = c.loop-item.names.items in
    let more : take (i + 1) items ≡ take i items ++ item ∷ [] = take_more items i item c.loop-item-test.true ∙ ap (λ x. take i items ++ x ∷ []) (sym c.item-item.is) in
    ap (map top_view) c.in_ok-push.ensures.items ∙ map-append top_view out (c.top_name.result ∷ []) ∙ ap (λ (t : TopName). map top_view out ++ t ∷ []) c.top_name.ensures ∙ ap (λ (l : List TopName). l ++ top_name item ∷ []) c.loop-item.invariant ∙ sym (ap (map top_name) more ∙ map-append top_name (take i items) (item ∷ []))

pub returns : goal.returns
returns c = c.loop-item.invariant ∙ ap (λ (l : List AstItem). map top_name l) (take_all c.loop-item.item-index c.args.items.now c.loop-item-test.false)
