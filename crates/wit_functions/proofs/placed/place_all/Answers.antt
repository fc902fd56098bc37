use Rattle.std.proofs.Common.{rules, ◌≡◌, ◌++◌, [], ap, ◌∙◌, sym}
use Rattle.std.specs.BTreeMap.{get_by_text}
use Rattle.std.specs.Vec.Iter.{into_iter_items}
use Rattle.std.proofs.lemmas.List.{append-nil, nil_from_length}
use Rattle.wit_functions.specs.Parted.{served}
use Rattle.wit_functions.proofs.Serving.{served_next}
use Rattle.wit_functions.proofs.placed.place_all.Goals as goal

pub loop-item-preserved : goal.loop-item-preserved
loop-item-preserved g c =
    let waits = get_by_text c.loop-item.waiting in
    let placed = c.loop-item.placed.items in
    served_next g.T.MaybeFunction.function_at waits (get_by_text c.place.new.waiting) placed c.place.new.placed.items c.in-Some.item (into_iter_items c.next.new.self) c.in_ok-place.ensures.placed c.in_ok-place.ensures.left
    ∙ ap (λ l. placed ++ served g.T.MaybeFunction.function_at waits l) (sym c.in-Some.ensures.steps.0)
    ∙ c.loop-item.invariant

pub returns : goal.returns
returns g c =
    let left = into_iter_items c.loop-item.item-iterator in
    let placed = c.loop-item.placed.items in
    let over = c.in-None.ensures.steps in
    let none : left ≡ [] = nil_from_length left (search rules) in
    sym (append-nil placed) ∙ ap (λ l. placed ++ served g.T.MaybeFunction.function_at (get_by_text c.loop-item.waiting) l) (sym none) ∙ c.loop-item.invariant
