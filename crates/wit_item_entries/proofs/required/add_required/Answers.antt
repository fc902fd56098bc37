use Rattle.std.proofs.Common.{◌≡◌, ◌+◌, ◌++◌, ◌∷◌, [], List, take, sym, ap, ◌∙◌, append_assoc}
use Rattle.wit_items.proofs.Common.{Required, append-nil, take_all, take_more}
use Rattle.wit_item_entries.proofs.required.add_required.Goals as goal

pub loop-one-init : goal.loop-one-init
loop-one-init c = sym (append-nil c.args.required.now.items)

pub loop-one-preserved : goal.loop-one-preserved
loop-one-preserved c =
    let old = c.args.required.now.items in
    let xs = c.args.own.now in
    let i = c.loop-one.one-index in
    let x = c.one-item.result in
    let more : take (i + 1) xs ≡ take i xs ++ x ∷ [] = take_more xs i x c.loop-one-test.true ∙ ap (λ (y : Required). take i xs ++ y ∷ []) (sym c.one-item.is) in
    c.in_ok-push.ensures.items
    ∙ ap (λ (l : List Required). l ++ x ∷ []) c.loop-one.invariant
    ∙ append_assoc old (take i xs) (x ∷ [])
    ∙ ap (λ (l : List Required). old ++ l) (sym more)

pub returns : goal.returns
returns c = c.loop-one.invariant ∙ ap (λ (l : List Required). c.args.required.now.items ++ l) (take_all c.loop-one.one-index c.args.own.now c.loop-one-test.false)
