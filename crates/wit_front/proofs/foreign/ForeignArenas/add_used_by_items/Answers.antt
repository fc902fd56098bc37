use Rattle.std.proofs.Common.{◌≡◌, ◌+◌, ◌++◌, List, [], ◌∷◌, take, sym, ap, ◌∙◌, subst, arith, append_assoc}
use Rattle.wit_items.proofs.Common.{ForeignUse, IsItemPlaced, flat_map, foreign_items, interfaces_differ, take_all, take_more}
use Rattle.wit_items.specs.declared.items.Item.{Item}
use Rattle.wit_top_names.proofs.Lost.{flat_more}
use Rattle.wit_front.specs.ForeignPrefix.{AreAdded, addresses_among, borrowed_foreign_uses}
use Rattle.wit_front.proofs.ForeignUses.{all-foreign_uses, items_placed}
use Rattle.wit_front.proofs.ForeignName.{prefix_used}
use Rattle.wit_front.proofs.foreign.ForeignArenas.add_used_by_items.Goals as goal

pub add_used_by_item-requires : goal.add_used_by_item-requires
add_used_by_item-requires c =
    let i = c.loop-item.item-index in
    let x = c.item-item.result in
    let had = c.requires in
    let own : IsItemPlaced (addresses_among had.vs) x = subst (IsItemPlaced (addresses_among had.vs)) (sym c.item-item.is) (had.placed i x c.loop-item-test.true) in
    record { vs = had.vs; ts = had.ts ++ flat_map borrowed_foreign_uses (take i c.args.items.now); apart = had.apart; in_use = c.loop-item.invariant had.vs had.ts had.apart had.placed had.in_use; placed = own }

pub loop-item-preserved : goal.loop-item-preserved
loop-item-preserved c = λ vs ts apart placed before. (
    let xs = c.args.items.now in
    let i = c.loop-item.item-index in
    let x = c.item-item.result in
    let own : IsItemPlaced (addresses_among vs) x = subst (IsItemPlaced (addresses_among vs)) (sym c.item-item.is) (placed i x c.loop-item-test.true) in
    let more : take (i + 1) xs ≡ take i xs ++ x ∷ [] = take_more xs i x c.loop-item-test.true ∙ ap (λ (y : Item). take i xs ++ y ∷ []) (sym c.item-item.is) in
    let prefix = flat_map borrowed_foreign_uses (take i xs) in
    let next = c.in_ok-add_used_by_item.ensures vs (ts ++ prefix) apart own (c.loop-item.invariant vs ts apart placed before) in
    let extended : ts ++ flat_map borrowed_foreign_uses (take (i + 1) xs) ≡ (ts ++ prefix) ++ borrowed_foreign_uses x = ap (λ (l : List ForeignUse). ts ++ l) (flat_more borrowed_foreign_uses (take i xs) (take (i + 1) xs) x more) ∙ sym (append_assoc ts prefix (borrowed_foreign_uses x)) in
    subst (λ (l : List ForeignUse). AreAdded vs l c.add_used_by_item.new.types c.add_used_by_item.new.arenas) (sym extended) next)

pub returns : goal.returns
returns c = λ files before are all. (
    let xs = c.args.items.now in
    let i = c.loop-item.item-index in
    let whole : take i xs ≡ xs = take_all i xs (omega arith) in
    let added = c.loop-item.invariant (foreign_items files) [] (interfaces_differ files) (items_placed files xs are) before in
    let foreign_uses = ap (flat_map borrowed_foreign_uses) whole ∙ all-foreign_uses files xs are all in
    prefix_used files c.loop-item.types c.loop-item.arenas (subst (λ (l : List ForeignUse). AreAdded (foreign_items files) l c.loop-item.types c.loop-item.arenas) foreign_uses added))
