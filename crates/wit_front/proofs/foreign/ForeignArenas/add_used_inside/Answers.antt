use Rattle.std.proofs.Common.{◌≡◌, ◌+◌, ◌++◌, List, [], ◌∷◌, take, sym, ap, ◌∙◌, subst, append_assoc}
use Rattle.wit_items.proofs.Common.{AreNamesPlaced, ForeignUse, take_all, take_more}
use Rattle.wit_items.specs.BorrowedItems.{Inside}
use Rattle.wit_top_names.proofs.Lost.{flat_more}
use Rattle.wit_front.specs.ForeignPrefix.{AreAdded, addresses_among, inside_uses, names_foreign_uses}
use Rattle.wit_front.proofs.foreign.ForeignArenas.add_used_inside.Goals as goal

pub add_used_by_names-requires : goal.add_used_by_names-requires
add_used_by_names-requires c =
    let had = c.requires in
    let i = c.loop-interface.interface-index in
    let x = c.interface-item.result in
    let own : AreNamesPlaced (addresses_among had.vs) x.names.items = subst (λ (n : Inside). AreNamesPlaced (addresses_among had.vs) n.names.items) (sym c.interface-item.is) (had.placed i x c.loop-interface-test.true) in
    record { vs = had.vs; ts = had.ts ++ inside_uses (take i c.args.inside.now); apart = had.apart; in_use = c.loop-interface.invariant had.vs had.ts had.apart had.placed had.in_use; placed = rw c.deref.ensures.value own }

pub loop-interface-preserved : goal.loop-interface-preserved
loop-interface-preserved c = λ vs ts apart placed before. (
    let xs = c.args.inside.now in
    let i = c.loop-interface.interface-index in
    let x = c.interface-item.result in
    let prefix = inside_uses (take i xs) in
    let own : AreNamesPlaced (addresses_among vs) x.names.items = subst (λ (n : Inside). AreNamesPlaced (addresses_among vs) n.names.items) (sym c.interface-item.is) (placed i x c.loop-interface-test.true) in
    let more : take (i + 1) xs ≡ take i xs ++ x ∷ [] = take_more xs i x c.loop-interface-test.true ∙ ap (λ (y : Inside). take i xs ++ y ∷ []) (sym c.interface-item.is) in
    let next = (rw c.deref.ensures.value at c.in_ok-add_used_by_names.ensures) vs (ts ++ prefix) apart own (c.loop-interface.invariant vs ts apart placed before) in
    let extended : ts ++ inside_uses (take (i + 1) xs) ≡ (ts ++ prefix) ++ names_foreign_uses x.names.items = ap (λ (l : List ForeignUse). ts ++ l) (flat_more (λ (n : Inside). names_foreign_uses n.names.items) (take i xs) (take (i + 1) xs) x more) ∙ sym (append_assoc ts prefix (names_foreign_uses x.names.items)) in
    subst (λ (l : List ForeignUse). AreAdded vs l c.add_used_by_names.new.types c.add_used_by_names.new.arenas) (sym extended) next)

pub returns : goal.returns
returns c = λ vs ts apart placed before. subst (λ (l : List Inside). AreAdded vs (ts ++ inside_uses l) c.loop-interface.types c.loop-interface.arenas) (take_all c.loop-interface.interface-index c.args.inside.now c.loop-interface-test.false) (c.loop-interface.invariant vs ts apart placed before)
