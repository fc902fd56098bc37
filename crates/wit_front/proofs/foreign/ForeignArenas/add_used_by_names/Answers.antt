use Rattle.std.proofs.Common.{◌≡◌, ◌+◌, ◌++◌, List, [], ◌∷◌, Some, map, take, sym, ap, ◌∙◌, subst}
use Rattle.wit_items.proofs.Common.{Borrowed as ScopeName, ForeignUse, flat_map, name_view, slice_get, slice_get-get_or, take_all, take_more}
use Rattle.wit_front.specs.ForeignPrefix.{AreAdded, name_foreign_uses}
use Rattle.wit_front.proofs.ForeignName.{foreign_uses-next}
use Rattle.wit_front.proofs.foreign.ForeignArenas.add_used_by_names.Goals as goal

pub loop-name-preserved : goal.loop-name-preserved
loop-name-preserved c = λ vs ts apart placed before. (
    let xs = c.args.names.now in
    let i = c.loop-name.name-index in
    let x = c.name-item.result in
    let more : take (i + 1) xs ≡ take i xs ++ x ∷ [] = take_more xs i x c.loop-name-test.true ∙ ap (λ (y : ScopeName). take i xs ++ y ∷ []) (sym c.name-item.is) in
    let at : slice_get xs i ≡ Some x = slice_get-get_or xs i x c.loop-name-test.true ∙ ap Some (sym c.name-item.is) in
    let next = c.in_ok-add_used_by_name.ensures vs (ts ++ flat_map name_foreign_uses (map name_view (take i xs))) apart (placed.each i x at) (c.loop-name.invariant vs ts apart placed before) in
    let extended : ts ++ flat_map name_foreign_uses (map name_view (take (i + 1) xs)) ≡ (ts ++ flat_map name_foreign_uses (map name_view (take i xs))) ++ name_foreign_uses (name_view x) = ap (λ (l : List ScopeName). ts ++ flat_map name_foreign_uses (map name_view l)) more ∙ foreign_uses-next name_foreign_uses name_view ts (take i xs) x in
    subst (λ (l : List ForeignUse). AreAdded vs l c.add_used_by_name.new.types c.add_used_by_name.new.arenas) (sym extended) next)

pub returns : goal.returns
returns c = λ vs ts apart placed before. subst (λ (l : List ScopeName). AreAdded vs (ts ++ flat_map name_foreign_uses (map name_view l)) c.loop-name.types c.loop-name.arenas) (take_all c.loop-name.name-index c.args.names.now c.loop-name-test.false) (c.loop-name.invariant vs ts apart placed before)
