use Rattle.std.proofs.Common.{◌≡◌, ◌+◌, ◌++◌, ◌∷◌, [], List, map, take, sym, ap, ◌∙◌, subst}
use Rattle.wit_items.proofs.Common.{ForeignVisit, foreign_view, map-append, take_all, take_more}
use Rattle.wit_files.specs.declared.foreign.ForeignVisit.{ForeignVisit as Borrowed}
use Rattle.wit_front.specs.ForeignPrefix.{AreAdded}
use Rattle.wit_front.proofs.foreign.ForeignArenas.of_items.Goals as goal

pub loop-visit-init : goal.loop-visit-init
loop-visit-init c = c.in_ok-arenas.ensures

pub loop-visit-preserved : goal.loop-visit-preserved
loop-visit-preserved c =
    let xs = c.args.items.now in
    let i = c.loop-visit.visit-index in
    let x = c.visit-item.result in
    let more : take (i + 1) xs ≡ take i xs ++ x ∷ [] = take_more xs i x c.loop-visit-test.true ∙ ap (λ (y : Borrowed). take i xs ++ y ∷ []) (sym c.visit-item.is) in
    let all : map foreign_view (take (i + 1) xs) ≡ map foreign_view (take i xs) ++ foreign_view x ∷ [] = ap (map foreign_view) more ∙ map-append foreign_view (take i xs) (x ∷ []) in
    subst (λ (l : List ForeignVisit). AreAdded l [] [] c.add.new.self) (sym all) (c.in_ok-add.ensures (map foreign_view (take i xs)) c.loop-visit.invariant)

pub returns : goal.returns
returns c = subst (λ (l : List Borrowed). AreAdded (map foreign_view l) [] [] c.loop-visit.arenas) (take_all c.loop-visit.visit-index c.args.items.now c.loop-visit-test.false) c.loop-visit.invariant
