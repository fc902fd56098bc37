use Rattle.std.proofs.Common.{◌≡◌, ◌+◌, ◌++◌, List, ◌∷◌, [], map, take, sym, ap, ◌∙◌, append_assoc}
use Rattle.wit_arena.proofs.Common.{Id, local_id, map-append, take_all, take_more}
use Rattle.wit_scopes.specs.BorrowedNames.{definition_view}
use Rattle.wit_scopes.proofs.distinct.add_definition_ids.Goals as goal

pub loop-defined-preserved : goal.loop-defined-preserved
loop-defined-preserved c =
    let ds = c.args.definitions.now in
    let i = c.loop-defined.defined-index in
    let d = c.defined-item.result in
    let old = c.args.ids.now.items in
    let own = local_id (definition_view d) in
    let more : take (i + 1) ds ≡ take i ds ++ d ∷ [] = take_more ds i d c.loop-defined-test.true ∙ ap (λ x. take i ds ++ x ∷ []) (sym c.defined-item.is) in
    let all : map local_id (map definition_view (take (i + 1) ds)) ≡ map local_id (map definition_view (take i ds)) ++ own ∷ [] = ap (map local_id) (ap (map definition_view) more ∙ map-append definition_view (take i ds) (d ∷ [])) ∙ map-append local_id (map definition_view (take i ds)) (definition_view d ∷ []) in
    c.in_ok-push.ensures.items ∙ ap (λ (l : List Id). l ++ own ∷ []) c.loop-defined.invariant ∙ append_assoc old (map local_id (map definition_view (take i ds))) (own ∷ []) ∙ ap (λ (l : List Id). old ++ l) (sym all)

pub returns : goal.returns
returns c = c.loop-defined.invariant ∙ ap (λ ds. c.args.ids.now.items ++ map local_id (map definition_view ds)) (take_all c.loop-defined.defined-index c.args.definitions.now c.loop-defined-test.false)
