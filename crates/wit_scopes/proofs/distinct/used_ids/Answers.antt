use Rattle.std.proofs.Common.{◌≡◌, ◌+◌, ◌++◌, List, ◌∷◌, [], map, take, sym, ap, ◌∙◌}
use Rattle.wit_arena.proofs.Common.{Id, local_id, map-append, take_all, take_more}
use Rattle.wit_scopes.specs.BorrowedNames.{use_view}
use Rattle.wit_scopes.specs.declared.scope_name.UsedName.{UsedName}
use Rattle.wit_scopes.proofs.distinct.used_ids.Goals as goal

abbrev name_of : UsedName → Id
name_of u = local_id (use_view u)

pub loop-used-preserved : goal.loop-used-preserved
loop-used-preserved c =
    let uses = c.args.uses.now in
    let i = c.loop-used.used-index in
    let used = c.used-item.result in
    let before = map local_id (map use_view (take i uses)) in
    let more : take (i + 1) uses ≡ take i uses ++ used ∷ [] = take_more uses i used c.loop-used-test.true ∙ ap (λ x. take i uses ++ x ∷ []) (sym c.used-item.is) in
    let all : map local_id (map use_view (take (i + 1) uses)) ≡ before ++ name_of used ∷ [] = ap (λ (l : List UsedName). map local_id (map use_view l)) more ∙ ap (map local_id) (map-append use_view (take i uses) (used ∷ [])) ∙ map-append local_id (map use_view (take i uses)) (use_view used ∷ []) in
    c.in_ok-push.ensures.items ∙ ap (λ (l : List Id). l ++ c.local_of.result ∷ []) c.loop-used.invariant ∙ ap (λ (id : Id). before ++ id ∷ []) c.local_of.ensures ∙ sym all

pub returns : goal.returns
returns c = c.loop-used.invariant ∙ ap (λ (l : List UsedName). map local_id (map use_view l)) (take_all c.loop-used.used-index c.args.uses.now c.loop-used-test.false)
