use Rattle.std.proofs.Common.{◌≡◌, ◌+◌, ◌++◌, ◌∷◌, [], List, take, sym, ap, ◌∙◌}
use Rattle.wit_arena.proofs.Common.{Field, append-nil, field_types, map-append, take_all, take_more}
use Rattle.wit_scopes.proofs.Placed.{type_words, words_more}
use Rattle.wit_scopes.proofs.written_names.collect_field_deps.Goals as goal

pub loop-field-preserved : goal.loop-field-preserved
loop-field-preserved c =
    let fs = c.args.fields.now in
    let i = c.loop-field.field-index in
    let f = c.field-item.result in
    let in_use : take (i + 1) fs ≡ take i fs ++ f ∷ [] = take_more fs i f c.loop-field-test.true ∙ ap (λ x. take i fs ++ x ∷ []) (sym c.field-item.is) in
    let more : field_types (take (i + 1) fs) ≡ field_types (take i fs) ++ f.ty ∷ [] = ap field_types in_use ∙ map-append (λ x. x.ty) (take i fs) (f ∷ []) in
    words_more c.args.deps.now.items _ _ (field_types (take i fs)) (field_types (take (i + 1) fs)) f.ty more c.loop-field.invariant c.in_ok-collect_deps.ensures

pub loop-field-init : goal.loop-field-init
loop-field-init c = sym (append-nil c.args.deps.now.items)

pub returns : goal.returns
returns c = c.loop-field.invariant ∙ ap (λ (l : List Field). c.args.deps.now.items ++ type_words (field_types l)) (take_all c.loop-field.field-index c.args.fields.now c.loop-field-test.false)
