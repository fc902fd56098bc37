use Rattle.std.proofs.Common.{◌≡◌, ◌+◌, ◌++◌, List, ◌∷◌, [], map, take, sym, ap, ◌∙◌}
use Rattle.wit_syntax.proofs.Common.{PackageFile, TopName, all_items, file_items, map-append, take_all, take_more}
use Rattle.wit_top_names.specs.Tops.{item_top}
use Rattle.wit_top_names.proofs.Lost.{flat_more}
use Rattle.wit_top_names.proofs.top_name.declared_names.Goals as goal

pub loop-file-preserved : goal.loop-file-preserved
loop-file-preserved c =
    let files = c.args.files.now in
    let i = c.loop-file.file-index in
    let file = c.file-item.result in
    let before = all_items (take i files) in
    let more : take (i + 1) files ≡ take i files ++ file ∷ [] = take_more files i file c.loop-file-test.true ∙ ap (λ x. take i files ++ x ∷ []) (sym c.file-item.is) in
    let extended : all_items (take (i + 1) files) ≡ before ++ file_items file = flat_more file_items (take i files) (take (i + 1) files) file more in
    c.in_ok-add_declared.ensures ∙ ap (λ (l : List TopName). l ++ map item_top (file_items file)) c.loop-file.invariant ∙ sym (map-append item_top before (file_items file)) ∙ ap (map item_top) (sym extended)

pub returns : goal.returns
returns c = c.loop-file.invariant ∙ ap (λ (l : List PackageFile). map item_top (all_items l)) (take_all c.loop-file.file-index c.args.files.now c.loop-file-test.false)
