use Rattle.std.proofs.Common.{◌≡◌, ◌+◌, ◌++◌, ◌∷◌, [], Some, map, take, sym, ap, ◌∙◌}
use Rattle.wit_syntax.proofs.Common.{all_items, err_from_is_err_and, file_items, is_world, item_row, map-append, rows, slice_get, slice_get-get_or, take_more}
use Rattle.wit_first.specs.FileFaults.{file_fault}
use Rattle.wit_first.proofs.First.{in-all, in-next, reports-in}
use Rattle.wit_top_names.proofs.Lost.{flat_more}
use Rattle.wit_files.proofs.Gathering.{fresh_file, tops_added}
use Rattle.wit_files.proofs.tables.Tables.add_files.Goals as goal

pub returns-in_err-add_file-clause-first : goal.returns-in_err-add_file-clause-first
returns-in_err-add_file-clause-first c =
    let p = err_from_is_err_and c.from_residual.result c.from_residual.ensures.1 in
    let files = c.args.files.now in
    let i = c.loop-file.file-index in
    let file = c.file-item.result in
    let at : slice_get files i ≡ Some file = slice_get-get_or files i file c.loop-file-test.true ∙ ap Some (sym c.file-item.is) in
    rw (p.1, p.2) (reports-in (file_fault (all_items files)) files i file _ at c.loop-file.invariant.none (c.in_err-add_file.ensures.first (all_items files) c.requires.declared))

pub add_file-requires : goal.add_file-requires
add_file-requires c =
    let files = c.args.files.now in
    let i = c.loop-file.file-index in
    let file = c.file-item.result in
    let at : slice_get files i ≡ Some file = slice_get-get_or files i file c.loop-file-test.true ∙ ap Some (sym c.file-item.is) in
    record { distinct = fresh_file (rows c.loop-file.names.items) files i file c.loop-file.invariant.items c.requires.distinct at }

pub loop-file-preserved : goal.loop-file-preserved
loop-file-preserved c =
    let files = c.args.files.now in
    let i = c.loop-file.file-index in
    let file = c.file-item.result in
    let before = all_items (take i files) in
    let own = file_items file in
    let was = c.loop-file.invariant in
    let e = c.in_ok-add_file.ensures in
    let more : take (i + 1) files ≡ take i files ++ file ∷ [] = take_more files i file c.loop-file-test.true ∙ ap (λ y. take i files ++ y ∷ []) (sym c.file-item.is) in
    let extended : all_items (take (i + 1) files) ≡ before ++ own = flat_more file_items (take i files) (take (i + 1) files) file more in
    record {
      items = e.items ∙ ap (λ l. l ++ map item_row own) was.items ∙ sym (map-append item_row before own) ∙ ap (map item_row) (sym extended);
      kinds = e.kinds ∙ ap (λ l. l ++ map is_world own) was.kinds ∙ sym (map-append is_world before own) ∙ ap (map is_world) (sym extended);
      tops = rw more (tops_added (take i files) file c.loop-file.names.tops.items c.add_file.new.names.tops.items was.tops e.tops);
      none = in-next (file_fault (all_items files)) files i file c.loop-file-test.true c.file-item.is was.none (e.first (all_items files) c.requires.declared);
      visits = e.visits ∙ was.visits;
      foreign = e.foreign ∙ was.foreign;
    }

pub returns-clause-first : goal.returns-clause-first
returns-clause-first c =
    let files = c.args.files.now in
    in-all (file_fault (all_items files)) files c.loop-file.file-index c.loop-file-test.false c.loop-file.invariant.none
