use Rattle.std.proofs.Common.{◌≡◌, Some, sym, ap, ◌∙◌}
use Rattle.wit_syntax.proofs.Common.{PackageFile, all_items, err_from_is_err_and, slice_get, slice_get-get_or}
use Rattle.wit_first.proofs.First.{in-all, in-next, reports-in}
use Rattle.wit_files.proofs.tables.Tables.check_tops.Goals as goal
use Rattle.wit_first.specs.First.{first_in}
use Rattle.wit_first.specs.FileFaults.{top_fault}

pub returns-in_err-check_top : goal.returns-in_err-check_top
returns-in_err-check_top c =
    let q = err_from_is_err_and c.from_residual.result c.from_residual.ensures.1 in
    let files = c.args.files.now in
    let i = c.loop-file.file-index in
    let file = c.file-item.result in
    let at : slice_get files i ≡ Some file = slice_get-get_or files i file c.loop-file-test.true ∙ ap Some (sym c.file-item.is) in
    rw (q.1, q.2) (reports-in (λ (file : PackageFile). first_in (top_fault (all_items files)) file.decl_list.items.items) files i file _ at c.loop-file.invariant (c.in_err-check_top.ensures files c.requires))

pub loop-file-preserved : goal.loop-file-preserved
loop-file-preserved c =
    let files = c.args.files.now in
    in-next (λ (file : PackageFile). first_in (top_fault (all_items files)) file.decl_list.items.items) files c.loop-file.file-index c.file-item.result c.loop-file-test.true c.file-item.is c.loop-file.invariant (c.in_ok-check_top.ensures files c.requires)

pub returns : goal.returns
returns c =
    let files = c.args.files.now in
    in-all (λ (file : PackageFile). first_in (top_fault (all_items files)) file.decl_list.items.items) files c.loop-file.file-index c.loop-file-test.false c.loop-file.invariant
