use Rattle.std.proofs.Common.{◌≡◌, None, take}
use Rattle.wit_syntax.proofs.Common.{PackageFile, all_items}
use Rattle.wit_first.specs.First.{first_in}
use Rattle.wit_files.proofs.tables.Tables.check_tops.Given as goal
use Rattle.wit_first.specs.FileFaults.{top_fault}

abbrev pub invariant-loop-file : goal.invariant-loop-file
invariant-loop-file l = first_in (λ (file : PackageFile). first_in (top_fault (all_items l.files)) file.decl_list.items.items) (take l.file-index l.files) ≡ None
