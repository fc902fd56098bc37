use Rattle.wit_arena.proofs.Common.{err_from_is_err_and}
use Rattle.wit_first.specs.UseFaults.{path_fault}
use Rattle.wit_first.proofs.First.{finds_back, reports_prefix}
use Rattle.wit_files.specs.FileNames.{top_at}
use Rattle.wit_items.proofs.part_names.sound_source.Goals as goal
use Rattle.std.proofs.Common.{None}

pub returns-in_err-check_metadata-clause-first : goal.returns-in_err-check_metadata-clause-first
returns-in_err-check_metadata-clause-first c =
    let p = err_from_is_err_and c.from_residual.result c.from_residual.ensures.1 in
    let files = c.args.files.now in
    rw (p.1, p.2) (reports_prefix (path_fault files (top_at files c.args.place) c.args.used.now.from None) (rw c.deref.ensures.value at c.in_err-check_metadata.ensures))

pub returns-clause-first : goal.returns-clause-first
returns-clause-first c = finds_back _ c.path_source.result (rw c.deref.ensures.value at c.in_ok-check_metadata.ensures) c.path_source.ensures.first
