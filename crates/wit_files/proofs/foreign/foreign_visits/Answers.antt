use Rattle.std.proofs.Common.{[], refl}
use Rattle.wit_files.proofs.Added.{added_all, added_next}
use Rattle.wit_files.proofs.foreign.foreign_visits.Goals as goal
use Rattle.wit_syntax.proofs.Common.{PackageFile, declaration_visits, flat_map}

pub loop-file-preserved : goal.loop-file-preserved
loop-file-preserved c = added_next (λ (f : PackageFile). flat_map declaration_visits f.decl_list.items.items) [] _ _ c.args.files.now c.loop-file.file-index c.file-item.result c.loop-file-test.true c.file-item.is c.loop-file.invariant c.in_ok-add_visits.ensures

pub returns : goal.returns
returns c = added_all (λ (f : PackageFile). flat_map declaration_visits f.decl_list.items.items) [] _ c.args.files.now c.args.files.now c.loop-file.file-index c.loop-file.invariant c.loop-file-test.false refl
