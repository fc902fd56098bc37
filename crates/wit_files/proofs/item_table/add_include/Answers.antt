use Rattle.std.proofs.Common.{◌≡◌, [], ◌∷◌, sym, ap, ◌∙◌}
use Rattle.wit_syntax.proofs.Common.{UsePath, err_from_is_err_and, include_path, world_part}
use Rattle.wit_first.specs.FileFaults.{unnamed_fault}
use Rattle.wit_first.specs.First.{first_in}
use Rattle.wit_first.proofs.First.{or_none, reports_same}
use Rattle.wit_files.proofs.item_table.add_include.Goals as goal

pub returns-in_err-add_edge-in-Include-clause-first : goal.returns-in_err-add_edge-in-Include-clause-first
returns-in_err-add_edge-in-Include-clause-first c =
    let p = err_from_is_err_and c.from_residual.result c.from_residual.ensures.1 in
    let from : UsePath = c.in-Include.include.from in
    let own : include_path (world_part c.args.part.now) ≡ from ∷ [] = ap (λ x. include_path (world_part x)) c.in-Include.is in
    rw (p.1, p.2) (λ top is named all. reports_same (sym (ap (first_in (unnamed_fault is top)) own ∙ or_none (unnamed_fault is top from))) (c.in_err-add_edge-in-Include.ensures.first top is named all))
