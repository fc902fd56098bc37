use Rattle.std.proofs.Common.{◌++◌, map, ap, ◌∙◌}
use Rattle.wit_syntax.proofs.Common.{flat_map, take_all}
use Rattle.wit_files.specs.Visits.{visit_view}
use Rattle.wit_files.specs.ForeignPaths.{foreign_view}
use Rattle.wit_files.proofs.Added.{added_view}
use Rattle.wit_files.proofs.Others.{foreign_of, of_file}
use Rattle.wit_files.proofs.foreign.add_visits.Goals as goal

pub loop-visit-preserved : goal.loop-visit-preserved
loop-visit-preserved c = added_view foreign_of visit_view (map foreign_view c.args.foreign.now.items) _ _ c.deref-visit-items.result.now c.loop-visit.visit-index c.visit-item.result c.loop-visit-test.true c.visit-item.is c.loop-visit.invariant c.in_ok-add_visit.ensures

pub returns : goal.returns
returns c =
    let old = map foreign_view c.args.foreign.now.items in
    let xs = c.deref-visit-items.result.now in
    c.loop-visit.invariant ∙ ap (λ l. old ++ flat_map foreign_of (map visit_view l)) (take_all c.loop-visit.visit-index xs c.loop-visit-test.false ∙ c.deref-visit-items.ensures.value) ∙ ap (λ l. old ++ flat_map foreign_of l) c.in_ok-visits.ensures ∙ ap (λ l. old ++ l) (of_file c.args.file.now)
