use Rattle.std.proofs.Common.{◌≡◌, ◌∙◌, ap, map, take, arith}
use Rattle.wit_syntax.proofs.Common.{take_all}
use Rattle.wit_foreign.specs.Kept.{table_in}
use Rattle.wit_files.specs.ForeignPaths.{foreign_view}
use Rattle.wit_foreign.proofs.package_table.foreign_deps.Goals as goal

pub returns-clause-deps : goal.returns-clause-deps
returns-clause-deps c files same =
    let whole : map foreign_view (take c.loop-visit.visit-index c.args.visits.now) ≡ map foreign_view c.args.visits.now = ap (map foreign_view) (take_all c.loop-visit.visit-index c.args.visits.now (omega (arith, c.loop-visit-test.false, c.loop-visit.auto))) in
    c.shrunk.ensures ∙ c.loop-visit.invariant.packages ∙ ap table_in (whole ∙ same)
