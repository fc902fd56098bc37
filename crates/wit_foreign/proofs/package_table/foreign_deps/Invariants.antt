use Rattle.std.proofs.Common.{map, take}
use Rattle.wit_files.specs.ForeignPaths.{foreign_view}
use Rattle.wit_foreign.specs.Growing.{AreDeps}
use Rattle.wit_foreign.proofs.package_table.foreign_deps.Given as goal

abbrev pub invariant-loop-visit : goal.invariant-loop-visit
invariant-loop-visit l = AreDeps (map foreign_view (take l.visit-index l.fn.visits)) l.deps
