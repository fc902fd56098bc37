use Rattle.std.proofs.Common.{◌≡◌, ◌++◌, map, take}
use Rattle.wit_syntax.proofs.Common.{flat_map}
use Rattle.wit_files.specs.Visits.{visit_view}
use Rattle.wit_files.specs.ForeignPaths.{foreign_view}
use Rattle.wit_files.proofs.Others.{foreign_of}
use Rattle.wit_files.proofs.foreign.add_visits.Given as goal

abbrev pub invariant-loop-visit : goal.invariant-loop-visit
invariant-loop-visit l = map foreign_view l.foreign.items ≡ map foreign_view l.fn.foreign.items ++ flat_map foreign_of (map visit_view (take l.visit-index l.visit-items))
