use Rattle.std.proofs.Common.{map, take}
use Rattle.wit_files.specs.ForeignPaths.{foreign_view, AreItemsOf}
use Rattle.wit_files.proofs.foreign.ForeignItems.of.Given as goal

abbrev pub invariant-loop-visit : goal.invariant-loop-visit
invariant-loop-visit l = AreItemsOf (map foreign_view (take l.visit-index l.visits)) l.items
