use Rattle.std.proofs.Common.{[], map, take}
use Rattle.wit_items.proofs.Common.{foreign_view}
use Rattle.wit_front.specs.ForeignPrefix.{AreAdded}
use Rattle.wit_front.proofs.foreign.ForeignArenas.of_items.Given as goal

abbrev pub invariant-loop-visit : goal.invariant-loop-visit
invariant-loop-visit l = AreAdded (map foreign_view (take l.visit-index l.items)) [] [] l.arenas
