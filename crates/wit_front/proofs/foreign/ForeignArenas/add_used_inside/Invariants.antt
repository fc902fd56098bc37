use Rattle.std.proofs.Common.{◌++◌, take}
use Rattle.wit_items.proofs.Common.{AllDiffer, ArePlacedInside, ForeignUse, ForeignVisit, List}
use Rattle.wit_front.specs.ForeignPrefix.{AreAdded, addresses_among, inside_uses}
use Rattle.wit_front.proofs.foreign.ForeignArenas.add_used_inside.Given as goal

abbrev pub invariant-loop-interface : goal.invariant-loop-interface
invariant-loop-interface l = (vs : List ForeignVisit) (ts : List ForeignUse) → AllDiffer (addresses_among vs) → ArePlacedInside (addresses_among vs) l.inside → AreAdded vs ts l.fn.types l.fn.arenas → AreAdded vs (ts ++ inside_uses (take l.interface-index l.inside)) l.types l.arenas
