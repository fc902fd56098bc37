use Rattle.std.proofs.Common.{◌++◌, List, take}
use Rattle.wit_items.proofs.Common.{All, AllDiffer, ForeignUse, ForeignVisit, IsItemPlaced, flat_map}
use Rattle.wit_front.specs.ForeignPrefix.{AreAdded, addresses_among, borrowed_foreign_uses}
use Rattle.wit_front.proofs.foreign.ForeignArenas.add_used_by_items.Given as goal

abbrev pub invariant-loop-item : goal.invariant-loop-item
invariant-loop-item l = (vs : List ForeignVisit) (ts : List ForeignUse) → AllDiffer (addresses_among vs) → All (IsItemPlaced (addresses_among vs)) l.items → AreAdded vs ts l.fn.types l.fn.arenas → AreAdded vs (ts ++ flat_map borrowed_foreign_uses (take l.item-index l.items)) l.types l.arenas
