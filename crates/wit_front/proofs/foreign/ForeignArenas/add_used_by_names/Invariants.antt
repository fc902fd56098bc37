use Rattle.std.proofs.Common.{◌++◌, List, map, take}
use Rattle.wit_items.proofs.Common.{AllDiffer, AreNamesPlaced, ForeignUse, ForeignVisit, flat_map, name_view}
use Rattle.wit_front.specs.ForeignPrefix.{AreAdded, addresses_among, name_foreign_uses}
use Rattle.wit_front.proofs.foreign.ForeignArenas.add_used_by_names.Given as goal

abbrev pub invariant-loop-name : goal.invariant-loop-name
invariant-loop-name l = (vs : List ForeignVisit) (ts : List ForeignUse) → AllDiffer (addresses_among vs) → AreNamesPlaced (addresses_among vs) l.names → AreAdded vs ts l.fn.types l.fn.arenas → AreAdded vs (ts ++ flat_map name_foreign_uses (map name_view (take l.name-index l.names))) l.types l.arenas
