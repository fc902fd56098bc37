use Rattle.std.proofs.Common.{◌≡◌, []}
use Rattle.std.specs.Vec.Iter.{into_iter_items}
use Rattle.indexmap.specs.IndexMap.{insert_all}
use Rattle.wit_maps.proofs.index_maps.index_map_of.Given as goal

abbrev pub invariant-loop-key : goal.invariant-loop-key
invariant-loop-key g l = insert_all g.K.PartialEq.eq l.map.entries (into_iter_items l.key-iterator) ≡ insert_all g.K.PartialEq.eq [] l.fn.entries.items
