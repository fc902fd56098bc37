use Rattle.std.specs.Map.{keys_of}
use Rattle.wit_maps.proofs.Indexed.{apart_of}
use Rattle.wit_maps.proofs.table.Table.into_index_map.Goals as goal

pub index_map_of-requires : goal.index_map_of-requires
index_map_of-requires g c = apart_of g.K.PartialEq.eq g.K.Ord.cmp g.K.Hash.hash_input (keys_of c.self.inside.entries.items) c.self.inside.index c.self.invariant

pub returns : goal.returns
returns g c = rw (← c.self.view_is) c.index_map_of.ensures
