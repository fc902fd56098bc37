use Rattle.std.proofs.Common.{sym, subst}
use Rattle.std.specs.Map.{keys_of}
use Rattle.wit_maps.specs.Indexed.{AreApart}
use Rattle.wit_maps.proofs.Indexed.{apart_of}
use Rattle.wit_maps.proofs.table.Table.reindex.Goals as goal

pub index_for-requires : goal.index_for-requires
index_for-requires g c = subst (λ l. AreApart g.K.PartialEq.eq (keys_of l)) (sym c.deref.ensures.value) (apart_of g.K.PartialEq.eq g.K.Ord.cmp g.K.Hash.hash_input (keys_of c.self.inside.entries.items) c.self.inside.index c.self.invariant)
