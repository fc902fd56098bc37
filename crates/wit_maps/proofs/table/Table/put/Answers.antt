use Rattle.std.proofs.Common.{◌∙◌, sym, subst}
use Rattle.std.specs.Map.{keys_of}
use Rattle.wit_maps.specs.Indexed.{IsKept}
use Rattle.wit_maps.proofs.Putting.{kept_last, kept_there, put_last, put_there}
use Rattle.wit_maps.proofs.table.Table.put.Goals as goal

pub invariant_of-self-in-Some-1 : goal.invariant_of-self-in-Some-1
invariant_of-self-in-Some-1 g c = kept_there g.K.PartialEq.eq g.K.Ord.cmp g.K.Hash.hash_input c.args.key _ _ _ _ c.reserve.ensures.items c.self.view_is c.deref.ensures.value _ _ c.in_ok-place.ensures.found (g.met.K.Eq.laws.congr c.args.key) c.self.inside.index c.self.invariant _ c.in-Some.is c.index_mut.result.now c.index_mut.ensures.value c.args.value c.in_ok-place.ensures.kept

pub returns-in-Some-clause-ok : goal.returns-in-Some-clause-ok
returns-in-Some-clause-ok g c = put_there g.K.PartialEq.eq g.K.Ord.cmp g.K.Hash.hash_input c.args.key _ _ _ _ c.reserve.ensures.items c.self.view_is c.deref.ensures.value _ _ c.in_ok-place.ensures.found (g.met.K.Eq.laws.congr c.args.key) c.self.inside.index c.self.invariant _ c.in-Some.is c.index_mut.result.now c.index_mut.ensures.value c.args.value

pub returns-in-None-clause-ok : goal.returns-in-None-clause-ok
returns-in-None-clause-ok g c = c.push_reserved.ensures.items ∙ put_last g.K.PartialEq.eq g.K.Ord.cmp g.K.Hash.hash_input c.args.key _ _ _ _ c.reserve.ensures.items c.self.view_is c.deref.ensures.value _ _ c.in_ok-place.ensures.found c.args.value c.in-None.is

pub invariant_of-self-in-None : goal.invariant_of-self-in-None
invariant_of-self-in-None g c = subst (λ l. IsKept g.K.PartialEq.eq g.K.Ord.cmp g.K.Hash.hash_input (keys_of l) c.place_or_note.new.index) (sym c.push_reserved.ensures.items) (kept_last g.K.PartialEq.eq g.K.Ord.cmp g.K.Hash.hash_input c.args.key _ _ _ _ c.reserve.ensures.items c.self.view_is c.deref.ensures.value _ _ c.in_ok-place.ensures.found c.args.value c.in-None.is)
