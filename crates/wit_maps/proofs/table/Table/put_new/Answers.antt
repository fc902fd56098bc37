use Rattle.std.proofs.Common.{sym, subst}
use Rattle.std.specs.Map.{keys_of}
use Rattle.wit_maps.specs.Indexed.{IsKept}
use Rattle.wit_maps.proofs.Putting.{kept_last, stated_nowhere, stated_there}
use Rattle.wit_maps.proofs.table.Table.put_new.Goals as goal

pub returns-in-Some-clause-place : goal.returns-in-Some-clause-place
returns-in-Some-clause-place g c = stated_there g.K.PartialEq.eq g.K.Ord.cmp g.K.Hash.hash_input c.args.key _ _ _ _ c.reserve.ensures.items c.self.view_is c.deref.ensures.value _ _ c.in_ok-place.ensures.found (g.met.K.Eq.laws.congr c.args.key) c.self.inside.index c.self.invariant _ c.in-Some.is

pub returns-in-None-clause-place : goal.returns-in-None-clause-place
returns-in-None-clause-place g c = stated_nowhere g.K.PartialEq.eq g.K.Ord.cmp g.K.Hash.hash_input c.args.key _ _ _ _ c.reserve.ensures.items c.self.view_is c.deref.ensures.value _ _ c.in_ok-place.ensures.found c.in-None.is

pub invariant_of-self-in-None : goal.invariant_of-self-in-None
invariant_of-self-in-None g c = subst (λ l. IsKept g.K.PartialEq.eq g.K.Ord.cmp g.K.Hash.hash_input (keys_of l) c.place_or_note.new.index) (sym c.push_reserved.ensures.items) (kept_last g.K.PartialEq.eq g.K.Ord.cmp g.K.Hash.hash_input c.args.key _ _ _ _ c.reserve.ensures.items c.self.view_is c.deref.ensures.value _ _ c.in_ok-place.ensures.found c.args.value c.in-None.is)
