use Rattle.std.proofs.Common.{Some, slice_set, ap, ◌∙◌, sym, subst}
use Rattle.std.specs.Map.{keys_of}
use Rattle.wit_maps.specs.Indexed.{IsKept}
use Rattle.wit_maps.proofs.Putting.{kept_last, kept_there, put_last, put_there, was_nowhere, was_there}
use Rattle.wit_maps.proofs.table.Table.insert.Goals as goal

pub invariant_of-self-in-Some-1 : goal.invariant_of-self-in-Some-1
invariant_of-self-in-Some-1 g c = kept_there g.K.PartialEq.eq g.K.Ord.cmp g.K.Hash.hash_input c.args.key _ _ _ _ c.reserve.ensures.items c.self.view_is c.deref.ensures.value _ _ c.in-Ok-Some.ensures.found (g.met.K.Eq.laws.congr c.args.key) c.self.inside.index c.self.invariant _ c.in-Ok-Some.field-0-is c.index_mut.result.now c.index_mut.ensures.value c.replace.new.dest c.in-Ok-Some.ensures.kept

pub returns-in-Ok-Some-clause-ok : goal.returns-in-Ok-Some-clause-ok
returns-in-Ok-Some-clause-ok g c =
    ap (λ v. slice_set c.reserve.new.self.items c.in-Ok-Some.place (c.index_mut.result.now.0, v)) c.replace.ensures.after
    ∙ put_there g.K.PartialEq.eq g.K.Ord.cmp g.K.Hash.hash_input c.args.key _ _ _ _ c.reserve.ensures.items c.self.view_is c.deref.ensures.value _ _ c.in-Ok-Some.ensures.found (g.met.K.Eq.laws.congr c.args.key) c.self.inside.index c.self.invariant _ c.in-Ok-Some.field-0-is c.index_mut.result.now c.index_mut.ensures.value c.args.value

pub returns-in-Ok-Some-clause-was : goal.returns-in-Ok-Some-clause-was
returns-in-Ok-Some-clause-was g c =
    ap (λ v. Some v) c.replace.ensures.value
    ∙ was_there g.K.PartialEq.eq g.K.Ord.cmp g.K.Hash.hash_input c.args.key _ _ _ _ c.reserve.ensures.items c.self.view_is c.deref.ensures.value _ _ c.in-Ok-Some.ensures.found (g.met.K.Eq.laws.congr c.args.key) c.self.inside.index c.self.invariant _ c.in-Ok-Some.field-0-is c.index_mut.result.now c.index_mut.ensures.value

pub returns-in-Ok-None-clause-ok : goal.returns-in-Ok-None-clause-ok
returns-in-Ok-None-clause-ok g c = c.push_reserved.ensures.items ∙ put_last g.K.PartialEq.eq g.K.Ord.cmp g.K.Hash.hash_input c.args.key _ _ _ _ c.reserve.ensures.items c.self.view_is c.deref.ensures.value _ _ c.in-Ok-None.ensures.found c.args.value c.in-Ok-None.field-0-is

pub returns-in-Ok-None-clause-was : goal.returns-in-Ok-None-clause-was
returns-in-Ok-None-clause-was g c = was_nowhere g.K.PartialEq.eq g.K.Ord.cmp g.K.Hash.hash_input c.args.key _ _ _ _ c.reserve.ensures.items c.self.view_is c.deref.ensures.value _ _ c.in-Ok-None.ensures.found c.in-Ok-None.field-0-is

pub invariant_of-self-in-Ok-None : goal.invariant_of-self-in-Ok-None
invariant_of-self-in-Ok-None g c = subst (λ l. IsKept g.K.PartialEq.eq g.K.Ord.cmp g.K.Hash.hash_input (keys_of l) c.place_or_note.new.index) (sym c.push_reserved.ensures.items) (kept_last g.K.PartialEq.eq g.K.Ord.cmp g.K.Hash.hash_input c.args.key _ _ _ _ c.reserve.ensures.items c.self.view_is c.deref.ensures.value _ _ c.in-Ok-None.ensures.found c.args.value c.in-Ok-None.field-0-is)
