use Rattle.std.proofs.Common.{◌<◌, length, option_map, refl, sym, ap, ◌∙◌, subst}
use Rattle.std.proofs.lemmas.Option.{slice_get_read}
use Rattle.indexmap.specs.IndexMap.{set_value_at}
use Rattle.wit_maps.specs.Indexed.{IsKept}
use Rattle.wit_maps.proofs.Indexed.{keys_of-slice_set, slice_set-value}
use Rattle.wit_maps.proofs.table.Table.value_mut.Goals as goal

pub invariant_of-self-lent : goal.invariant_of-self-lent
invariant_of-self-lent g c w =
    let es = c.self.inside.entries.items in
    let within : c.args.place < length es = rw (← c.self.view_is) at c.requires in
    let at = slice_get_read es _ c.args.place c.index_mut.result.now refl within c.index_mut.ensures.value in
    subst (λ ks. IsKept g.K.PartialEq.eq g.K.Ord.cmp g.K.Hash.hash_input ks c.self.inside.index) (sym (keys_of-slice_set es c.args.place c.index_mut.result.now w at)) c.self.invariant

pub returns : goal.returns
returns g c =
    let es = c.self.inside.entries.items in
    let place = c.args.place in
    let within : place < length es = rw (← c.self.view_is) at c.requires in
    let at = slice_get_read es _ place c.index_mut.result.now refl within c.index_mut.ensures.value in (
      (refl, λ w. slice_set-value es place c.index_mut.result.now w at ∙ ap (λ l. set_value_at l place w) c.self.view_is),
      record {
        writes_back = tt;
        value = rw (← c.self.view_is) (ap (option_map (λ e. e.1)) at);
      },
    )
