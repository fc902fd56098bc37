use Rattle.std.proofs.Common.{◌≡◌, Some, None, position, refl, sym, ap, ◌∙◌}
use Rattle.std.proofs.lemmas.Option.{slice_get_read}
use Rattle.std.specs.Map.{keys_of}
use Rattle.wit_maps.proofs.Indexed.{lookup_at, lookup_nowhere, place_of_key}
use Rattle.wit_maps.proofs.table.Table.get_by.Goals as goal

pub returns-in-Some : goal.returns-in-Some
returns-in-Some g c =
    let es = c.self.inside.entries.items in
    let t = g.Q.Equivalent.equivalent c.args.key in
    let found : position t (keys_of es) ≡ Some c.in-Some.place = ap (λ l. position t (keys_of l)) c.self.view_is ∙ sym c.get_index_of.ensures ∙ c.in-Some.is in
    rw (← c.self.view_is) (sym (lookup_at t es c.in-Some.place _ found (slice_get_read es _ c.in-Some.place c.index.result.now refl (place_of_key t es c.in-Some.place found) c.index.ensures)))

pub returns-in-None : goal.returns-in-None
returns-in-None g c =
    let es = c.self.inside.entries.items in
    let t = g.Q.Equivalent.equivalent c.args.key in
    let nowhere : position t (keys_of es) ≡ None = ap (λ l. position t (keys_of l)) c.self.view_is ∙ sym c.get_index_of.ensures ∙ c.in-None.is in
    rw (← c.self.view_is) (sym (lookup_nowhere t es nowhere))
