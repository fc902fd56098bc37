use Rattle.std.proofs.Common.{◌≡◌, Some, slice_get, refl, sym, ap, ◌∙◌}
use Rattle.std.proofs.lemmas.Option.{slice_get_read}
use Rattle.wit_maps.proofs.table.Table.get_index.Goals as goal

pub returns-in-Some : goal.returns-in-Some
returns-in-Some g c =
    let looked = c.in-Some.ensures.lookup in
    let at : slice_get c.deref.result.now c.args.place ≡ Some c.in-Some.entry.now = slice_get_read c.deref.result.now _ c.args.place c.in-Some.entry.now refl looked.3.0 looked.1 in
    sym at ∙ ap (λ l. slice_get l c.args.place) (c.deref.ensures.value ∙ c.self.view_is)
