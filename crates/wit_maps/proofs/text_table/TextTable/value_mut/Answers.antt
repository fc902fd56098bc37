use Rattle.std.proofs.Common.{◌∙◌, ap, arith, length, refl}
use Rattle.indexmap.specs.IndexMap.{set_value_at}
use Rattle.wit_maps.proofs.TextTables.{length-text_entries, text_entries-set_value_at, value-text_entries}
use Rattle.wit_maps.proofs.text_table.TextTable.value_mut.Goals as goal

pub value_mut-requires : goal.value_mut-requires
value_mut-requires g c = omega (arith, c.requires, ap (λ l. length l) c.self.view_is, length-text_entries c.self.inside.table)

pub returns : goal.returns
returns g c =
    let es = c.self.inside.table in
    let place = c.args.place in (
      (refl, λ w. text_entries-set_value_at es place w ∙ ap (λ l. set_value_at l place w) c.self.view_is),
      record {
        writes_back = tt;
        value = rw (← c.self.view_is) (value-text_entries es place ∙ c.value_mut.ensures.value);
      },
    )
