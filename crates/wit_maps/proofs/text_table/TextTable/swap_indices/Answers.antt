use Rattle.std.proofs.Common.{◌∙◌, ap, arith, length, swap}
use Rattle.wit_maps.specs.TextEntries.{text_entries}
use Rattle.wit_maps.proofs.TextTables.{length-text_entries, text_entries-swap}
use Rattle.wit_maps.proofs.text_table.TextTable.swap_indices.Goals as goal

pub swap_indices-requires-clause-one : goal.swap_indices-requires-clause-one
swap_indices-requires-clause-one g c = omega (arith, c.requires.one, ap (λ l. length l) c.self.view_is, length-text_entries c.self.inside.table)

pub swap_indices-requires-clause-other : goal.swap_indices-requires-clause-other
swap_indices-requires-clause-other g c = omega (arith, c.requires.other, ap (λ l. length l) c.self.view_is, length-text_entries c.self.inside.table)

pub returns : goal.returns
returns g c =
    ap text_entries c.swap_indices.ensures
    ∙ text_entries-swap c.self.inside.table c.args.one c.args.other
    ∙ ap (λ l. swap l c.args.one c.args.other) c.self.view_is
