use Rattle.std.proofs.Common.{sym, ◌∙◌}
use Rattle.wit_resolved.specs.Lookups.{name_at}
use Rattle.wit_resolved.proofs.Searching.{first_found, first_step}
use Rattle.wit_resolved.proofs.paths.name_among.Goals as goal

pub returns-in-Some-name_of_item : goal.returns-in-Some-name_of_item
returns-in-Some-name_of_item c =
    sym (first_found (name_at c.args.place) c.args.items.now c.loop-at.at _ c.in-Some-name_of_item.found.now (sym c.in-Some.ensures) (sym c.in-Some-name_of_item.ensures))
    ∙ c.loop-at.invariant

pub loop-at-preserved : goal.loop-at-preserved
loop-at-preserved c =
    first_step (name_at c.args.place) c.args.items.now c.loop-at.at _ (sym c.in-Some.ensures) (sym c.in_default-name_of_item.ensures)
    ∙ c.loop-at.invariant
