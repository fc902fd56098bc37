use Rattle.std.proofs.Common.{List, sym, ap, ◌∙◌, subst}
use Rattle.wit_syntax.proofs.Common.{AllDiffer, map}
use Rattle.wit_functions.specs.SettersPlaced.{placed}
use Rattle.wit_model.specs.ItemsOfWorlds.{function_of}
use Rattle.wit_functions.specs.MaybeFunction.{HaveOwnNames}
use Rattle.wit_functions.proofs.NoSetters.{no_setters}
use Rattle.wit_setters.proofs.OneSide.{Entry, apart_keys, item_function, key_of, own_on_side, placed_differ}
use Rattle.wit_setters.proofs.side_setters.place_setters.Goals as goal

pub returns-then-not-have_setter : goal.returns-then-not-have_setter
returns-then-not-have_setter c = sym (no_setters item_function c.args.side (sym c.have_setter.ensures ∙ c.if-not-have_setter.true))

pub from_entries-requires : goal.from_entries-requires
from_entries-requires c =
    let own = subst (HaveOwnNames item_function) (sym c.into_entries-entries.ensures) (own_on_side c.args.side c.requires.distinct c.requires.named) in
    let differ : AllDiffer (map key_of c.in_ok-placed.placed.items) = subst (λ (es : List Entry). AllDiffer (map key_of es)) (sym (c.in_ok-placed.ensures own ∙ ap (placed function_of) c.into_entries-entries.ensures)) (placed_differ c.args.side c.requires.distinct c.requires.named) in
    apart_keys (map key_of c.in_ok-placed.placed.items) differ

pub returns : goal.returns
returns c =
    let own = subst (HaveOwnNames item_function) (sym c.into_entries-entries.ensures) (own_on_side c.args.side c.requires.distinct c.requires.named) in
    c.in_ok-table.ensures ∙ c.in_ok-placed.ensures own ∙ ap (placed function_of) c.into_entries-entries.ensures
