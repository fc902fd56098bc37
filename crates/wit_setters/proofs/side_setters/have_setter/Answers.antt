use Rattle.std.proofs.Common.{◌≡◌, ◌≤◌, Bool, Some, length, slice_get, sym, ap, ◌∙◌, arith, option_map}
use Rattle.std.specs.Map.Iter.{deref_pair}
use Rattle.wit_model.specs.declared.world.WorldItem.{WorldItem}
use Rattle.wit_model.specs.declared.world.WorldKey.{WorldKey}
use Rattle.wit_model.specs.ItemsOfWorlds.{function_of}
use Rattle.wit_functions.specs.MaybeFunction.{is_setter}
use Rattle.wit_setters.proofs.Sought.{list_any-here, list_any-none}
use Rattle.wit_setters.proofs.side_setters.have_setter.Goals as goal

abbrev is_setter_entry : WorldKey × WorldItem → Bool
is_setter_entry e = is_setter (function_of e.1)

pub returns-then-is_setter_item : goal.returns-then-is_setter_item
returns-then-is_setter_item c =
    let at : slice_get c.args.side.now c.loop-place.place ≡ Some (c.in-Some.field-0-0.now, c.in-Some.item.now) = sym c.get_index.ensures ∙ ap (option_map deref_pair) c.in-Some.is in
    sym (list_any-here is_setter_entry c.args.side.now c.loop-place.place _ at (sym c.is_setter_item.ensures ∙ c.if-is_setter_item.true))

pub returns : goal.returns
returns c =
    let end : length c.args.side.now ≤ c.loop-place.place = omega (arith, c.loop-place-test.false, c.loop-place.auto.place-end, c.len-place-end.ensures) in
    sym (list_any-none is_setter_entry c.args.side.now c.loop-place.place end c.loop-place.invariant)
