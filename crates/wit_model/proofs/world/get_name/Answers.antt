use Rattle.std.proofs.Common.{◌≡◌, ◌≤◌, Some, length, slice_get, sym, ap, ◌∙◌, arith, option_map}
use Rattle.std.specs.Map.Iter.{deref_pair}
use Rattle.wit_model.specs.ItemsOfWorlds.{is_name}
use Rattle.wit_model.proofs.Lookups.{lookup-here, lookup-none}
use Rattle.wit_model.proofs.world.get_name.Goals as goal

pub returns-then-is_name : goal.returns-then-is_name
returns-then-is_name g c =
    let at : slice_get c.args.items.now c.loop-place.place ≡ Some (c.in-Some.key.now, c.in-Some.value.now) = sym c.get_index.ensures ∙ ap (option_map deref_pair) c.in-Some.is in
    sym (lookup-here (is_name c.args.name.now) c.args.items.now c.loop-place.place _ c.loop-place.invariant at (sym c.is_name.ensures ∙ c.if-is_name.true))

pub returns : goal.returns
returns g c =
    let end : length c.args.items.now ≤ c.loop-place.place = omega (arith, c.loop-place-test.false, c.loop-place.auto.place-end, c.len-place-end.ensures) in
    sym (lookup-none (is_name c.args.name.now) c.args.items.now c.loop-place.place end c.loop-place.invariant)
