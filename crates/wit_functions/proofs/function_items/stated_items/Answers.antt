use Rattle.std.proofs.Common.{◌≡◌, ◌≤◌, ◌∙◌, Option, Some, length, slice_get, rules, ap, sym}
use Rattle.std.specs.Option.{option_copied}
use Rattle.std.proofs.lemmas.Option.{slice_get-get_or}
use Rattle.wit_functions.specs.declared.function.Function.{Function}
use Rattle.wit_functions.proofs.Reordered.{stated_all, stated_more}
use Rattle.wit_functions.proofs.function_items.stated_items.Goals as goal

pub loop-place-preserved : goal.loop-place-preserved
loop-place-preserved g c =
    let items = c.args.items.now in
    let place = c.loop-place.place in
    let item = c.index-items-place.result in
    let at : slice_get items place ≡ Some item = slice_get-get_or items place item (search rules) ∙ ap Some (sym c.index-items-place.is) in
    stated_more g.T.MaybeFunction.function_at (λ t. (t.0, option_copied t.1)) items place item c.loop-place.maybe_function.items c.push.new.self.items _ at (ap (λ (o : Option Function). (place, o)) c.maybe_function.ensures) c.in_ok-push.ensures.items c.loop-place.invariant

pub returns : goal.returns
returns g c =
    let end : length c.args.items.now ≤ c.loop-place.place = search rules in
    stated_all g.T.MaybeFunction.function_at c.args.items.now c.loop-place.place _ end c.loop-place.invariant
