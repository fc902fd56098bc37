use Rattle.std.proofs.Common.{◌≡◌, ◌≤◌, length, Some, refl, rules, arith}
use Rattle.wit_items.proofs.Common.{false≢true, slice_get}
use Rattle.wit_item_entries.proofs.FunctionTables.{called_at, called_none}
use Rattle.wit_item_entries.proofs.uses.has_function.Goals as goal

pub returns-then-is_called : goal.returns-then-is_called
returns-then-is_called c =
    let fs = c.args.functions.now in
    let at : slice_get fs c.loop-place.place ≡ Some (c.in-Some.field-0-0.now, c.in-Some.function.now) = search rules in
    (λ h. called_at fs c.loop-place.place (c.in-Some.field-0-0.now, c.in-Some.function.now) c.args.name.now at (c.is_called.ensures.0 c.if-is_called.true), λ h. refl)

pub returns : goal.returns
returns c =
    let fs = c.args.functions.now in
    let long : length fs ≤ c.loop-place.place = omega arith in
    (λ h. absurd (false≢true h), λ h. absurd (called_none fs c.loop-place.place c.args.name.now long c.loop-place.invariant h))
