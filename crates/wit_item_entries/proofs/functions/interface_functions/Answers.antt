use Rattle.std.proofs.Common.{◌≡◌, sym, ◌∙◌, ap, map, refl}
use Rattle.std.proofs.lemmas.Result.{IfOk-weaker}
use Rattle.wit_items.proofs.Common.{flat_map, functions_parts, interface_part, part_functions, parts, scope_item}
use Rattle.wit_item_entries.proofs.functions.interface_functions.Goals as goal

pub returns-in-Interface : goal.returns-in-Interface
returns-in-Interface c =
    let are : map interface_part c.deref.result.now ≡ parts (scope_item c.args.item.now) = rw (c.in-Interface.is, c.deref.ensures.value) refl in
    IfOk-weaker c.items_functions.result _ _ (λ fs made sort. made ∙ ap (flat_map part_functions) are ∙ sym (functions_parts (scope_item c.args.item.now))) c.items_functions.ensures

pub returns-in-Inline : goal.returns-in-Inline
returns-in-Inline c =
    let are : map interface_part c.in-Inline.inline.items.now ≡ parts (scope_item c.args.item.now) = rw c.in-Inline.is refl in
    IfOk-weaker c.items_functions-in-Inline.result _ _ (λ fs made sort. made ∙ ap (flat_map part_functions) are ∙ sym (functions_parts (scope_item c.args.item.now))) c.items_functions-in-Inline.ensures
