use Rattle.std.proofs.Common.{◌≡◌, ◌+◌, ◌++◌, ◌∷◌, [], List, map, take, refl, sym, ap, ◌∙◌}
use Rattle.wit_items.proofs.Common.{InterfaceItem, SourceFunction, append-nil, definition_functions, flat_map, free_function, interface_part, map-append, part_functions, parts_more, take_all, take_more}
use Rattle.wit_rules.specs.Signatures.{function_view}
use Rattle.wit_item_entries.proofs.functions.items_functions.Goals.{in-TypeDef+in_ok-add_definition-in-TypeDef, in-Func+in_ok-push-in-Func, in-Use}
use Rattle.wit_item_entries.proofs.functions.items_functions.Goals as goal

pub loop-part-preserved : goal.loop-part-preserved
loop-part-preserved c =
    let xs = c.args.items.now in
    let i = c.loop-part.part-index in
    let x = c.part-item.result in
    let was = c.loop-part.invariant in
    let prefix = flat_map part_functions (map interface_part (take i xs)) in
    let more : take (i + 1) xs ≡ take i xs ++ x ∷ [] = take_more xs i x c.loop-part-test.true ∙ ap (λ (y : InterfaceItem). take i xs ++ y ∷ []) (sym c.part-item.is) in
    let extended : flat_map part_functions (map interface_part (take (i + 1) xs)) ≡ prefix ++ part_functions (interface_part x) = parts_more part_functions interface_part (take i xs) (take (i + 1) xs) x (interface_part x) more refl in
    elim c.match-part.branch [
      | in-TypeDef+in_ok-add_definition-in-TypeDef b ↦ (
          let d = b.in-TypeDef.definition in
          rw b.functions-is (b.in_ok-add_definition-in-TypeDef.ensures ∙ ap (λ (l : List SourceFunction). l ++ definition_functions d.name d.body) was ∙ sym (extended ∙ ap (λ (y : InterfaceItem). prefix ++ part_functions (interface_part y)) b.in-TypeDef.is)))
      | in-Func+in_ok-push-in-Func b ↦ rw b.functions-is (ap (map function_view) b.in_ok-push-in-Func.ensures ∙ map-append function_view c.loop-part.functions.items (_ ∷ []) ∙ ap (λ (l : List SourceFunction). l ++ free_function b.in-Func.function ∷ []) was ∙ sym (extended ∙ ap (λ (y : InterfaceItem). prefix ++ part_functions (interface_part y)) b.in-Func.is))
      | in-Use b ↦ rw b.functions-is (was ∙ sym (extended ∙ ap (λ (y : InterfaceItem). prefix ++ part_functions (interface_part y)) b.in-Use.is ∙ append-nil prefix))
    ]

pub returns : goal.returns
returns c = c.loop-part.invariant ∙ ap (λ (l : List InterfaceItem). flat_map part_functions (map interface_part l)) (take_all c.loop-part.part-index c.args.items.now c.loop-part-test.false)
