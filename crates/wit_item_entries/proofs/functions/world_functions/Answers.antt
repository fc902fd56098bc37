use Rattle.std.proofs.Common.{◌≡◌, ◌+◌, ◌++◌, ◌∷◌, [], List, map, take, refl, sym, ap, ◌∙◌}
use Rattle.wit_items.proofs.Common.{SourceFunction, append-nil, definition_functions, extern_functions, flat_map, part_functions, parts_more, take_all, take_more, world_part}
use Rattle.wit_walk.proofs.Common.{WorldItem}
use Rattle.wit_item_entries.proofs.functions.world_functions.Goals.{in-TypeDef+in_ok-add_definition-in-TypeDef, in-Use, in-Include, in-Extern+in_ok-add_extern_part-in-Extern}
use Rattle.wit_item_entries.proofs.functions.world_functions.Goals as goal

pub loop-part-preserved : goal.loop-part-preserved
loop-part-preserved c =
    let xs = c.world_items-part-items.result.now in
    let i = c.loop-part.part-index in
    let x = c.part-item.result in
    let was = c.loop-part.invariant in
    let prefix = flat_map part_functions (map world_part (take i xs)) in
    let more : take (i + 1) xs ≡ take i xs ++ x ∷ [] = take_more xs i x c.loop-part-test.true ∙ ap (λ (y : WorldItem). take i xs ++ y ∷ []) (sym c.part-item.is) in
    let extended : flat_map part_functions (map world_part (take (i + 1) xs)) ≡ prefix ++ part_functions (world_part x) = parts_more part_functions world_part (take i xs) (take (i + 1) xs) x (world_part x) more refl in
    let part = λ (y : WorldItem). prefix ++ part_functions (world_part y) in
    elim c.match-part.branch [
      | in-TypeDef+in_ok-add_definition-in-TypeDef b ↦ (
          let d = b.in-TypeDef.definition in
          rw b.functions-is (b.in_ok-add_definition-in-TypeDef.ensures ∙ ap (λ (l : List SourceFunction). l ++ definition_functions d.name d.body) was ∙ sym (extended ∙ ap part b.in-TypeDef.is)))
      | in-Use b ↦ rw b.functions-is (was ∙ sym (extended ∙ ap part b.in-Use.is ∙ append-nil prefix))
      | in-Include b ↦ rw b.functions-is (was ∙ sym (extended ∙ ap part b.in-Include.is ∙ append-nil prefix))
      | in-Extern+in_ok-add_extern_part-in-Extern b ↦ (
          let w = b.in-Extern.written in
          rw b.functions-is (b.in_ok-add_extern_part-in-Extern.ensures ∙ ap (λ (l : List SourceFunction). l ++ extern_functions w w.kind) was ∙ sym (extended ∙ ap part b.in-Extern.is)))
    ]

pub returns : goal.returns
returns c = c.loop-part.invariant ∙ ap (λ (l : List WorldItem). flat_map part_functions (map world_part l)) (take_all c.loop-part.part-index c.world_items-part-items.result.now c.loop-part-test.false ∙ c.world_items-part-items.ensures)
