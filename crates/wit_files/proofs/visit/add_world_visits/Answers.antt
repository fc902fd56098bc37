use Rattle.std.proofs.Common.{List, ◌++◌, map, ap, ◌∙◌, append_assoc}
use Rattle.wit_syntax.proofs.Common.{Exported, Imported, flat_map, on_ok_weaker}
use Rattle.wit_files.specs.Visits.{Visit, side_part_visits, visit_view, world_part_visits}
use Rattle.wit_files.proofs.visit.add_world_visits.Goals as goal

pub returns : goal.returns
returns c =
    let w = c.args.world.now in
    let old = map visit_view c.args.visits.now.items in
    let parts = flat_map (world_part_visits w.name) w.items.items in
    let imports = flat_map (side_part_visits Imported) w.items.items in
    let exports = flat_map (side_part_visits Exported) w.items.items in
    let before = c.in_ok-add_side.ensures ∙ ap (λ (l : List Visit). l ++ imports) c.in_ok-add_world_parts.ensures ∙ append_assoc old parts imports in
    on_ok_weaker c.add_side-2.result (λ last. last ∙ ap (λ (l : List Visit). l ++ exports) before ∙ append_assoc old (parts ++ imports) exports ∙ ap (λ (l : List Visit). old ++ l) (append_assoc parts imports exports)) c.add_side-2.ensures
