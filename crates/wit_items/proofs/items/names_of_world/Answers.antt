use Rattle.std.proofs.Common.{◌≡◌, ℕ, List, sym, ◌∙◌}
use Rattle.wit_tree.specs.declared.tree.World.{World}
use Rattle.wit_arena.proofs.Common.{Exported, Imported, PackageFile, TheWorld, err_from_is_err_and, flat_map, map, option_or, own_uses, world_part}
use Rattle.wit_walk.proofs.Common.{none_both, reports_back, reports_prefix, reports_same}
use Rattle.wit_first.specs.First.{first_in}
use Rattle.wit_first.specs.UseFaults.{item_uses_fault, use_fault}
use Rattle.wit_files.specs.FileNames.{top_at}
use Rattle.wit_items.specs.ItemPaths.{item_in}
use Rattle.wit_items.specs.BorrowedItems.{side_uses}
use Rattle.wit_items.proofs.Written.{world_uses}
use Rattle.wit_items.proofs.items.names_of_world.Goals as goal

pub returns-clause-names : goal.returns-clause-names
returns-clause-names c = record {
  own = c.in_ok-world_names.ensures.view;
  imported = c.in_ok-names_inside.ensures.are;
  exported = c.in_ok-names_inside-2.ensures.are;
  own_placed = c.in_ok-world_names.ensures.placed;
  imported_placed = c.in_ok-names_inside.ensures.placed;
  exported_placed = c.in_ok-names_inside-2.ensures.placed;
}

-- of its own uses, and then of those on either side
uses_are : (files : List PackageFile) (place : ℕ) (world : World) → (let ps = map world_part world.items.items in let found = first_in (use_fault files (top_at files place)) in item_uses_fault files (item_in files place (TheWorld world)) ≡ option_or (found (flat_map own_uses ps)) (option_or (found (flat_map (side_uses Imported) ps)) (found (flat_map (side_uses Exported) ps))))
uses_are files place world = world_uses files (top_at files place) (map world_part world.items.items)

pub returns-in_err-world_names-clause-first : goal.returns-in_err-world_names-clause-first
returns-in_err-world_names-clause-first c =
    let p = err_from_is_err_and c.from_residual.result c.from_residual.ensures.1 in
    rw (p.1, p.2) (reports_same (sym (uses_are c.args.files.now c.args.place c.args.world.now)) (reports_prefix _ c.in_err-world_names.ensures.first))

pub returns-in_err-names_inside-clause-first : goal.returns-in_err-names_inside-clause-first
returns-in_err-names_inside-clause-first c =
    let p = err_from_is_err_and c.from_residual-in_err-names_inside.result c.from_residual-in_err-names_inside.ensures.1 in
    rw (p.1, p.2) (reports_same (sym (uses_are c.args.files.now c.args.place c.args.world.now)) (reports_back c.in_ok-world_names.ensures.first (reports_prefix _ c.in_err-names_inside.ensures.first)))

pub returns-in_err-names_inside-2-clause-first : goal.returns-in_err-names_inside-2-clause-first
returns-in_err-names_inside-2-clause-first c =
    let p = err_from_is_err_and c.from_residual-in_err-names_inside-2.result c.from_residual-in_err-names_inside-2.ensures.1 in
    rw (p.1, p.2) (reports_same (sym (uses_are c.args.files.now c.args.place c.args.world.now)) (reports_back c.in_ok-world_names.ensures.first (reports_back c.in_ok-names_inside.ensures.first c.in_err-names_inside-2.ensures.first)))

pub returns-clause-first : goal.returns-clause-first
returns-clause-first c = uses_are c.args.files.now c.args.place c.args.world.now ∙ none_both c.in_ok-world_names.ensures.first (none_both c.in_ok-names_inside.ensures.first c.in_ok-names_inside-2.ensures.first)
