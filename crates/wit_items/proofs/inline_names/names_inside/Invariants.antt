use Rattle.std.proofs.Common.{◌≡◌, None, length, map, take}
use Rattle.wit_arena.proofs.Common.{TheWorld, flat_map, world_part}
use Rattle.wit_syntax.proofs.Common.{WorldItem}
use Rattle.wit_first.specs.First.{first_in}
use Rattle.wit_first.specs.UseFaults.{use_fault}
use Rattle.wit_files.specs.FileNames.{top_at}
use Rattle.wit_items.specs.ItemPaths.{item_in, prefix_of}
use Rattle.wit_items.specs.BorrowedItems.{ArePlacedInside, inside_view, side_uses, with_names}
use Rattle.wit_items.proofs.Inlined.{inline_from}
use Rattle.wit_items.proofs.Written.{part_on}
use Rattle.wit_items.proofs.inline_names.names_inside.Given as goal

-- the interfaces on the side up to here are counted, and those that are written there are added
abbrev pub invariant-loop-part : goal.invariant-loop-part
invariant-loop-part l = record {
  counted : l.before ≡ length (flat_map (part_on l.side) (map world_part (take l.part-index l.part-items)));
  are : map (inside_view (item_in l.files l.place (TheWorld l.world))) l.inside.items ≡ map with_names (inline_from (item_in l.files l.place (TheWorld l.world)) 0 (flat_map (part_on l.side) (map world_part (take l.part-index l.part-items))));
  placed : ArePlacedInside (prefix_of l.files) l.inside.items;
  none : first_in (λ (x : WorldItem). first_in (use_fault l.files (top_at l.files l.place)) (side_uses l.side (world_part x))) (take l.part-index l.part-items) ≡ None;
}
