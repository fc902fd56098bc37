use Rattle.std.proofs.Common.{◌≡◌, None, map, take}
use Rattle.wit_arena.proofs.Common.{flat_map, part_names, InterfaceItem, interface_part, own_uses}
use Rattle.wit_first.specs.First.{first_in}
use Rattle.wit_first.specs.UseFaults.{use_fault}
use Rattle.wit_scopes.specs.BorrowedNames.{AreNamesPlaced, name_view}
use Rattle.wit_items.specs.ItemPaths.{prefix_of}
use Rattle.wit_files.specs.FileNames.{top_at}
use Rattle.wit_items.proofs.part_names.interface_names.Given as goal

abbrev pub invariant-loop-part : goal.invariant-loop-part
invariant-loop-part l = record {
  view : map name_view l.names.items ≡ flat_map (part_names (top_at l.files l.place)) (map interface_part (take l.part-index l.items));
  placed : AreNamesPlaced (prefix_of l.files) l.names.items;
  none : first_in (λ (x : InterfaceItem). first_in (use_fault l.files (top_at l.files l.place)) (own_uses (interface_part x))) (take l.part-index l.items) ≡ None;
}
