use Rattle.std.proofs.Common.{◌≡◌, List, None, map, take}
use Rattle.wit_syntax.proofs.Common.{InterfaceItem, Item, TopName, flat_map, interface_part, use_path}
use Rattle.wit_first.specs.FileFaults.{unnamed_fault}
use Rattle.wit_first.specs.First.{first_in}
use Rattle.wit_top_names.specs.Tops.{AreNamed, AreDeclared}
use Rattle.wit_top_names.specs.Checks.{edges_of}
use Rattle.wit_files.proofs.item_table.interface_edges.Given as goal

abbrev pub invariant-loop-part : goal.invariant-loop-part
invariant-loop-part l = record {
  edges : (top : List TopName) → AreNamed top l.paths.top.now → l.edges.items ≡ edges_of top (flat_map use_path (map interface_part (take l.part-index l.part-items)));
  none : (top : List TopName) (is : List Item) → AreNamed top l.paths.top.now → AreDeclared is l.paths.declared.now → first_in (λ (p : InterfaceItem). first_in (unnamed_fault is top) (use_path (interface_part p))) (take l.part-index l.part-items) ≡ None;
}
