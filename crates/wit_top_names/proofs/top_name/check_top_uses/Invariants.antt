use Rattle.std.proofs.Common.{◌≡◌, List, None, take}
use Rattle.wit_syntax.proofs.Common.{Item}
use Rattle.wit_first.specs.FileFaults.{top_fault}
use Rattle.wit_first.specs.First.{first_in}
use Rattle.wit_top_names.specs.Tops.{AreDeclared}
use Rattle.wit_top_names.proofs.top_name.check_top_uses.Given as goal

abbrev pub invariant-loop-item : goal.invariant-loop-item
invariant-loop-item g l = (is : List Item) → AreDeclared is l.declared → first_in (top_fault is) (take l.item-index l.items) ≡ None
