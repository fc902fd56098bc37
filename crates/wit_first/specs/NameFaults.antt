-- The first name that an earlier one is, spelled alike: E5, E6 and E14.
use Rattle.std.specs.Prelude.{List, Option}
use Rattle.wit_type_tree.specs.declared.leaves.Id.{Id}
use Rattle.wit_tree.specs.declared.tree.PackageFile.{PackageFile}
use Rattle.wit_syntax.specs.Fault.{Fault, item_twice, name_twice, top_twice}
use Rattle.wit_syntax.specs.Source.{TopName, top_names, Item, item_name, all_items, about, top_text}
use Rattle.wit_first.specs.First.{first_repeat}

-- of interfaces and worlds, in push order and then in source order
abbrev pub item_names_fault : List PackageFile → Option Fault
item_names_fault files = first_repeat item_name (λ (i : Item). item_twice (about i.declared).id) (all_items files)

-- of the names at the top of a file
abbrev pub top_names_fault : PackageFile → Option Fault
top_names_fault file = first_repeat top_text (λ (n : TopName). top_twice n.id) (top_names file)

-- of the names of a scope
abbrev pub local_names_fault : List Id → Option Fault
local_names_fault ids = first_repeat (λ (id : Id). id.name.now) (λ (id : Id). name_twice id) ids
