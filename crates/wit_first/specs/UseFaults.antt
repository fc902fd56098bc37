-- The first fault of the uses of items: E30 to E35 of their attributes, and then E7 or E10 of where they lead.
use Rattle.std.specs.Prelude.{Bool, true, false, List, Option, None, Some}
use Rattle.std.specs.Option.{option_or}
use Rattle.wit_type_tree.specs.declared.leaves.Id.{Id}
use Rattle.wit_tree.specs.declared.tree.Use.{Use}
use Rattle.wit_tree.specs.declared.tree.UsePath.{UsePath}
use Rattle.wit_tree.specs.declared.tree.PackageFile.{PackageFile}
use Rattle.wit_syntax.specs.Broken.{is_world_at}
use Rattle.wit_syntax.specs.Fault.{Fault, world_there}
use Rattle.wit_syntax.specs.Source.{TopName, path_id, leads, Item, all_items, all_uses}
use Rattle.wit_first.specs.AttributeFaults.{metadata_fault}
use Rattle.wit_first.specs.FileFaults.{lost_fault}
use Rattle.wit_first.specs.First.{first_in}

-- where an interface is wanted, by what is there: nothing, so that the name may be lost; a world; or an interface, with what is wrong with it there
abbrev pub reached_fault : Option Bool → Id → (lost there : Option Fault) → Option Fault
reached_fault None id lost there = lost
reached_fault (Some true) id lost there = Some (world_there id)
reached_fault (Some false) id lost there = there

-- of a path, and of a `use` with its attributes
abbrev pub path_fault : List PackageFile → List TopName → UsePath → Option Fault → Option Fault
path_fault files top from there = reached_fault (is_world_at files (leads top from)) (path_id from) (lost_fault (all_items files) (leads top from)) there

abbrev pub use_fault : List PackageFile → List TopName → Use → Option Fault
use_fault files top u = option_or (metadata_fault u.attributes.items) (path_fault files top u.from None)

-- of the uses of an item
abbrev pub item_uses_fault : List PackageFile → Item → Option Fault
item_uses_fault files i = first_in (use_fault files i.top) (all_uses i)

-- of all items, in push order and then in source order
abbrev pub all_uses_fault : List PackageFile → Option Fault
all_uses_fault files = first_in (item_uses_fault files) (all_items files)
