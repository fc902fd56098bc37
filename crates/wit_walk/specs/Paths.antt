-- The first fault of an include, E30 to E34 and E11; and of an import or export by a path, E30 to E35, E7, E10 and E43.
use Rattle.std.specs.Prelude.{◌&&◌, if◌then◌else◌, Bool, false, List, Option, None, Some, is_none}
use Rattle.std.specs.List.{flat_map, list_any}
use Rattle.std.specs.Option.{option_or}
use Rattle.wit_type_tree.specs.declared.leaves.Id.{Id}
use Rattle.wit_tree.specs.declared.tree.Include.{Include}
use Rattle.wit_tree.specs.declared.tree.PackageFile.{PackageFile}
use Rattle.wit_syntax.specs.Address.{same_address}
use Rattle.wit_syntax.specs.Broken.{is_world_at}
use Rattle.wit_syntax.specs.Fault.{Fault, interface_there, linked_twice}
use Rattle.wit_syntax.specs.Sides.{Link, SideItem, item_link, items_on}
use Rattle.wit_syntax.specs.Source.{TopName, leads, path_id, path_scope}
use Rattle.wit_first.specs.AttributeFaults.{metadata_fault, stability_fault}
use Rattle.wit_first.specs.UseFaults.{path_fault}

-- where a world is wanted: an interface is there
abbrev pub interface_fault : Option Bool → Id → Option Fault
interface_fault (Some false) id = Some (interface_there id)
interface_fault there id = None

abbrev pub include_fault : List PackageFile → List TopName → Include → Option Fault
include_fault files top n = option_or (stability_fault n.attributes.items) (interface_fault (is_world_at files (leads top n.from)) (path_id n.from))

-- neither of two links has a name of its own, and both refer to one interface
abbrev pub is_same_link : List TopName → Link → Link → Bool
is_same_link top a b = is_none a.name && (is_none b.name && same_address (path_scope top a.path) (path_scope top b.path))

-- the later of two such links on one side
abbrev pub linked_fault : List TopName → List SideItem → Link → Option Fault
linked_fault top before link = if list_any (λ (l : Link). is_same_link top l link) (flat_map item_link (items_on link.side before)) then Some (linked_twice link.side (path_id link.path).span) else None

-- and of an import or export by its path, which leads to an interface
abbrev pub link_fault : List PackageFile → List TopName → List SideItem → Link → Option Fault
link_fault files top before link = option_or (metadata_fault link.attributes) (path_fault files top link.path (linked_fault top before link))
