-- The first fault of the names of files, as they are gathered: E30 to E34 before paths with a package, E6, and E7 of paths of items, and E9 and E7 at the tops of files.
use Rattle.std.specs.Prelude.{if◌then◌else◌, List, [], Option, None, Some, find, is_none}
use Rattle.std.specs.Option.{option_or}
use Rattle.std.specs.Str.{bytes_eq}
use Rattle.wit_tree.specs.declared.tree.UsePath.{UsePath}
use Rattle.wit_tree.specs.declared.tree.UsePath.TheVariants as path
use Rattle.wit_tree.specs.declared.tree.AstItem.{AstItem}
use Rattle.wit_tree.specs.declared.tree.AstItem.TheVariants as ast
use Rattle.wit_tree.specs.declared.tree.PackageFile.{PackageFile}
use Rattle.wit_syntax.specs.Fault.{Fault, fault, item_word, missing_at}
use Rattle.wit_syntax.specs.ScopeTables.{needed_paths}
use Rattle.wit_syntax.specs.Source.{TopName, Target, Local, Foreign, leads, Item, file_items, all_items, item_named, top_text}
use Rattle.wit_first.specs.First.{first_in}
use Rattle.wit_first.specs.NameFaults.{top_names_fault}

-- a path leads to a name that is no item's
abbrev pub lost_fault : List Item → Target → Option Fault
lost_fault is (Local id) = if is_none (item_named is id.name.now) then Some (missing_at 7 item_word id) else None
lost_fault is (Foreign p id) = None

-- a path is neither a name at the top of its file nor that of an item: what is at the top is looked at later
abbrev pub unnamed_fault : List Item → List TopName → UsePath → Option Fault
unnamed_fault is top (path.Id id) = if is_none (find (λ t. bytes_eq (top_text t) id.name.now) top) then lost_fault is (Local id) else None
unnamed_fault is top (path.Package p id) = None

-- of the paths of an item to those that have to come before it
abbrev pub paths_fault : List Item → Item → Option Fault
paths_fault is w = first_in (unnamed_fault is w.top) (needed_paths w)

-- of a file: a name at its top repeats, and then such a path of an item; and of files
abbrev pub file_fault : List Item → PackageFile → Option Fault
file_fault is file = option_or (top_names_fault file) (first_in (paths_fault is) (file_items file))

abbrev pub files_fault : List PackageFile → Option Fault
files_fault files = first_in (file_fault (all_items files)) files

-- a `use` at the top of a file has attributes, or else its path, by itself, leads to a name that is no item's
abbrev pub top_fault : List Item → AstItem → Option Fault
top_fault is (ast.Use u) = option_or (first_in (λ a. Some (fault 9 u.span)) u.attributes.items) (lost_fault is (leads [] u.item))
top_fault is _ = None

abbrev pub tops_fault : List PackageFile → Option Fault
tops_fault files = first_in (λ (file : PackageFile). first_in (top_fault (all_items files)) file.decl_list.items.items) files
