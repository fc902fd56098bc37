-- The first fault of the order of a table: E7, E8, E15 and E16; and of the names of files with the order of their items.
use Rattle.std.specs.Prelude.{◌≡◌, ◌⊎◌, ℕ, List, Option, None, Some}
use Rattle.std.specs.Option.{option_or}
use Rattle.wit_type_tree.specs.declared.leaves.Id.{Id}
use Rattle.wit_tree.specs.declared.tree.PackageFile.{PackageFile}
use Rattle.wit_graph.specs.Table.{Row}
use Rattle.wit_graph.specs.TableFaults.{IsFirstMissing, IsFirstCyclic}
use Rattle.wit_graph.specs.Laws.{AreAccepted}
use Rattle.wit_syntax.specs.Fault.{Fault, item_word, missing_at, missing_type_at, cyclic_at, type_word}
use Rattle.wit_syntax.specs.Foreign.{foreign_visits, ForeignVisit}
use Rattle.wit_syntax.specs.ScopeTables.{item_rows, rows_of}
use Rattle.wit_syntax.specs.Source.{ScopeName}
use Rattle.wit_first.specs.FileFaults.{files_fault, tops_fault}
use Rattle.wit_first.specs.First.{IsOr, first_in}
use Rattle.wit_first.specs.NameFaults.{item_names_fault}
use Rattle.wit_first.specs.AttributeFaults.{stability_fault}

-- the first missing name of a table, or, where none is missing, the name at its first edge both of whose ends reach a cycle
abbrev pub IsFirstLost : (Id → Fault) → List Row → Fault → Type 0
IsFirstLost lost rs f = (place index : ℕ) × (first : IsFirstMissing rs place index) × (f ≡ lost first.id)

abbrev pub IsFirstRound : (Id → Fault) → List Row → Fault → Type 0
IsFirstRound round rs f = (place index : ℕ) × (first : IsFirstCyclic rs place index) × (f ≡ round first.id)

-- a table has an order, or this is the fault of one of these
abbrev pub IsOrderFault : (lost round : Id → Fault) → List Row → Option Fault → Type 0
IsOrderFault lost round rs None = AreAccepted rs
IsOrderFault lost round rs (Some f) = IsFirstLost lost rs f ⊎ IsFirstRound round rs f

-- of the items of files, and of the definitions of a scope
abbrev pub IsItemOrderFault : List PackageFile → Option Fault → Type 0
IsItemOrderFault files first = IsOrderFault (missing_at 7 item_word) (cyclic_at 8 item_word) (item_rows files) first

abbrev pub IsTypeOrderFault : List ScopeName → Option Fault → Type 0
IsTypeOrderFault xs first = IsOrderFault missing_type_at (cyclic_at 16 type_word) (rows_of xs) first

-- of the names of files, before the order of their items is looked at: two items of one name, and then file by file
abbrev pub items_prefix : List PackageFile → Option Fault
items_prefix files = option_or (item_names_fault files) (files_fault files)

-- and before these: attributes before paths with a package
abbrev pub names_prefix : List PackageFile → Option Fault
names_prefix files = option_or (first_in (λ (v : ForeignVisit). stability_fault v.attributes) (foreign_visits files)) (items_prefix files)

-- of the order of the items, and then of the uses at the tops of files
abbrev pub IsOrderedFault : List PackageFile → Option Fault → Type 0
IsOrderedFault files first = (order : Option Fault) × IsItemOrderFault files order × (option_or order (tops_fault files) ≡ first)

-- of all that is looked for when names are gathered
abbrev pub IsNamesFault : List PackageFile → Option Fault → Type 0
IsNamesFault files first = IsOr (names_prefix files) (IsOrderedFault files) first
