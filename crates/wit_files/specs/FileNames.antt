-- The names of files, as they are kept.
use Rattle.std.specs.Prelude.{◌≡◌, ℕ, List, [], ◌∷◌, ◌++◌, length, map, position, Option, Some, None, slice_get}
use Rattle.std.specs.Option.{option_map}
use Rattle.wit_tree.specs.declared.tree.PackageFile.{PackageFile}
use Rattle.wit_graph.specs.Table.{rows, target, IsOrder}
use Rattle.wit_syntax.specs.Address.{ForeignNamed, same_address}
use Rattle.wit_syntax.specs.Source.{Target, Local, Foreign, TopName, top_names, all_items, is_world}
use Rattle.wit_syntax.specs.ScopeTables.{item_rows}
use Rattle.wit_syntax.specs.Foreign.{visited, foreign_visits, foreign_items}
use Rattle.wit_top_names.specs.Tops.{Named, AreNamed}
use Rattle.wit_files.specs.ForeignPaths.{foreign_view, AreItemsOf}
use Rattle.wit_files.specs.declared.file_names.Found.{Found}
use Rattle.wit_files.specs.declared.file_names.Found.TheVariants.{Item as ItemAt, Foreign as ForeignAt}
use Rattle.wit_files.specs.declared.tables.Tables.{Tables}

-- these are the names at the top of each file
pub record AreTopsOf (files : List PackageFile) (tops : List Named) : Type 0 where
  pub long : length tops ≡ length files
  pub each : (i : ℕ) (file : PackageFile) (top : Named) → slice_get files i ≡ Some file → slice_get tops i ≡ Some top → AreNamed (top_names file) top

-- these are the items that files declare, each with the items that have to come before it and with whether it is a world, and the names at the top of each file
pub record AreDeclarationsOf (files : List PackageFile) (tables : Tables) : Type 0 where
  pub items : rows tables.items ≡ item_rows files
  pub kinds : tables.kinds.items ≡ map is_world (all_items files)
  pub tops : AreTopsOf files tables.tops.items

-- these are those, the paths with a package, the items of other packages that those lead to, and the least order of the items
pub record AreTablesOf (files : List PackageFile) (tables : Tables) : Type 0 where
  pub declared : AreDeclarationsOf files tables
  pub visits : map foreign_view tables.visits.items ≡ foreign_visits files
  pub foreign : AreItemsOf (foreign_visits files) tables.foreign
  pub order : IsOrder (item_rows files) tables.order.items

-- the names at the top of a file, and of the one at a place
abbrev pub names_at_top : Option PackageFile → List TopName
names_at_top None = []
names_at_top (Some file) = top_names file

abbrev pub top_at : List PackageFile → ℕ → List TopName
top_at files place = names_at_top (slice_get files place)

-- what is where a path leads: a declared item at its place among all, or an item of another package at its place among those
abbrev pub found_at : List PackageFile → Target → Option Found
found_at files (Local id) = option_map ItemAt (target (item_rows files) id)
found_at files (Foreign p id) = option_map ForeignAt (position (λ v. same_address (visited v) (ForeignNamed p id.name.now)) (foreign_items files))

-- the names at the top of a file were added after those of others
pub record AddsTop (file : PackageFile) (old new : List Named) : Type 0 where
  pub top : Named
  pub last : new ≡ old ++ top ∷ []
  pub named : AreNamed (top_names file) top
