-- The edges of a table of items.
use Rattle.std.specs.List.{flat_map}
use Rattle.std.specs.Prelude.{◌≡◌, ◌++◌, List, Result}
use Rattle.wit_type_tree.specs.declared.error.ParseError.{ParseError}
use Rattle.wit_type_tree.specs.declared.leaves.Id.{Id}
use Rattle.wit_tree.specs.declared.tree.UsePath.{UsePath}
use Rattle.wit_syntax.specs.Source.{Item, TopName, leads}
use Rattle.wit_syntax.specs.ScopeTables.{local_target}
use Rattle.wit_first.specs.FileFaults.{unnamed_fault}
use Rattle.wit_first.specs.First.{Finds, first_in}
use Rattle.wit_top_names.specs.Tops.{AreDeclared, AreNamed}
use Rattle.wit_top_names.specs.declared.top_name.Paths.{Paths}

-- the names of the items of the package that paths lead to
abbrev pub edges_of : List TopName → List UsePath → List Id
edges_of top paths = flat_map (λ path. local_target (leads top path)) paths

-- the name of the item of the package that a path leads to is added as an edge
abbrev pub AddsEdge : Paths → UsePath → (old new : List Id) → Type 0
AddsEdge paths path old new = (top : List TopName) → AreNamed top paths.top.now → new ≡ old ++ local_target (leads top path)

-- a call finds whether a path is a name of nothing
abbrev pub FindsUnnamed : {T : Type 0} → Paths → UsePath → Result T ParseError → Type 0
FindsUnnamed paths path r = (top : List TopName) (is : List Item) → AreNamed top paths.top.now → AreDeclared is paths.declared.now → Finds (unnamed_fault is top path) r

-- so of paths
abbrev pub AddsEdges : Paths → List UsePath → (old new : List Id) → Type 0
AddsEdges paths written old new = (top : List TopName) → AreNamed top paths.top.now → new ≡ old ++ edges_of top written

abbrev pub FindsUnnamedIn : {T : Type 0} → Paths → List UsePath → Result T ParseError → Type 0
FindsUnnamedIn paths written r = (top : List TopName) (is : List Item) → AreNamed top paths.top.now → AreDeclared is paths.declared.now → Finds (first_in (unnamed_fault is top) written) r
