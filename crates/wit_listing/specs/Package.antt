-- A package in a listing: its name, then its types, its interfaces, its worlds and what it names of other packages, each after a number.
use Rattle.std.specs.Prelude.{ℕ, List, [], ◌∷◌, ◌++◌, codes, length}
use Rattle.std.specs.List.{flat_map}
use Rattle.std.specs.Fmt.{decimal}
use Rattle.wit_package_names.specs.declared.package_name.PackageName.{PackageName}
use Rattle.wit_package_names.specs.PackageName.{name_text}
use Rattle.wit_types.specs.declared.stability.Stability.{Stability}
use Rattle.wit_types.specs.declared.types.TypeDef.{TypeDef}
use Rattle.wit_model.specs.declared.ast_item.AstItem.{AstItem}
use Rattle.wit_model.specs.declared.interface.Interface.{Interface}
use Rattle.wit_model.specs.declared.world.World.{World}
use Rattle.wit_model.specs.declared.unresolved.UnresolvedPackage.{UnresolvedPackage}
use Rattle.wit_listing.specs.Lists.{numbered}
use Rattle.wit_listing.specs.Types.{type_line}
use Rattle.wit_listing.specs.Interfaces.{interface_lines}
use Rattle.wit_listing.specs.Worlds.{world_lines}
use Rattle.wit_listing.specs.ForeignLines.{dep_lines}

-- the line of the package
abbrev pub header_text : PackageName → List ℕ
header_text name = codes "package " ++ (name_text name ++ (10 ∷ []))

-- a word and a number in a line
abbrev pub count_line : List ℕ → ℕ → List ℕ
count_line word n = word ++ (32 ∷ (decimal n ++ (10 ∷ [])))

-- the types after their number
abbrev pub types_text : List TypeDef → List ℕ
types_text types = count_line (codes "types") (length types) ++ numbered type_line 0 types

-- the interfaces after their number
abbrev pub interfaces_text : List Interface → List ℕ
interfaces_text interfaces = count_line (codes "interfaces") (length interfaces) ++ numbered interface_lines 0 interfaces

-- the worlds after their number
abbrev pub worlds_text : List Interface → List World → List ℕ
worlds_text interfaces worlds = count_line (codes "worlds") (length worlds) ++ numbered (world_lines interfaces) 0 worlds

-- what is of other packages, after the number of these packages
abbrev pub foreign_text : List (PackageName × List (List ℕ × (AstItem × List Stability))) → List ℕ
foreign_text deps = count_line (codes "foreign") (length deps) ++ flat_map dep_lines deps

-- the package
abbrev pub package_text : UnresolvedPackage → List ℕ
package_text p =
    header_text p.name ++ (types_text p.types ++ (interfaces_text p.interfaces ++ (worlds_text p.interfaces p.worlds ++ foreign_text p.foreign_deps)))
