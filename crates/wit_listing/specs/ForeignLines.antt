-- Interfaces and worlds of other packages in a listing: a line for each.
use Rattle.std.specs.Prelude.{ℕ, List, [], ◌∷◌, ◌++◌, length}
use Rattle.std.specs.List.{flat_map}
use Rattle.std.specs.Fmt.{decimal}
use Rattle.wit_types.specs.declared.stability.Stability.{Stability}
use Rattle.wit_model.specs.declared.ast_item.AstItem.{AstItem}
use Rattle.wit_model.specs.declared.ast_item.AstItem.TheVariants as item
use Rattle.wit_package_names.specs.declared.package_name.PackageName.{PackageName}
use Rattle.wit_package_names.specs.PackageName.{name_text}

-- an interface or a world by its place
abbrev pub item_place : AstItem → List ℕ
item_place (item.Interface i) = 105 ∷ decimal i
item_place (item.World w) = 119 ∷ decimal w

-- the line of an item of a package: both names, its place, and how many paths lead to it
abbrev pub item_line : PackageName → List ℕ × (AstItem × List Stability) → List ℕ
item_line p e = name_text p ++ (32 ∷ (e.0 ++ (32 ∷ (item_place e.1.0 ++ (32 ∷ (decimal (length e.1.1) ++ (10 ∷ [])))))))

-- the lines of the items of a package
abbrev pub dep_lines : PackageName × List (List ℕ × (AstItem × List Stability)) → List ℕ
dep_lines d = flat_map (item_line d.0) d.1
