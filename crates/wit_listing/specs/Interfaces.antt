-- The interfaces of a package in its listing: a line for each, and for each of its types and functions.
use Rattle.std.specs.Prelude.{ℕ, List, [], ◌∷◌, ◌++◌, Option, Some, None, codes}
use Rattle.std.specs.List.{flat_map}
use Rattle.std.specs.Fmt.{decimal}
use Rattle.wit_functions.specs.declared.function.Function.{Function}
use Rattle.wit_model.specs.declared.interface.Interface.{Interface}
use Rattle.wit_listing.specs.ListingTexts.{stability_text}
use Rattle.wit_listing.specs.Functions.{signature_text}

-- a name, or `-` where there is none
abbrev pub name_text : Option (List ℕ) → List ℕ
name_text None = codes "-"
name_text (Some name) = name

-- the line of a type's name and place
abbrev pub named_type_line : List ℕ × ℕ → List ℕ
named_type_line p = codes "  " ++ (p.0 ++ (codes " = type #" ++ (decimal p.1 ++ (10 ∷ []))))

-- the line of a function by its name
abbrev pub function_line : List ℕ × Function → List ℕ
function_line p = codes "  " ++ (p.0 ++ (codes " = " ++ (signature_text p.1 ++ (stability_text p.1.stability ++ (10 ∷ [])))))

-- the line of an interface, and those of what it holds
abbrev pub interface_lines : ℕ → Interface → List ℕ
interface_lines place i = 105 ∷ (decimal place ++ (32 ∷ (name_text i.name ++ (stability_text i.stability ++ (10 ∷ (flat_map named_type_line i.types ++ flat_map function_line i.functions))))))
