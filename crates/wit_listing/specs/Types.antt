-- The types of a package in its listing, a line for each.
use Rattle.std.specs.Prelude.{ℕ, List, [], ◌∷◌, ◌++◌, Option, Some, None, codes}
use Rattle.std.specs.Fmt.{decimal}
use Rattle.wit_types.specs.declared.types.TypeOwner.{TypeOwner}
use Rattle.wit_types.specs.declared.types.TypeOwner.TheVariants as owner
use Rattle.wit_types.specs.declared.types.TypeDef.{TypeDef}
use Rattle.wit_listing.specs.ListingTexts.{stability_text}
use Rattle.wit_listing.specs.Kinds.{kind_text}

-- a world or an interface by its place
abbrev pub owner_place : TypeOwner → List ℕ
owner_place (owner.World w) = 119 ∷ decimal w
owner_place (owner.Interface i) = 105 ∷ decimal i
owner_place owner.None = codes "-"

-- the name of a type after that of its owner, or `-`
abbrev pub owner_text : TypeOwner → Option (List ℕ) → List ℕ
owner_text o None = codes "-"
owner_text o (Some name) = owner_place o ++ (46 ∷ name)

-- the line of a type
abbrev pub type_line : ℕ → TypeDef → List ℕ
type_line place t = 35 ∷ (decimal place ++ (32 ∷ (owner_text t.owner t.name ++ (codes " = " ++ (kind_text t.kind ++ (stability_text t.stability ++ (10 ∷ [])))))))
