-- Setters of an interface: all its functions are on one side, and it includes nothing.
use Rattle.std.proofs.Common.{◌≡◌, false, List, [], ◌∷◌, map, refl}
use Rattle.std.specs.List.{flat_map}
use Rattle.wit_tree.specs.declared.tree.InterfaceItem.{InterfaceItem}
use Rattle.wit_tree.specs.declared.tree.InterfaceItem.TheVariants as interface_item
use Rattle.wit_syntax.specs.ScopeTables.{part_includes, includes}
use Rattle.wit_syntax.specs.Source.{Declared, TheInterface, TheWorld, TheInline, interface_part, Item, is_world, about}

pub parts_include : (items : List InterfaceItem) → flat_map part_includes (map interface_part items) ≡ []
parts_include [] = refl
parts_include (interface_item.TypeDef d ∷ items) = parts_include items
parts_include (interface_item.Use u ∷ items) = parts_include items
parts_include (interface_item.Func g ∷ items) = parts_include items

pub declared_includes : (d : Declared) → (about d).is_world ≡ false → flat_map part_includes (about d).parts ≡ []
declared_includes (TheInterface i) own = parts_include i.items.items
declared_includes (TheWorld w) own = absurd (let f : ⊥ = cc in f)
declared_includes (TheInline world place x name items) own = parts_include items

-- an interface includes nothing
pub includes_none : (i : Item) → is_world i ≡ false → includes i ≡ []
includes_none i own = declared_includes i.declared own
