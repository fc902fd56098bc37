-- The paths that an item needs are those of its parts: of an interface all by which it uses names, and of a world those of includes.
use Rattle.std.proofs.Common.{◌≡◌, List, [], ◌∷◌, ◌++◌, map, refl, ap, ◌∙◌}
use Rattle.std.specs.Prelude.{if◌then◌else◌}
use Rattle.std.specs.List.{flat_map}
use Rattle.wit_tree.specs.declared.tree.Include.{Include}
use Rattle.wit_tree.specs.declared.tree.InterfaceItem.{InterfaceItem}
use Rattle.wit_tree.specs.declared.tree.InterfaceItem.TheVariants as interface_item
use Rattle.wit_tree.specs.declared.tree.Use.{Use}
use Rattle.wit_tree.specs.declared.tree.UsePath.{UsePath}
use Rattle.wit_syntax.specs.Source.{Declared, Item, Part, TheInline, TheInterface, TheWorld, about, interface_part, is_world, own_uses, world_part}
use Rattle.wit_syntax.specs.ScopeTables.{include_path, include_paths, needed_paths, part_includes, use_path, use_paths}
use Rattle.std.proofs.lemmas.List.{map-append}

of_includes : (ps : List Part) → map (λ (n : Include). n.from) (flat_map part_includes ps) ≡ flat_map include_path ps
of_includes [] = refl
of_includes (p ∷ ps) = map-append (λ (n : Include). n.from) (part_includes p) (flat_map part_includes ps) ∙ ap (λ (l : List UsePath). include_path p ++ l) (of_includes ps)

of_uses : (items : List InterfaceItem) → map (λ (u : Use). u.from) (flat_map own_uses (map interface_part items)) ≡ flat_map use_path (map interface_part items)
of_uses [] = refl
of_uses (interface_item.TypeDef d ∷ items) = of_uses items
of_uses (interface_item.Use u ∷ items) = ap (λ (l : List UsePath). u.from ∷ l) (of_uses items)
of_uses (interface_item.Func f ∷ items) = of_uses items

pub needed-paths : (i : Item) → needed_paths i ≡ (if is_world i then include_paths i else use_paths i)
needed-paths i = by i.declared
  where
    by : (d : Declared) → (if (about d).is_world then map (λ (n : Include). n.from) (flat_map part_includes (about d).parts) else map (λ (u : Use). u.from) (flat_map own_uses (about d).parts)) ≡ (if (about d).is_world then flat_map include_path (about d).parts else flat_map use_path (about d).parts)
    by (TheInterface j) = of_uses j.items.items
    by (TheWorld w) = of_includes (map world_part w.items.items)
    by (TheInline world place x name items) = of_uses items
