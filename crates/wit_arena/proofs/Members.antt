-- What is on the sides of a world, made and resolved in one walk over what is there and over the interfaces that are written there.
use Rattle.std.proofs.Common.{◌≡◌, ℕ, List, [], ◌∷◌, ◌++◌, refl, ap}
use Rattle.wit_arena.specs.Names.{Address, Function, Item, SideFunction, SideInline, SideItem, SideLink, SourceFunction, TopName, WorldItem, WorldKey, WorldSide, address, flat_map, inline_after, inline_items, members_after, path_scope, role_side, side_items}
use Rattle.wit_model.specs.declared.world.WorldKey.TheVariants as key
use Rattle.wit_model.specs.declared.world.WorldItem.TheVariants as item
use Rattle.wit_arena.specs.Made.{function_in, interface_turn, member_entries, member_turns, names_in_turn, scope_place, turns_of_world, world_entries}
use Rattle.wit_arena.specs.Occurrences.{Key}
use Rattle.wit_arena.specs.SourceFunctions.{inline_entry, link_item}
use Rattle.wit_arena.specs.Whole.{Turned}

abbrev pub side_entries : (SourceFunction → Function) → List Address → List TopName → List SideItem → List Item → List (WorldSide × (WorldKey × WorldItem))
side_entries function ss top [] is = []
side_entries function ss top (SideFunction fn ∷ xs) is = (role_side fn.role, (key.Name fn.name, item.Function (function fn))) ∷ side_entries function ss top xs is
side_entries function ss top (SideLink link ∷ xs) is = (link.side, link_item link (scope_place ss (path_scope top link.path))) ∷ side_entries function ss top xs is
side_entries function ss top (SideInline x name items ∷ xs) [] = side_entries function ss top xs []
side_entries function ss top (SideInline x name items ∷ xs) (i ∷ is) = (x.side, inline_entry x name (scope_place ss (address i))) ∷ side_entries function ss top xs is

abbrev pub walked_entries : (Key → ℕ) → List Address → Item → List (WorldSide × (WorldKey × WorldItem))
walked_entries id ss i = side_entries (function_in id (address i)) ss i.top (side_items i) (inline_items i)

pub entries_walked : (i : Item) (id : Key → ℕ) (ss : List Address) → world_entries id ss i ≡ walked_entries id ss i
entries_walked i id ss = walked [] (side_items i)
  where
    walked : (before xs : List SideItem) → flat_map (λ (m : SideItem × List Item). member_entries (function_in id (address i)) ss i.top m.0 m.1) (members_after i before xs) ≡ side_entries (function_in id (address i)) ss i.top xs (inline_after i before xs)
    walked before [] = refl
    walked before (SideFunction fn ∷ xs) = cc (walked (before ++ SideFunction fn ∷ []) xs)
    walked before (SideLink link ∷ xs) = cc (walked (before ++ SideLink link ∷ []) xs)
    walked before (SideInline x name items ∷ xs) = cc (walked (before ++ SideInline x name items ∷ []) xs)

abbrev pub turns_on_sides : (Item → List ℕ) → Address → List SideItem → List Item → List Turned
turns_on_sides order s [] is = []
turns_on_sides order s (SideFunction fn ∷ xs) is = record { address = s; names = []; functions = fn ∷ [] } ∷ turns_on_sides order s xs is
turns_on_sides order s (SideInline x name items ∷ xs) (i ∷ is) = interface_turn order i ∷ turns_on_sides order s xs is
turns_on_sides order s (x ∷ xs) is = turns_on_sides order s xs is

abbrev pub walked_turns : (Item → List ℕ) → Item → List Turned
walked_turns order i = record { address = address i; names = names_in_turn order i; functions = [] } ∷ turns_on_sides order (address i) (side_items i) (inline_items i)

pub turns_walked : (i : Item) (order : Item → List ℕ) → turns_of_world order i ≡ walked_turns order i
turns_walked i order = ap (λ (l : List Turned). record { address = address i; names = names_in_turn order i; functions = [] } ∷ l) (walked [] (side_items i))
  where
    walked : (before xs : List SideItem) → flat_map (λ (m : SideItem × List Item). member_turns order (address i) m.0 m.1) (members_after i before xs) ≡ turns_on_sides order (address i) xs (inline_after i before xs)
    walked before [] = refl
    walked before (SideFunction fn ∷ xs) = cc (walked (before ++ SideFunction fn ∷ []) xs)
    walked before (SideLink link ∷ xs) = walked (before ++ SideLink link ∷ []) xs
    walked before (SideInline x name items ∷ xs) = cc (walked (before ++ SideInline x name items ∷ []) xs)
