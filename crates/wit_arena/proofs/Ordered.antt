-- Items with an order of their names, the one that they have, and what is resolved in it.
use Rattle.std.proofs.Common.{◌≡◌, ◌⊎◌, ℕ, List, [], ◌++◌, inl, inr, sym, subst}
use Rattle.wit_arena.proofs.Names.{IsOrder, Item, PackageFile, Row, ScopeName, Turned, address, flat_map, functions as item_functions, in_turn, interface_turn, map, one_answer, rows_of, scope, scope_names}
use Rattle.wit_graph.specs.Laws.{AreAccepted, AreRefused}
use Rattle.wit_arena.proofs.Members.{walked_turns}

-- an item, with an order of its names
pub record Ordered : Type 0 where
  pub item : Item
  pub order : List ℕ

-- the names of an item: the used ones, and then the definitions in its order
abbrev pub ordered_names : Ordered → List ScopeName
ordered_names o = in_turn (scope_names o.item) o.order

abbrev pub turned : Ordered → Turned
turned o = record { address = address o.item; names = ordered_names o; functions = item_functions o.item }

-- the least order of a table, where it has one
chosen : (rs : List Row) → AreAccepted rs ⊎ AreRefused rs → (o : List ℕ) × ((p : List ℕ) → IsOrder rs p → o ≡ p)
chosen rs (inl a) = (a.0, λ p h. (one_answer rs).one a.0 p a.1 h)
chosen rs (inr r) = ([], λ p h. absurd ((one_answer rs).never_both (p, h) r))

pub order_of_rows : (rs : List Row) → (o : List ℕ) × ((p : List ℕ) → IsOrder rs p → o ≡ p)
order_of_rows rs = chosen rs (one_answer rs).either

-- that of the names of an item, by its address
abbrev pub item_order : List PackageFile → Item → List ℕ
item_order files i = (order_of_rows (rows_of (scope files (address i)))).0

pub item_order_is : (files : List PackageFile) (i : Item) (o : List ℕ) → scope files (address i) ≡ scope_names i → IsOrder (rows_of (scope_names i)) o → item_order files i ≡ o
item_order_is files i o same least = (order_of_rows (rows_of (scope files (address i)))).1 o (subst (λ (xs : List ScopeName). IsOrder (rows_of xs) o) (sym same) least)

-- an item, as it is resolved
abbrev pub in_its_order : List PackageFile → Item → Ordered
in_its_order files i = record { item = i; order = item_order files i }

abbrev pub item_turn : List PackageFile → Item → Turned
item_turn files i = interface_turn (item_order files) i

-- a world, and interfaces and then worlds
abbrev pub world_turns : List PackageFile → Item → List Turned
world_turns files w = walked_turns (item_order files) w

abbrev pub all_turns : List PackageFile → List Item → List Item → List Turned
all_turns files is ws = map (item_turn files) is ++ flat_map (world_turns files) ws
