-- The maps of interfaces that legal files make have no key twice.
use Rattle.std.proofs.Common.{◌≡◌, ℕ, false, not, List, ◌++◌, map, Some, Contains, inl, inr, refl, sym, ap, ◌∙◌, subst}
use Rattle.wit_arena.proofs.Common.{Address, All, AllDiffer, AreDistinct, Called, Def, FoldedTwice, ForeignVisit, Function, Imported, IsLegal, IsOrder, Item, Key, PackageFile, ScopeName, SideItem, Sides, SourceFunction, WorldSide, address, all_differ, all_items, all_scopes, at_split, called_key, contains_at, fault, flat_map, flat_map_at, foreign_interface, foreign_interfaces, function_in, function_name, functions, functions_imported, in_order, in_order_at, in_turn_distinct, inline_interface, inline_items, interfaces_of, is_world, item_rows, items_on, items_within, kept_all, kept_at, local_name, map_at, map_map, name_places, names_differ, names_in_turn, not-true, on_side, own_interface, own_interfaces, placed, role_side, rows_of, same_side, scope, scope_differs, scope_names, scopes_declared, scopes_inline, side_called, side_items, side_items_functions, slice_get, visited, words_of, worlds_of}
use Rattle.wit_arena.proofs.FunctionNames.{names_differ as function_names_differ}
use Rattle.wit_json.specs.DistinctKeys.{HasOwnKeys, HasOwnMembers}
use Rattle.wit_json_laws.proofs.Lists.{all_both, all_map, no_keys, own_keys}
use Rattle.wit_json_laws.proofs.Placed.{placed_differ}

-- names that differ, with their places
abbrev name_entry : (Key → ℕ) → Address → ScopeName → List ℕ × ℕ
name_entry id s x = (local_name x, id (Def s (local_name x)))

name_keys : (id : Key → ℕ) (s : Address) (xs : List ScopeName) → AreDistinct xs → HasOwnKeys (name_places id s xs)
name_keys id s xs d = own_keys (map (name_entry id s) xs) (subst AllDiffer (sym (map_map (λ (e : List ℕ × ℕ). e.0) (name_entry id s) xs)) d)

-- functions whose names differ, by their names
abbrev function_entry : (Key → ℕ) → Address → SourceFunction → List ℕ × Function
function_entry id s fn = (fn.name, function_in id s fn)

function_keys : (id : Key → ℕ) (s : Address) (fns : List SourceFunction) → AllDiffer (map function_name fns) → HasOwnKeys (placed Some (map (function_entry id s) fns))
function_keys id s fns names =
    let es = map (function_entry id s) fns in
    let differ : AllDiffer (map (λ (e : List ℕ × Function). e.0) es) = subst AllDiffer (sym (map_map (λ (e : List ℕ × Function). e.0) (function_entry id s) fns)) names in
    own_keys (placed Some es) (placed_differ Some (λ n. n) es differ (λ k e at f is. (
    let it = map_at (function_entry id s) fns k e at in
    let same : e.1 ≡ f = cc in
    subst (λ (x : List ℕ × Function). x.0 ≡ x.1.name) it.2 refl ∙ ap (λ (g : Function). g.name) same)))

module _ (files : List PackageFile) (legal : IsLegal files) where
  -- where no two names on a side of an item are one once folded, their keys differ
  pub side_keys : (i : Item) → Contains (all_scopes files) i → (order : List ℕ) → IsOrder (rows_of (scope_names i)) order → (side : WorldSide) → AllDiffer (map called_key (side_called side (scope_names i) (items_on side (side_items i)) order))
  side_keys i among order least side = all_differ called_key (λ (c : Called). fault 17 c.span) (side_called side (scope_names i) (items_on side (side_items i)) order) (λ f second. legal f (Sides i among (FoldedTwice (side, order, least, (words_of 17, second)))))

  all_imported : (i : Item) → is_world i ≡ false → on_side Imported (functions i) ≡ functions i
  all_imported i sort = kept_all (λ (fn : SourceFunction). same_side Imported (role_side fn.role)) (functions i) (λ k fn at. ap (same_side Imported) (functions_imported i sort k fn at))

  -- so do the names of the functions of an interface
  function_names : (i : Item) → Contains (all_scopes files) i → is_world i ≡ false → (order : List ℕ) → IsOrder (rows_of (scope_names i)) order → AllDiffer (map function_name (functions i))
  function_names i among sort order least =
      let alone = subst (λ (l : List SideItem). AllDiffer (map called_key (side_called Imported (scope_names i) (items_on Imported l) order))) (side_items_functions i sort) (side_keys i among order least Imported) in
      subst (λ (l : List SourceFunction). AllDiffer (map function_name l)) (all_imported i sort) (function_names_differ Imported (scope_names i) (functions i) order alone)

  foreign_members : (id : Key → ℕ) (v : ForeignVisit) → HasOwnMembers (foreign_interface files id v)
  foreign_members id v = record {
    types = name_keys id (visited v) (scope files (visited v)) (scope_differs files legal (visited v));
    functions = no_keys (List ℕ) Function;
  }

  own_members : (id : Key → ℕ) (order : Item → List ℕ) → ((i : Item) → Contains (all_scopes files) i → IsOrder (rows_of (scope_names i)) (order i)) → (i : Item) → Contains (all_scopes files) i → is_world i ≡ false → HasOwnMembers (own_interface id order i)
  own_members id order orders i among sort =
      let least : IsOrder (rows_of (scope_names i)) (order i) = orders i among in
      record {
        types = name_keys id (address i) (names_in_turn order i) (in_turn_distinct (scope_names i) (order i) least (names_differ files legal i among));
        functions = function_keys id (address i) (functions i) (function_names i among sort (order i) least);
      }

  module _ (items : List Item) (ordered : ((places : List ℕ) × IsOrder (item_rows files) places × (items ≡ in_order (all_items files) places))) where
    -- each of the items is declared
    pub items_declared : (k : ℕ) (i : Item) → slice_get items k ≡ Some i → Contains (all_items files) i
    items_declared k i at =
        let p = in_order_at (all_items files) ordered.0 k i (items_within files ordered.0 ordered.1) (ap (λ (l : List Item). slice_get l k) (sym ordered.2) ∙ at) in
        contains_at (all_items files) p.0 i p.2

    pub worlds_declared : (k : ℕ) (w : Item) → slice_get (worlds_of items) k ≡ Some w → Contains (all_items files) w
    worlds_declared k w at = (let p = kept_at is_world items k w at in items_declared p.0 w p.1)

    -- each interface is a scope of the files, and no world
    pub interfaces_among : (k : ℕ) (i : Item) → slice_get (own_interfaces items) k ≡ Some i → Contains (all_scopes files) i × (is_world i ≡ false)
    interfaces_among k i at = elim (at_split (interfaces_of items) (flat_map inline_items (worlds_of items)) k i at) [
      | inl h ↦ (
          let p = kept_at (λ (v : Item). not (is_world v)) items k i h in
          (scopes_declared files i (items_declared p.0 i p.1), not-true (is_world i) p.2))
      | inr h ↦ (
          let it = flat_map_at inline_items (worlds_of items) h.0 i h.2 in
          let inside = it.3 in
          (scopes_inline files it.1 i (worlds_declared it.0 it.1 it.2) (contains_at (inline_items it.1) inside.0 i inside.1), inline_interface it.1 inside.0 i inside.1))
    ]

    pub all_members : (id : Key → ℕ) (order : Item → List ℕ) → ((i : Item) → Contains (all_scopes files) i → IsOrder (rows_of (scope_names i)) (order i)) → All HasOwnMembers (map (foreign_interface files id) (foreign_interfaces files) ++ map (own_interface id order) (own_interfaces items))
    all_members id order orders = all_both HasOwnMembers (map (foreign_interface files id) (foreign_interfaces files)) (map (own_interface id order) (own_interfaces items))
        (all_map HasOwnMembers (foreign_interface files id) (foreign_interfaces files) (λ k v at. foreign_members id v))
        (all_map HasOwnMembers (own_interface id order) (own_interfaces items) (λ k i at. (let it = interfaces_among k i at in own_members id order orders i it.0 it.1)))
