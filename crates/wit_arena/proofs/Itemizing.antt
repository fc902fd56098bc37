-- The items of files, in an order of their table.
use Rattle.std.proofs.Common.{◌≡◌, ℕ, zero, ◌<◌, List, length, Some, sym, ap, ◌∙◌, subst, arith}
use Rattle.wit_arena.proofs.Names.{Address, AllDiffer, AreOwn, Attribute, DefinitionPart, ForeignName, IsOrder, Item, PackageFile, Part, TopName, UseName, UsePart, Used, all_items, differ_by, flat_map, flat_map_at, in_order, in_order_at, in_order_read, index_of, index_once, item_name, item_row, item_rows, key_at, length-map, map, map_at, named_found, order_within, part_names, parts, path_scope, scope_names, slice_get, slice_get_within}
use Rattle.wit_syntax.proofs.Common.{Use}
use Rattle.wit_arena.proofs.Interfaces.{AreItems}

-- each item has a row
pub length-item_rows : (files : List PackageFile) → length (item_rows files) ≡ length (all_items files)
length-item_rows files = length-map (all_items files) item_row

-- a used name is that of a `use` among the parts, and comes from where its path leads to
pub used_part : (top : List TopName) (ps : List Part) (k : ℕ) (from : Address) (attributes : List Attribute) (n : UseName) → slice_get (flat_map (part_names top) ps) k ≡ Some (Used from attributes n) → (m : ℕ) × (u : Use) × (slice_get ps m ≡ Some (UsePart u)) × ((j : ℕ) × (slice_get u.names.items j ≡ Some n)) × (from ≡ path_scope top u.from)
used_part top ps k from attributes n at =
    let it = flat_map_at (part_names top) ps k (Used from attributes n) at in
    of_part it.0 it.1 it.2 it.3.0 it.3.1
  where
    of_part : (m : ℕ) (part : Part) → slice_get ps m ≡ Some part → (j : ℕ) → slice_get (part_names top part) j ≡ Some (Used from attributes n) → (m : ℕ) × (u : Use) × (slice_get ps m ≡ Some (UsePart u)) × ((j : ℕ) × (slice_get u.names.items j ≡ Some n)) × (from ≡ path_scope top u.from)
    of_part m (UsePart u) there j is =
        let x = map_at (Used (path_scope top u.from) u.attributes.items) u.names.items j (Used from attributes n) is in
        let name : x.0 ≡ n = cc x.2 in
        (m, u, there, (j, x.1 ∙ ap Some name), cc x.2)
    of_part m (DefinitionPart d) there zero is = cc
    of_part m _ there j is = cc

-- no name of an item is taken from another package
pub own_names : (w : Item) → AreOwn (scope_names w)
own_names w k attributes id at =
    let it = flat_map_at (part_names w.top) (parts w) k (ForeignName attributes id) at in
    of_part it.1 it.3.0 it.3.1
  where
    of_part : (part : Part) (j : ℕ) → slice_get (part_names w.top part) j ≡ Some (ForeignName attributes id) → ⊥
    of_part (DefinitionPart d) zero is = cc
    of_part (UsePart u) j is = (let x = map_at (Used (path_scope w.top u.from) u.attributes.items) u.names.items j (ForeignName attributes id) is in cc x.2)
    of_part _ j is = cc

module _ (files : List PackageFile) (places : List ℕ) (order : IsOrder (item_rows files) places) where
  pub items_within : (j p : ℕ) → slice_get places j ≡ Some p → p < length (all_items files)
  items_within j p at = subst (λ (n : ℕ). p < n) (length-item_rows files) (order_within (item_rows files) places order j p at)

  -- each item is in the order
  pub item_index : (p : ℕ) (w : Item) → slice_get (all_items files) p ≡ Some w → (t : ℕ) × (slice_get places t ≡ Some p) × (slice_get (in_order (all_items files) places) t ≡ Some w)
  item_index p w at =
      let lt = slice_get_within (all_items files) p w at in
      let it = index_of (item_rows files) places p order (omega (arith, length-item_rows files)) in
      (it.0, it.1, in_order_read (all_items files) places it.0 p w items_within it.1 at)

  pub are_items : AllDiffer (map item_name (all_items files)) → AreItems files (in_order (all_items files) places)
  are_items differ = record {
    found = λ t w at. (let p = in_order_at (all_items files) places t w items_within at in named_found (all_items files) p.0 w differ p.2);
    unique = differ_by item_name (in_order (all_items files) places) (λ i j v w ati atj same. (
        let p = in_order_at (all_items files) places i v items_within ati in
        let q = in_order_at (all_items files) places j w items_within atj in
        let one = differ.differ p.0 q.0 (item_name v) (key_at item_name (all_items files) p.0 v p.2) (key_at item_name (all_items files) q.0 w q.2 ∙ ap Some (sym same)) in
        index_once (item_rows files) places i j p.0 q.0 order p.1 q.1 one));
  }
