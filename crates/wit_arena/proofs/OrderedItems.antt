-- The interfaces and the worlds of files in their order, and interfaces that were resolved among them.
use Rattle.std.proofs.Common.{◌≡◌, ℕ, false, not, List, Some, None, ap, Contains}
use Rattle.wit_arena.proofs.Names.{Address, AllDiffer, InterfaceNamed, IsOrder, Item, PackageFile, all_items, at_contains, env_of, in_order, interfaces_of, is_world, item_name, item_rows, kept_has, map, meaning, scope, slice_get, worlds_of}
use Rattle.wit_arena.proofs.Resolving.{DoneScope, AreDoneNames}
use Rattle.wit_arena.proofs.Meant.{lacks_nothing}
use Rattle.wit_arena.proofs.Interfaces.{AreItems, items_kept}
use Rattle.wit_arena.proofs.Itemizing.{item_index, are_items}

-- a name that the table of a scope lacks means nothing in it
pub unstated : (files : List PackageFile) (c : DoneScope) (name : List ℕ) → AreDoneNames files c → env_of c.types name ≡ None → meaning (scope files c.address) name ≡ None
unstated files c name d free = lacks_nothing (scope files c.address) c.names c.types d.listed name d.turn.has free

module _ (files : List PackageFile) (places : List ℕ) (order : IsOrder (item_rows files) places) (differ : AllDiffer (map item_name (all_items files))) where
  -- the interfaces of files in their order, and the worlds
  abbrev pub interfaces : List Item
  interfaces = interfaces_of (in_order (all_items files) places)

  abbrev pub worlds : List Item
  worlds = worlds_of (in_order (all_items files) places)

  pub are_interfaces : AreItems files interfaces
  are_interfaces = items_kept files (λ (i : Item). not (is_world i)) (in_order (all_items files) places) (are_items files places order differ)

  pub are_worlds : AreItems files worlds
  are_worlds = items_kept files is_world (in_order (all_items files) places) (are_items files places order differ)

  -- an item is an interface or a world of these
  pub interface_at : (w : Item) → is_world w ≡ false → Contains (all_items files) w → (t : ℕ) × (slice_get interfaces t ≡ Some w)
  interface_at w sort among =
      let p = at_contains (all_items files) w among in
      let t = item_index files places order p.0 w p.1 in
      kept_has (λ (i : Item). not (is_world i)) (in_order (all_items files) places) t.0 w (ap not sort) t.2

  -- an interface of the package that was resolved among these, from which a name is used
  pub record IsResolvedUse (vs : List Item) (from : Address) : Type 0 where
    pub place : ℕ
    pub item : Item
    pub at : slice_get vs place ≡ Some item
    pub sort : is_world item ≡ false
    pub is : from ≡ InterfaceNamed (item_name item)
