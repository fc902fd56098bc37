-- The scopes of a package differ, so each has one place.
use Rattle.std.proofs.Common.{◌≡◌, ℕ, List, not, sym, subst}
use Rattle.wit_arena.proofs.Names.{AllDiffer, IsLegal, IsOrder, Item, PackageFile, all_items, in_order, interface_scopes, interfaces_of, is_world, item_rows, world_scopes, worlds_of}
use Rattle.wit_syntax.proofs.Common.{Names}
use Rattle.wit_arena.proofs.DoneWorlds.{all_addresses}
use Rattle.wit_arena.proofs.Interfaces.{AreAddresses, AreItems, interfaces_sort, worlds_sort, items_kept}
use Rattle.wit_arena.proofs.Itemizing.{are_items}
use Rattle.wit_arena.proofs.LegalScopes.{distinct_items}

module _ (files : List PackageFile) (legal : IsLegal files) (items : List Item) (ordered : ((places : List ℕ) × IsOrder (item_rows files) places × (items ≡ in_order (all_items files) places))) where
  -- each item is the first of its name, and no two have one
  pub ordered_items : AreItems files items
  ordered_items = subst (λ (is : List Item). AreItems files is) (sym ordered.2) (are_items files ordered.0 ordered.1 (distinct_items files (λ f broken. legal f (Names broken))))

  -- no two scopes of interfaces and of worlds are one
  pub scopes_apart : AreAddresses (interface_scopes files items) (world_scopes files items)
  scopes_apart = all_addresses files (interfaces_of items) (worlds_of items) (interfaces_sort items) (worlds_sort items) (items_kept files (λ (i : Item). not (is_world i)) items ordered_items) (items_kept files is_world items ordered_items)

  pub interface_scopes-differ : AllDiffer (interface_scopes files items)
  interface_scopes-differ = scopes_apart.interfaces

  pub world_scopes-differ : AllDiffer (world_scopes files items)
  world_scopes-differ = scopes_apart.worlds
