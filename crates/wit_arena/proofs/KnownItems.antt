-- The items of a package in their orders: each is at its address.
use Rattle.std.proofs.Common.{◌≡◌, List, [], Option, Some, sym, ap, subst}
use Rattle.wit_arena.proofs.Names.{AllDiffer, FoldedTwice, IsLegal, IsOrder, Item, PackageFile, ScopeName, Sides, address, all_scopes, function_key, functions, functions_at, functions_differ, item_at, map, option_map_or, rows_of, scope, scope_names, side_items}
use Rattle.wit_arena.proofs.Ordered.{Ordered, ordered_names}
use Rattle.wit_arena.proofs.Interfaces.{scope_at}
use Rattle.wit_arena.proofs.ScopesInTurn.{in_turn_is}
use Rattle.wit_arena.proofs.LegalScopes.{names_differ, scope_among}
use Rattle.wit_arena.proofs.Resolving.{IsTurn}

-- an item is at its address, and has the order of the table of its names
pub record IsItem (files : List PackageFile) (o : Ordered) : Type 0 where
  pub found : item_at (all_scopes files) (address o.item) ≡ Some o.item
  pub least : IsOrder (rows_of (scope_names o.item)) o.order

module _ (files : List PackageFile) (legal : IsLegal files) where
  -- so the scope at its address has its names, each once, and its functions, no two of one side and name
  module _ (o : Ordered) (it : IsItem files o) where
    pub scope_is : scope files (address o.item) ≡ scope_names o.item
    scope_is = scope_at files (address o.item) o.item it.found

    pub functions_are : functions_at files (address o.item) ≡ functions o.item
    functions_are = ap (λ (i : Option Item). option_map_or functions i []) it.found

    pub turn_is : IsTurn (scope files (address o.item)) (ordered_names o)
    turn_is = subst (λ (l : List ScopeName). IsTurn l (ordered_names o)) (sym scope_is) (in_turn_is (scope_names o.item) o.order it.least (names_differ files legal o.item (scope_among files legal (address o.item) o.item it.found)))

    pub functions_apart : AllDiffer (map function_key (functions o.item))
    functions_apart = functions_differ (scope_names o.item) (side_items o.item) o.order it.least (λ f twice. legal f (Sides o.item (scope_among files legal (address o.item) o.item it.found) (FoldedTwice twice)))
