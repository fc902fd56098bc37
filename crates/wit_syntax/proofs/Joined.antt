-- Files without a `use` at the top and with one header say the same as the one file that they come to.
use Rattle.std.proofs.Common.{◌≡◌, List, [], ◌∷◌}
use Rattle.wit_tree.specs.declared.tree.UsePath.{UsePath}
use Rattle.wit_tree.specs.declared.tree.PackageFile.{PackageFile}
use Rattle.wit_syntax.specs.Source.{leads, Item, target_scope}
use Rattle.wit_syntax.specs.ScopeTables.{use_paths, include_paths}
use Rattle.wit_syntax.specs.Sides.{all_scopes}
use Rattle.wit_syntax.specs.Splitting.{IsJoined, used_scopes, included_scopes, IsSplit}
use Rattle.wit_syntax.proofs.JoinedLists.{map_by}
use Rattle.wit_syntax.proofs.JoinedTargets.{AreThemselves, used_same, included_same}
use Rattle.wit_syntax.proofs.JoinedItems.{bare, no_names, twins_make}
use Rattle.wit_syntax.proofs.JoinedFiles.{AreAlike, alike_back, items_twins, visits_same, joined_alike}
use Rattle.wit_syntax.proofs.JoinedOrders.{order_onward}
use Rattle.wit_syntax.proofs.JoinedTrees.{scopes_twins, scope_alike, tree_alike}
use Rattle.wit_syntax.proofs.JoinedLegal.{legal_back}
use Rattle.wit_syntax.specs.Address.{InterfaceNamed, WorldNamed}

-- the scopes that the paths of an item lead to are given by what it declares
used_stated : (i : Item) → AreThemselves i.top → used_scopes i ≡ used_scopes (bare i.declared)
used_stated i own = map_by (λ (path : UsePath). target_scope InterfaceNamed (leads i.top path)) (λ (path : UsePath). target_scope InterfaceNamed (leads [] path)) (used_same i.top [] own no_names) (use_paths i)

included_stated : (i : Item) → AreThemselves i.top → included_scopes i ≡ included_scopes (bare i.declared)
included_stated i own = map_by (λ (path : UsePath). target_scope WorldNamed (leads i.top path)) (λ (path : UsePath). target_scope WorldNamed (leads [] path)) (included_same i.top [] own no_names) (include_paths i)

pub alike_split : (files others : List PackageFile) → AreAlike files others → IsSplit files others
alike_split files others a =
    let back = alike_back files others a in
    let scopes = scopes_twins files others a in
    record {
      visits = visits_same files others a;
      legal = (legal_back others files back, legal_back files others a);
      items = (items_twins files others a).same;
      scopes = scopes.same;
      used = twins_make used_scopes used_stated (all_scopes files) (all_scopes others) scopes;
      included = twins_make included_scopes included_stated (all_scopes files) (all_scopes others) scopes;
      names = scope_alike files others a;
      trees = tree_alike files others a;
      orders = λ places. (order_onward files others a places, order_onward others files back places);
    }

pub joined_split : (files : List PackageFile) (one : PackageFile) → IsJoined files one → IsSplit files (one ∷ [])
joined_split files one j = alike_split files (one ∷ []) (joined_alike files one j)
