-- Files that declare the same have the same scopes, with the same names and trees.
use Rattle.std.proofs.Common.{◌≡◌, ℕ, zero, suc, List, [], Option, Some, None, refl, sym, ap, ◌∙◌}
use Rattle.std.specs.Prelude.{map, find}
use Rattle.std.specs.List.{filter}
use Rattle.std.specs.Option.{option_map, option_map_or}
use Rattle.std.specs.Str.{bytes_eq}
use Rattle.wit_tree.specs.declared.tree.PackageFile.{PackageFile}
use Rattle.wit_syntax.specs.Address.{Address, InterfaceNamed, WorldNamed, InlineAt, ForeignNamed, same_address}
use Rattle.wit_syntax.specs.Node.{Node, Leaf, Named, Unnamed, Nothing, node_map, unfolded}
use Rattle.wit_syntax.specs.Repeats.{firsts}
use Rattle.wit_syntax.specs.Shape.{Prim, Word, Of}
use Rattle.wit_syntax.specs.Source.{Declared, Item, address, all_items, item_named, item_at, ScopeName, scope_names, ForeignUse, foreign_uses, first_foreign_uses, meaning, Place, named_node, about, ForeignName}
use Rattle.wit_syntax.specs.Shorthand.{same_foreign_use}
use Rattle.wit_syntax.specs.Sides.{all_scopes}
use Rattle.wit_syntax.specs.Splitting.{declared_of}
use Rattle.wit_syntax.specs.ScopesOfTrees.{scope, source_node, source_tree}
use Rattle.wit_syntax.proofs.Found.{find_at}
use Rattle.wit_syntax.proofs.JoinedLists.{map_by, find-map}
use Rattle.wit_syntax.proofs.AllUses.{item_foreign_uses, foreign_uses-filtered}
use Rattle.wit_syntax.proofs.JoinedItems.{bare, ArePlain, AreTwins, twins_inside, names_of_bare, foreign_uses_of_bare, twins_become}
use Rattle.wit_syntax.proofs.JoinedFiles.{AreAlike, items_twins}

-- what is found among twins by what is declared declares the same
module _ (is js : List Item) (t : AreTwins is js) where
  pub named_same : (name : List ℕ) → option_map declared_of (item_named is name) ≡ option_map declared_of (item_named js name)
  named_same name =
      let test = λ (d : Declared). bytes_eq (about d).id.name.now name in
      find-map test declared_of is ∙ ap (find test) t.same ∙ sym (find-map test declared_of js)

  pub at_same : (s : Address) → option_map declared_of (item_at is s) ≡ option_map declared_of (item_at js s)
  at_same s =
      let test = λ (d : Declared). same_address (about d).address s in
      find-map test declared_of is ∙ ap (find test) t.same ∙ sym (find-map test declared_of js)

-- so the names of an address are the same
abbrev bare_names : Declared → List ScopeName
bare_names d = scope_names (bare d)

names_found : (is : List Item) (s : Address) (o : Option Item) → ArePlain is → item_at is s ≡ o → option_map_or scope_names o [] ≡ option_map_or bare_names (option_map declared_of o) []
names_found is s None plain at = refl
names_found is s (Some i) plain at =
    let it = find_at (λ (v : Item). same_address (address v) s) is i at in
    names_of_bare i (plain it.0 i it.1)

pub names_at : (is js : List Item) → AreTwins is js → (s : Address) → option_map_or scope_names (item_at is s) [] ≡ option_map_or scope_names (item_at js s) []
names_at is js t s = names_found is s (item_at is s) t.left refl ∙ ap (λ (o : Option Declared). option_map_or bare_names o []) (at_same is js t s) ∙ sym (names_found js s (item_at js s) t.right refl)

-- types unfold to the same trees by steps that are the same
node_map_by : {X Y : Type 0} (f g : X → Y) → ((x : X) → f x ≡ g x) → (node : Node X) → node_map f node ≡ node_map g node
node_map_by f g same (Leaf p) = refl
node_map_by f g same (Named head form parts) = ap (Named head form) (map_by f g same parts)
node_map_by f g same (Unnamed form parts) = ap (Unnamed form) (map_by f g same parts)
node_map_by f g same Nothing = refl

unfolded_by : {X : Type 0} (a b : X → Node X) → ((x : X) → a x ≡ b x) → (n : ℕ) (x : X) → unfolded a n x ≡ unfolded b n x
unfolded_by a b same zero x = refl
unfolded_by a b same (suc n) x = node_map_by (unfolded a n) (unfolded b n) (unfolded_by a b same n) (a x) ∙ ap (node_map (unfolded b n)) (same x)

-- the names that are used from a scope
abbrev pub used_names : List PackageFile → Address → List ScopeName
used_names files s = map (λ (t : ForeignUse). ForeignName t.attributes t.id) (filter (λ (t : ForeignUse). same_address t.from s) (first_foreign_uses files))

module _ (files others : List PackageFile) (a : AreAlike files others) where
  pub scopes_twins : AreTwins (all_scopes files) (all_scopes others)
  scopes_twins = twins_inside (all_items files) (all_items others) (items_twins files others a)

  pub foreign_uses_alike : foreign_uses files ≡ foreign_uses others
  foreign_uses_alike = foreign_uses-filtered files ∙ twins_become item_foreign_uses foreign_uses_of_bare (all_items files) (all_items others) (items_twins files others a) ∙ sym (foreign_uses-filtered others)

  used_alike : (s : Address) → used_names files s ≡ used_names others s
  used_alike s = ap (λ (ts : List ForeignUse). map (λ (t : ForeignUse). ForeignName t.attributes t.id) (filter (λ (t : ForeignUse). same_address t.from s) (firsts same_foreign_use ts))) foreign_uses_alike

  pub scope_alike : (s : Address) → scope files s ≡ scope others s
  scope_alike (InterfaceNamed name) = names_at (all_scopes files) (all_scopes others) scopes_twins (InterfaceNamed name)
  scope_alike (WorldNamed name) = names_at (all_scopes files) (all_scopes others) scopes_twins (WorldNamed name)
  scope_alike (InlineAt world side place) = names_at (all_scopes files) (all_scopes others) scopes_twins (InlineAt world side place)
  scope_alike (ForeignNamed p name) = used_alike (ForeignNamed p name)

  node_alike : (place : Place) → source_node files place ≡ source_node others place
  node_alike (s, Prim p) = refl
  node_alike (s, Word id) = ap (λ (xs : List ScopeName). named_node s (meaning xs id.name.now)) (scope_alike s)
  node_alike (s, Of span form parts) = refl

  pub tree_alike : (n : ℕ) (place : Place) → source_tree files n place ≡ source_tree others n place
  tree_alike n place = unfolded_by (source_node files) (source_node others) node_alike n place
