-- Files that are split, and the one file that they come to when they are joined.
use Rattle.std.specs.Prelude.{◌≡◌, ◌↔◌, ℕ, List, [], ◌∷◌, Some, map, Contains}
use Rattle.std.specs.List.{flat_map}
use Rattle.wit_tree.specs.declared.tree.AstItem.{AstItem}
use Rattle.wit_tree.specs.declared.tree.AstItem.TheVariants as ast
use Rattle.wit_tree.specs.declared.tree.PackageFile.{PackageFile}
use Rattle.wit_tree.specs.declared.tree.PackageName.{PackageName as Header}
use Rattle.wit_tree.specs.declared.tree.ToplevelUse.{ToplevelUse}
use Rattle.wit_graph.specs.Table.{IsOrder}
use Rattle.wit_syntax.specs.Address.{Address, InterfaceNamed, WorldNamed}
use Rattle.wit_syntax.specs.Source.{leads, Declared, Item, all_items, Place, target_scope}
use Rattle.wit_syntax.specs.ScopeTables.{use_paths, include_paths, item_rows}
use Rattle.wit_syntax.specs.Sides.{all_scopes}
use Rattle.wit_syntax.specs.Foreign.{foreign_visits}
use Rattle.wit_syntax.specs.ScopesOfTrees.{scope, source_tree}
use Rattle.wit_syntax.specs.Broken.{headers, IsLegal}

-- the declarations of a file
abbrev pub file_declarations : PackageFile → List AstItem
file_declarations f = f.decl_list.items.items

-- all declarations of files, in push order and then in source order
abbrev pub declarations : List PackageFile → List AstItem
declarations files = flat_map file_declarations files

-- The files have no `use` at the top and exactly one header, and the one file has that header and all their declarations, in order.
pub record IsJoined (files : List PackageFile) (one : PackageFile) : Type 0 where
  pub no_use : (u : ToplevelUse) → Contains (declarations files) (ast.Use u) → ⊥
  pub header : Header
  pub one_header : headers files ≡ header ∷ []
  pub own_header : one.package_id ≡ Some header
  pub own_declarations : file_declarations one ≡ declarations files

-- what an item is, without the names at the top of its file
abbrev pub declared_of : Item → Declared
declared_of i = i.declared

-- the scopes that an item uses, and that it imports or exports by their paths, and those that it includes
abbrev pub used_scopes : Item → List Address
used_scopes i = map (λ path. target_scope InterfaceNamed (leads i.top path)) (use_paths i)

abbrev pub included_scopes : Item → List Address
included_scopes i = map (λ path. target_scope WorldNamed (leads i.top path)) (include_paths i)

-- These files have the same visits to other packages, and break a rule both or neither; they have the same items and scopes, in order, which
-- say the same, lead to the same, and have the same names, with the same trees; and their items have the same orders.
pub record IsSplit (files others : List PackageFile) : Type 0 where
  pub visits : foreign_visits files ≡ foreign_visits others
  pub legal : IsLegal files ↔ IsLegal others
  pub items : map declared_of (all_items files) ≡ map declared_of (all_items others)
  pub scopes : map declared_of (all_scopes files) ≡ map declared_of (all_scopes others)
  pub used : map used_scopes (all_scopes files) ≡ map used_scopes (all_scopes others)
  pub included : map included_scopes (all_scopes files) ≡ map included_scopes (all_scopes others)
  pub names : (s : Address) → scope files s ≡ scope others s
  pub trees : (n : ℕ) (place : Place) → source_tree files n place ≡ source_tree others n place
  pub orders : (places : List ℕ) → IsOrder (item_rows files) places ↔ IsOrder (item_rows others) places
