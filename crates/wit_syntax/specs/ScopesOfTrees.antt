-- The names of each scope, and what written types mean, by lexical scope.
use Rattle.std.specs.Prelude.{ℕ, List, [], map}
use Rattle.std.specs.List.{filter}
use Rattle.std.specs.Option.{option_map_or}
use Rattle.wit_tree.specs.declared.tree.PackageFile.{PackageFile}
use Rattle.wit_syntax.specs.Address.{Address, ForeignNamed, same_address}
use Rattle.wit_syntax.specs.Node.{primitive_type, Node, Leaf, Unnamed, Tree, unfolded}
use Rattle.wit_syntax.specs.Shape.{Prim, Word, Of}
use Rattle.wit_syntax.specs.Source.{ScopeName, scope_names, item_at, ForeignUse, ForeignName, first_foreign_uses, meaning, Place, placed, named_node}
use Rattle.wit_syntax.specs.Sides.{all_scopes}

-- the names of a scope: those that are used from another package's item, or those of the item at its address
abbrev pub scope : List PackageFile → Address → List ScopeName
scope files (ForeignNamed p name) = map (λ (t : ForeignUse). ForeignName t.attributes t.id) (filter (λ t. same_address t.from (ForeignNamed p name)) (first_foreign_uses files))
scope files s = option_map_or scope_names (item_at (all_scopes files) s) []

-- one level of a written type: a name means what its scope says, every other form means itself
abbrev pub source_node : List PackageFile → Place → Node Place
source_node files (s, Prim p) = Leaf (primitive_type p)
source_node files (s, Word id) = named_node s (meaning (scope files s) id.name.now)
source_node files (s, Of span form parts) = Unnamed form (placed s parts)

-- the tree of a written type, to n levels
abbrev pub source_tree : List PackageFile → (n : ℕ) → Place → Tree n
source_tree files n place = unfolded (source_node files) n place
