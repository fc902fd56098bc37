-- What a world imports or exports: the side that it is on, and the path of an interface that it gives.
use Rattle.std.specs.Prelude.{Bool, true, false, List, [], ◌∷◌}
use Rattle.wit_tree.specs.declared.tree.UsePath.{UsePath}
use Rattle.wit_tree.specs.declared.tree.ExternKind.{ExternKind}
use Rattle.wit_tree.specs.declared.tree.ExternKind.TheVariants as extern
use Rattle.wit_tree.specs.declared.tree.WorldSide.{WorldSide}
use Rattle.wit_tree.specs.declared.tree.WorldSide.TheVariants.{Imported, Exported}

-- whether two sides are one
abbrev pub same_side : WorldSide → WorldSide → Bool
same_side Imported Imported = true
same_side Exported Exported = true
same_side _ _ = false

-- the path of an interface that is imported or exported by it, perhaps under a name of its own
abbrev pub extern_paths : ExternKind → List UsePath
extern_paths (extern.Path path) = path ∷ []
extern_paths (extern.NamedPath name path) = path ∷ []
extern_paths _ = []
