-- The names that are taken on the sides of a world.
use Rattle.std.specs.Prelude.{List, [], ◌∷◌, if◌then◌else◌}
use Rattle.wit_tree.specs.declared.tree.WorldSide.{WorldSide}
use Rattle.wit_tree.specs.declared.tree.WorldSide.TheVariants.{Imported, Exported}
use Rattle.wit_syntax.specs.ExternPart.{same_side}
use Rattle.wit_refusals.specs.NameScopes.{Name}
use Rattle.wit_sides.specs.declared.sides.Sides.{Sides}

-- the names on a side
abbrev pub defined_on : WorldSide → Sides → List Name
defined_on Imported s = s.imports
defined_on Exported s = s.exports

-- what a name on one side adds to a side, or something else there
abbrev pub only_on : {X : Type 0} → WorldSide → WorldSide → X → List X
only_on s side x = if same_side s side then x ∷ [] else []
