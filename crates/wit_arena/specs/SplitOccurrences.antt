-- The first occurrences of files, and that they are the same of files that say the same.
use Rattle.std.specs.Prelude.{◌≡◌, ◌↔◌, ℕ, List, [], Contains}
use Rattle.wit_arena.specs.Names.{Declared, Item, PackageFile, UnresolvedPackage, IsOrder, all_items, all_scopes, in_order, item_rows, rows_of, scope_names}
use Rattle.wit_arena.specs.Occurrences.{Occurrence, Collects}
use Rattle.wit_arena.specs.Made.{Makes, item_turns}
use Rattle.wit_arena.specs.Whole.{all_occurrences}

-- this is what is first seen in files, where their items and the names of their scopes are resolved in order
pub record AreFirstOccurrences (files : List PackageFile) (seen : List Occurrence) : Type 0 where
  pub items : List Item
  pub in_order : (places : List ℕ) × IsOrder (item_rows files) places × (items ≡ in_order (all_items files) places)
  pub order : Declared → List ℕ
  pub names_in_order : (i : Item) → Contains (all_scopes files) i → IsOrder (rows_of (scope_names i)) (order i.declared)
  pub first : Collects [] (all_occurrences files (item_turns (λ i. order i.declared) items)) seen

-- what is first seen in the one is first seen in the others, in the same order, and each where it is written there; and it is one list
pub record HaveSameOccurrences (files others : List PackageFile) : Type 0 where
  pub both : (seen : List Occurrence) → AreFirstOccurrences files seen ↔ AreFirstOccurrences others seen
  pub one : (seen more : List Occurrence) → AreFirstOccurrences files seen → AreFirstOccurrences others more → seen ≡ more

-- what the one make the others make
abbrev pub HaveSamePackages : List PackageFile → List PackageFile → Type 0
HaveSamePackages files others = (p : UnresolvedPackage) → Makes files p ↔ Makes others p
