-- Names on a side with the words for what has them, as a table lists them, and E44 by such a list.
use Rattle.std.specs.Prelude.{ℕ, if◌then◌else◌, List, [], ◌∷◌, ◌++◌, codes, map}
use Rattle.std.specs.List.{flat_map}
use Rattle.std.specs.Str.{bytes_eq}
use Rattle.wit_tree.specs.declared.tree.WorldSide.{WorldSide}
use Rattle.wit_values.specs.declared.span.Span.{Span}
use Rattle.wit_syntax.specs.Fault.{Fault, fault_in}
use Rattle.wit_syntax.specs.ScopeTables.{in_turn}
use Rattle.wit_syntax.specs.SignatureRules.{Called, name_called}
use Rattle.wit_syntax.specs.Sides.{SideItem, item_called, names_on}
use Rattle.wit_syntax.specs.Source.{ScopeName}
use Rattle.wit_syntax.specs.Words.{side_word}

abbrev pub Sorted : Type 0
Sorted = List ℕ × List ℕ

abbrev pub sorted_name : Called → Sorted
sorted_name c = (c.name, c.sort)

abbrev pub item_sorted : SideItem → List Sorted
item_sorted x = map sorted_name (item_called x)

-- those of a side: types, and then what is there after them
abbrev pub side_sorted : WorldSide → List ScopeName → List SideItem → List ℕ → List Sorted
side_sorted side xs there order = map (λ (x : ScopeName). sorted_name (name_called x)) (names_on side (in_turn xs order)) ++ flat_map item_sorted there

-- the word for the first that has a name, which one of them has
abbrev pub sort_among : List Sorted → List ℕ → List ℕ
sort_among [] name = codes "func"
sort_among (s ∷ rest) name = if bytes_eq s.0 name then s.1 else sort_among rest name

-- what is imported or exported has the name of one of these
abbrev pub crossed_among : WorldSide → List Sorted → List ℕ → Span → Fault
crossed_among side there name span = fault_in 44 span (side_word side ++ (codes " `" ++ (name ++ (codes "` conflicts with prior " ++ (sort_among there name ++ codes " of same name")))))
