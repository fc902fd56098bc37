-- The words for names on a side, as a table lists them, are those of what is called there.
use Rattle.std.proofs.Common.{◌≡◌, ℕ, Bool, true, false, ◌||◌, if◌then◌else◌, List, [], ◌∷◌, ◌++◌, map, codes, Option, Some, None, refl, sym, ap₂, ◌∙◌}
use Rattle.std.proofs.lemmas.List.{map-append}
use Rattle.wit_syntax.proofs.Common.{Called, Fault, ScopeName, SideItem, WorldSide, bytes_eq, fault_in, find, flat_map, in_turn, item_called, list_any, map-flat_map, map_map, name_called, names_on, option_map, side_called, side_word}
use Rattle.wit_first.specs.First.{clash_of, repeat_of}
use Rattle.wit_walk.specs.Members.{crossed}
use Rattle.wit_walk.specs.Sorts.{crossed_among, side_sorted, sort_among, sorted_name}

pub sides_sorted : (side : WorldSide) (xs : List ScopeName) (there : List SideItem) (order : List ℕ) → side_sorted side xs there order ≡ map sorted_name (side_called side xs there order)
sides_sorted side xs there order =
    let types = names_on side (in_turn xs order) in
    sym (map-append sorted_name (map name_called types) (flat_map item_called there) ∙ ap₂ (λ a b. a ++ b) (map_map sorted_name name_called types) (map-flat_map sorted_name item_called there))

-- the word for the first that has a name
by_sort : (as_fault : List ℕ → Fault) (name : List ℕ) (before : List Called) → option_map (λ (d : Called). as_fault d.sort) (find (λ (d : Called). bytes_eq d.name name) before) ≡ (if list_any (λ (d : Called). bytes_eq d.name name) before then Some (as_fault (sort_among (map sorted_name before) name)) else None)
by_sort as_fault name [] = refl
by_sort as_fault name (d ∷ before) = by (bytes_eq d.name name) (find (λ (e : Called). bytes_eq e.name name) before) (list_any (λ (e : Called). bytes_eq e.name name) before) (sort_among (map sorted_name before) name) (by_sort as_fault name before)
  where
    by : (b : Bool) (o : Option Called) (any : Bool) (word : List ℕ) → option_map (λ (e : Called). as_fault e.sort) o ≡ (if any then Some (as_fault word) else None)
        → option_map (λ (e : Called). as_fault e.sort) (if b then Some d else o) ≡ (if b || any then Some (as_fault (if b then d.sort else word)) else None)
    by true o any word rest = refl
    by false o any word rest = rest

pub crossed_same : (side : WorldSide) (before : List Called) (c : Called) → clash_of (λ (d : Called). d.name) (crossed side) before c ≡ repeat_of (λ (d : Called). d.name) (λ (d : Called). crossed_among side (map sorted_name before) d.name d.span) before c
crossed_same side before c = by_sort (λ word. fault_in 44 c.span (side_word side ++ (codes " `" ++ (c.name ++ (codes "` conflicts with prior " ++ (word ++ codes " of same name")))))) c.name before
