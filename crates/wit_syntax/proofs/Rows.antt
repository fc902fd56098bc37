-- Tables that grow by a row.
use Rattle.std.proofs.Common.{◌≡◌, ℕ, ◌+◌, List, [], ◌∷◌, ◌++◌, map, take, Some, None, sym, ap, ◌∙◌, arith, Vec, Global, Bor}
use Rattle.std.specs.Prelude.{slice_get}
use Rattle.std.proofs.lemmas.List.{map-append}
use Rattle.indexmap.specs.IndexMap.{insert_entry}
use Rattle.wit_type_tree.specs.declared.leaves.Id.{Id}
use Rattle.wit_graph.specs.Table.{Row, entry_row, place_of}
use Rattle.wit_graph.proofs.Rows.{key_eq, rows-insert}
use Rattle.wit_syntax.specs.Repeats.{AllDiffer}
use Rattle.wit_syntax.proofs.Lists.{at_take, map_at}
use Rattle.wit_syntax.proofs.Repeated.{differ_at}
use Rattle.wit_syntax.proofs.Tables.{place_of-Some, none_if}
use Rattle.wit_syntax.proofs.Orders.{take_next}
use Rattle.std.proofs.lemmas.Option.{slice_get-map}
use Rattle.wit_tree.specs.declared.tree.PackageFile.{PackageFile}
use Rattle.wit_syntax.specs.Source.{Item, all_items, ScopeName, local_name}
use Rattle.wit_syntax.specs.ScopeTables.{needed_ids, item_row, item_rows}
use Rattle.std.specs.Option.{option_map}

abbrev row : List ℕ → List Id → Row
row name needs = record { name = name; needs = needs }

-- a name of a scope with the names in its body
abbrev pub row_of : ScopeName → Row
row_of x = record { name = local_name x; needs = needed_ids x }

-- the next row of a table, of a name that it has not
pub rows_more : {X : Type 0} (of : X → Row) (xs : List X) (n : ℕ) (x : X) (old new : List (Bor (List ℕ) × Vec Id Global)) (k : Bor (List ℕ)) (v : Vec Id Global) → slice_get xs n ≡ Some x → map entry_row old ≡ map of (take n xs) → place_of (map of (take n xs)) (of x).name ≡ None → new ≡ insert_entry key_eq old k v → k.now ≡ (of x).name → v.items ≡ (of x).needs → map entry_row new ≡ map of (take (n + 1) xs)
rows_more of xs n x old new k v at same none inserted name needs =
    let free : place_of (map entry_row old) k.now ≡ None = ap (place_of (map entry_row old)) name ∙ ap (λ rs. place_of rs (of x).name) same ∙ none in
    let is : row k.now v.items ≡ of x = ap (λ m. row m v.items) name ∙ ap (λ ids. row (of x).name ids) needs in
    rows-insert old new k v inserted free ∙ ap (λ rs. rs ++ row k.now v.items ∷ []) same ∙ ap (λ r. map of (take n xs) ++ r ∷ []) is ∙ sym (map-append of (take n xs) (x ∷ [])) ∙ ap (map of) (sym (take_next xs n x at))

-- where names differ, none of the first n rows has the name of the next one
pub fresh_row : {X : Type 0} (of : X → Row) (xs : List X) (n : ℕ) (x : X) → AllDiffer (map (λ y. (of y).name) xs) → slice_get xs n ≡ Some x → place_of (map of (take n xs)) (of x).name ≡ None
fresh_row {X} of xs n x differ at = none_if (place_of (map of (take n xs)) (of x).name) (λ i some. (
    let name : X → List ℕ = λ y. (of y).name in
    let r = place_of-Some (map of (take n xs)) (of x).name i some in
    let y = map_at of (take n xs) i r.0 r.1 in
    let there = at_take xs n i y.0 y.1 in
    let same = differ_at name xs differ i n y.0 x there.0 at (ap (λ (row : Row). row.name) y.2 ∙ sym r.2) in
    let before = there.1 in
    omega arith))

pub item_row_at : (files : List PackageFile) (p : ℕ) (w : Item) → slice_get (all_items files) p ≡ Some w → slice_get (item_rows files) p ≡ Some (item_row w)
item_row_at files p w at = slice_get-map item_row (all_items files) p ∙ ap (option_map item_row) at
