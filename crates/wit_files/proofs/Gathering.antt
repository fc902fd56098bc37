-- What is gathered from files, one file and one item at a time.
use Rattle.std.proofs.Common.{◌≡◌, ◌<◌, ℕ, zero, suc, ◌+◌, List, [], ◌∷◌, ◌++◌, length, map, take, Option, Some, None, inl, inr, refl, sym, ap, ◌∙◌, subst, arith, append_assoc, length-append, Vec, Global, Bor}
use Rattle.wit_syntax.proofs.Common.{AllDiffer, AreAccepted, AstItem, CyclicItem, DuplicateItem, DuplicateTopName, Fault, ForeignStability, ForeignVisit, Id, IsBrokenItems, IsBrokenNames, IsOrder, Item, Items, MissingItem, PackageFile, Row, TopName, TopUse, all_items, append-nil, at_back, at_contains, at_either, at_prefix, bytes_eq, declared_items, entry_row, file_items, flat_map, foreign_visits, insert_entry, item_name, item_row, item_rows, item_word, map-append, map_map, missing_at, no_cyclic_edge, no_missing_edge, none_if, option_map, option_or, place_by_key, place_of, place_of-Some, position, rows, slice_get, slice_get-map, slice_get_cases, slice_get_within, take_next, target, top_names}
use Rattle.wit_graph.proofs.Rows.{key_eq, rows-insert}
use Rattle.wit_first.specs.FileFaults.{file_fault, files_fault, paths_fault, tops_fault}
use Rattle.wit_first.specs.First.{IsOr, first_in}
use Rattle.wit_first.specs.Laws.{AgreesBy}
use Rattle.wit_first.specs.NameFaults.{item_names_fault, top_names_fault}
use Rattle.wit_first.specs.OrderFaults.{IsItemOrderFault, IsNamesFault, IsOrderedFault, items_prefix, names_prefix}
use Rattle.wit_first.proofs.Bridge.{in_only, item_names_agree, or_none_both, or_some, top_names_agree}
use Rattle.wit_first.proofs.FileFaults.{tops_agree, visits_agree, files_broken}
use Rattle.wit_first.proofs.OrderFaults.{or_back, or_prefix, or_is, or_neither, order_broken}
use Rattle.wit_top_names.specs.Tops.{Named, AreNamed, AreDeclared}
use Rattle.wit_files.specs.FileNames.{AreTopsOf, AreTablesOf, AddsTop, names_at_top, top_at}
use Rattle.wit_files.specs.declared.tables.Tables.{Tables}
use Rattle.wit_top_names.proofs.FirstNames.{rows_items}
use Rattle.wit_top_names.proofs.Lost.{flat_more}
use Rattle.wit_first.specs.AttributeFaults.{stability_fault}

-- what one of these gives comes after what those before it give
pub flat_split : {X A : Type 0} (f : X → List A) (xs : List X) (i : ℕ) (x : X) → slice_get xs i ≡ Some x → (rest : List A) × (flat_map f xs ≡ flat_map f (take i xs) ++ (f x ++ rest))
flat_split f [] i x at = absurd (let g : ⊥ = cc in g)
flat_split f (y ∷ ys) zero x at =
    let same : y ≡ x = cc in
    (flat_map f ys, ap (λ z. f z ++ flat_map f ys) same)
flat_split f (y ∷ ys) (suc i) x at =
    let it = flat_split f ys i x at in
    (it.0, ap (λ l. f y ++ l) it.1 ∙ sym (append_assoc (f y) (flat_map f (take i ys)) (f x ++ it.0)))

differ_prefix : {X : Type 0} (xs ys : List X) → AllDiffer (xs ++ ys) → AllDiffer xs
differ_prefix xs ys d = record { differ = λ i j x at_i at_j. d.differ i j x (at_prefix xs ys i x at_i) (at_prefix xs ys j x at_j) }

abbrev row_names : List Row → List (List ℕ)
row_names rs = map (λ row. row.name) rs

-- a name after names that differ from it is that of no row
fresh_name : (rs : List Row) (name : List ℕ) (rest : List (List ℕ)) → AllDiffer (row_names rs ++ name ∷ rest) → place_of rs name ≡ None
fresh_name rs name rest differ = none_if (place_of rs name) (λ b some. (
    let r = place_of-Some rs name b some in
    let there : slice_get (row_names rs) b ≡ Some name = slice_get-map (λ (row : Row). row.name) rs b ∙ ap (option_map (λ (row : Row). row.name)) r.1 ∙ ap Some (sym r.2) in
    let rest_after : slice_get (row_names rs ++ name ∷ rest) (length (row_names rs) + 0) ≡ Some name = at_back (row_names rs) (name ∷ rest) 0 name refl in
    let same = differ.differ b (length (row_names rs) + 0) name (at_prefix (row_names rs) (name ∷ rest) b name there) rest_after in
    let lt = slice_get_within (row_names rs) b name there in
    let g : ⊥ = omega arith in
    g))

names_before : (rs : List Row) (before : List Item) → row_names rs ++ map item_name before ≡ row_names (rs ++ map item_row before)
names_before rs before = sym (map-append (λ (row : Row). row.name) rs (map item_row before) ∙ ap (λ l. row_names rs ++ l) (map_map (λ (row : Row). row.name) item_row before))

-- where the names of rows and of further items differ, none of the rows and of the items before it has that of an item
pub fresh_item : (rs : List Row) (before rest all : List Item) (w : Item) → all ≡ before ++ (w ∷ rest) → AllDiffer (row_names rs ++ map item_name all) → place_of (rs ++ map item_row before) (item_name w) ≡ None
fresh_item rs before rest all w split differ =
    let names = row_names rs in
    let own = item_name w ∷ map item_name rest in
    let is : names ++ map item_name all ≡ row_names (rs ++ map item_row before) ++ own =
    ap (λ l. names ++ map item_name l) split ∙ ap (λ l. names ++ l) (map-append item_name before (w ∷ rest)) ∙ sym (append_assoc names (map item_name before) own) ∙ ap (λ l. l ++ own) (names_before rs before) in
    fresh_name (rs ++ map item_row before) (item_name w) (map item_name rest) (subst AllDiffer is differ)

abbrev row : List ℕ → List Id → Row
row name needs = record { name = name; needs = needs }

-- the row of an item more, of a name that the table has not
pub row_added : (old : List Row) (before all : List Item) (w : Item) (es new : List (Bor (List ℕ) × Vec Id Global)) (k : Bor (List ℕ)) (v : Vec Id Global) → map entry_row es ≡ old ++ map item_row before → all ≡ before ++ w ∷ [] → place_of (old ++ map item_row before) (item_name w) ≡ None → new ≡ insert_entry key_eq es k v → k.now ≡ item_name w → v.items ≡ (item_row w).needs → map entry_row new ≡ old ++ map item_row all
row_added old before all w es new k v same more none inserted name needs =
    let were = old ++ map item_row before in
    let free : place_of (map entry_row es) k.now ≡ None = ap (place_of (map entry_row es)) name ∙ ap (λ rs. place_of rs (item_name w)) same ∙ none in
    let is : row k.now v.items ≡ item_row w = ap (λ m. row m v.items) name ∙ ap (λ ids. row (item_name w) ids) needs in
    rows-insert es new k v inserted free ∙ ap (λ rs. rs ++ row k.now v.items ∷ []) same ∙ ap (λ r. were ++ r ∷ []) is ∙ append_assoc old (map item_row before) (item_row w ∷ []) ∙ ap (λ l. old ++ l) (sym (map-append item_row before (w ∷ [])) ∙ ap (map item_row) (sym more))

-- so, one declaration further on, the table has the items that were declared up to there
pub item_added : (top : List TopName) (old : List Row) (ds : List AstItem) (i : ℕ) (d : AstItem) (w : Item) (es new : List (Bor (List ℕ) × Vec Id Global)) (k : Bor (List ℕ)) (v : Vec Id Global) → slice_get ds i ≡ Some d → declared_items top d ≡ w ∷ [] → AllDiffer (row_names old ++ map item_name (flat_map (declared_items top) ds)) → map entry_row es ≡ old ++ map item_row (flat_map (declared_items top) (take i ds)) → new ≡ insert_entry key_eq es k v → k.now ≡ item_name w → v.items ≡ (item_row w).needs → map entry_row new ≡ old ++ map item_row (flat_map (declared_items top) (take (i + 1) ds))
item_added top old ds i d w es new k v at one differ same inserted name needs =
    let items = flat_map (declared_items top) in
    let before = items (take i ds) in
    let more : items (take (i + 1) ds) ≡ before ++ w ∷ [] = flat_more (declared_items top) (take i ds) (take (i + 1) ds) d (take_next ds i d at) ∙ ap (λ l. before ++ l) one in
    let rest = flat_split (declared_items top) ds i d at in
    let split : items ds ≡ before ++ (w ∷ rest.0) = rest.1 ∙ ap (λ l. before ++ (l ++ rest.0)) one in
    row_added old before (items (take (i + 1) ds)) w es new k v same more (fresh_item old before rest.0 (items ds) w split differ) inserted name needs

-- and a declaration that makes no item adds none
pub item_skipped : (top : List TopName) (ds : List AstItem) (i : ℕ) (d : AstItem) → slice_get ds i ≡ Some d → declared_items top d ≡ [] → flat_map (declared_items top) (take (i + 1) ds) ≡ flat_map (declared_items top) (take i ds)
item_skipped top ds i d at none =
    let before = flat_map (declared_items top) (take i ds) in
    flat_more (declared_items top) (take i ds) (take (i + 1) ds) d (take_next ds i d at) ∙ ap (λ l. before ++ l) none ∙ append-nil before

-- so the names of the items of a file differ from those of the files before it
pub fresh_file : (rs : List Row) (files : List PackageFile) (i : ℕ) (file : PackageFile) → rs ≡ item_rows (take i files) → AllDiffer (map item_name (all_items files)) → slice_get files i ≡ Some file → AllDiffer (row_names rs ++ map item_name (file_items file))
fresh_file rs files i file same differ at =
    let it = flat_split file_items files i file at in
    let before = all_items (take i files) in
    let own = map item_name (file_items file) in
    let rest = map item_name it.0 in
    let all : map item_name (all_items files) ≡ (map item_name before ++ own) ++ rest =
    ap (map item_name) it.1 ∙ map-append item_name before (file_items file ++ it.0) ∙ ap (λ l. map item_name before ++ l) (map-append item_name (file_items file) it.0) ∙ sym (append_assoc (map item_name before) own rest) in
    let names : map item_name before ≡ row_names rs = sym (ap row_names same ∙ map_map (λ (row : Row). row.name) item_row before) in
    subst (λ l. AllDiffer (l ++ own)) names (differ_prefix (map item_name before ++ own) rest (subst AllDiffer all differ))

-- the names at the top of a file more
pub tops_added : (files : List PackageFile) (file : PackageFile) (old new : List Named) → AreTopsOf files old → AddsTop file old new → AreTopsOf (files ++ file ∷ []) new
tops_added files file old new tops more = record {
  long = ap (λ l. length l) more.last ∙ length-append old (more.top ∷ []) ∙ ap (λ n. n + 1) tops.long ∙ sym (length-append files (file ∷ []));
  each = λ i g top at there. (
      let long = tops.long in
      let in_old = at_either old more.top i top (ap (λ l. slice_get l i) (sym more.last) ∙ there) in
      elim (at_either files file i g at) [
        | inl first ↦ elim in_old [
          | inl second ↦ tops.each i g top first second
          | inr last ↦ (let lt = slice_get_within files i g first in let is = last.0 in absurd (let h : ⊥ = omega arith in h))
        ]
        | inr one ↦ elim in_old [
          | inl second ↦ (let lt = slice_get_within old i top second in let is = one.0 in absurd (let h : ⊥ = omega arith in h))
          | inr last ↦ subst (λ (x : PackageFile). AreNamed (top_names x) top) (sym one.1) (subst (λ (names : Named). AreNamed (top_names file) names) (sym last.1) more.named)
        ]
      ]);
}

-- the table of the items of files finds them
pub names_declared : (files : List PackageFile) (names : Tables) → AreTablesOf files names → AreDeclared (all_items files) names.items
names_declared files names are = record { finds = λ name. rows_items (all_items files) names.items name are.declared.items }

-- where no name repeats, no path is lost and the items have an order, no rule about items is broken
legal_items : (files : List PackageFile) (places : List ℕ) → item_names_fault files ≡ None → files_fault files ≡ None → IsOrder (item_rows files) places → (f : Fault) → IsBrokenItems files f → ⊥
legal_items files places items each order f (DuplicateItem h) = (item_names_agree files).unbroken items f h
legal_items files places items each order f (DuplicateTopName file among h) =
    let p = at_contains files file among in
    let own = in_only (file_fault (all_items files)) files each p.0 file p.1 in
    (top_names_agree file).unbroken (or_none_both (top_names_fault file) (first_in (paths_fault (all_items files)) (file_items file)) own).0 f h
legal_items files places items each order f (MissingItem h) = no_missing_edge (missing_at 7 item_word) (item_rows files) places f order h
legal_items files places items each order f (CyclicItem h) = no_cyclic_edge 8 item_word (item_rows files) places f order h

-- the first fault, where there is none before paths with a package
pub after_visits : (files : List PackageFile) (first : Option Fault) → first_in (λ (v : ForeignVisit). stability_fault v.attributes) (foreign_visits files) ≡ None → IsOr (items_prefix files) (IsItemOrderFault files) first → IsOr (names_prefix files) (IsItemOrderFault files) first
after_visits files first none h = subst (λ (o : Option Fault). IsOr (option_or o (items_prefix files)) (IsItemOrderFault files) first) (sym none) h

-- that of the items of files, and then that of the uses at their tops
pub items_first : (files : List PackageFile) (f : Fault) → IsOr (names_prefix files) (IsItemOrderFault files) (Some f) → IsNamesFault files (Some f)
items_first files f h = elim (or_is (IsItemOrderFault files) (names_prefix files) f h) [
  | inl prefix ↦ or_prefix (IsOrderedFault files) (names_prefix files) f prefix
  | inr order ↦ or_back (IsOrderedFault files) (names_prefix files) (Some f) order.0 (Some f, order.1, refl)
]

pub tops_first : (files : List PackageFile) (first : Option Fault) → IsOr (names_prefix files) (IsItemOrderFault files) None → tops_fault files ≡ first → IsNamesFault files first
tops_first files first h tops =
    let it = or_neither (IsItemOrderFault files) (names_prefix files) h in
    or_back (IsOrderedFault files) (names_prefix files) first it.0 (None, it.1, tops)

-- the first fault of the names of files is a broken rule
prefix_broken : (files : List PackageFile) (f : Fault) → names_prefix files ≡ Some f → IsBrokenNames files f
prefix_broken files f h = elim (or_some (first_in (λ (v : ForeignVisit). stability_fault v.attributes) (foreign_visits files)) (items_prefix files) f h) [
  | inl visits ↦ (let it = (visits_agree (foreign_visits files)).broken f visits in ForeignStability it.0 it.1 it.2)
  | inr far ↦ elim (or_some (item_names_fault files) (files_fault files) f far.1) [
    | inl items ↦ Items (DuplicateItem ((item_names_agree files).broken f items))
    | inr each ↦ Items (files_broken files f each.1)
  ]
]

ordered_broken : (files : List PackageFile) (f : Fault) (order : Option Fault) → IsItemOrderFault files order → option_or order (tops_fault files) ≡ Some f → IsBrokenNames files f
ordered_broken files f None accepted is = (let it = (tops_agree files).broken f is in TopUse it.0 it.1 it.2)
ordered_broken files f (Some g) wrong is =
    let same : g ≡ f = cc in
    Items (subst (IsBrokenItems files) same (elim (order_broken (missing_at 7 item_word) 8 item_word (item_rows files) g wrong) [ inl missing ↦ MissingItem missing | inr cyclic ↦ CyclicItem cyclic ]))

names_broken : (files : List PackageFile) (f : Fault) → IsNamesFault files (Some f) → IsBrokenNames files f
names_broken files f h = elim (or_is (IsOrderedFault files) (names_prefix files) f h) [
  | inl prefix ↦ prefix_broken files f prefix
  | inr ordered ↦ ordered_broken files f ordered.1.0 ordered.1.1 ordered.1.2
]

-- and where there is none, no rule about names is broken
none_broken : (files : List PackageFile) → AreAccepted (item_rows files) → first_in (λ (v : ForeignVisit). stability_fault v.attributes) (foreign_visits files) ≡ None → item_names_fault files ≡ None → files_fault files ≡ None → tops_fault files ≡ None → (f : Fault) → IsBrokenNames files f → ⊥
none_broken files accepted visits items each tops f (Items h) = legal_items files accepted.0 items each accepted.1 f h
none_broken files accepted visits items each tops f (ForeignStability v among h) = (visits_agree (foreign_visits files)).unbroken visits f (v, among, h)
none_broken files accepted visits items each tops f (TopUse file among h) = (tops_agree files).unbroken tops f (file, among, h)

names_unbroken : (files : List PackageFile) → IsNamesFault files None → (f : Fault) → IsBrokenNames files f → ⊥
names_unbroken files none f broken =
    let it = or_neither (IsOrderedFault files) (names_prefix files) none in
    let prefix = or_none_both (first_in (λ (v : ForeignVisit). stability_fault v.attributes) (foreign_visits files)) (items_prefix files) it.0 in
    let items = or_none_both (item_names_fault files) (files_fault files) prefix.1 in
    let last = or_none_both it.1.0 (tops_fault files) it.1.2 in
    none_broken files (subst (IsItemOrderFault files) last.0 it.1.1) prefix.0 items.0 items.1 last.1 f broken

pub names_agree : (files : List PackageFile) → AgreesBy (IsNamesFault files) (IsBrokenNames files)
names_agree files = record { broken = names_broken files; unbroken = names_unbroken files }

-- the place of a name among the keys is that of the item which an edge of this name leads to
pub item_place : (files : List PackageFile) (es : List (Bor (List ℕ) × Vec Id Global)) (name : List ℕ) (edge : Id) → rows es ≡ item_rows files → name ≡ edge.name.now → position (λ (k : Bor (List ℕ)). bytes_eq name k.now) (map (λ e. e.0) es) ≡ target (item_rows files) edge
item_place files es name edge same named = sym (place_by_key es name) ∙ ap (place_of (rows es)) named ∙ ap (λ rs. place_of rs edge.name.now) same

-- the names at the top of the file at a place are those that are there
pub top_at_place : (files : List PackageFile) (tops : List Named) (i : ℕ) (top : Named) → AreTopsOf files tops → i < length files → slice_get tops i ≡ Some top → AreNamed (top_at files i) top
top_at_place files tops i top are within at =
    elim (slice_get_cases files i).1 [ inl w ↦ subst (λ o. AreNamed (names_at_top o) top) (sym w.2) (are.each i w.0 top w.2 at) | inr w ↦ absurd (omega (arith, w.0)) ]
