-- Names on a side, as they are called there, and their keys.
use Rattle.std.proofs.Common.{◌≡◌, ℕ, false, List, [], ◌∷◌, ◌++◌, map, refl, sym, ap, ◌∙◌, subst, length, inl, inr, ap₂}
use denote.Ref.{Bor}
use Rattle.wit_items.proofs.Common.{any-map, AllDiffer, Id, ScopeName, append-nil, in_turn_distinct, is_ascii_uppercase, list_any, lower_case, map_map, Exported, Imported, SideFunction, WorldSide, differ_none, names_on, nil_from_length, Called, Name, SideItem, called_key, flat_map, in_turn, item_called, items_on, local_id, map-append, name_called, side_called, Declared, SourceFunction, TheInline, TheInterface, TheWorld, about, cases_Bool, cond-false, cond-true, functions, interface_imported, is_world, on_side, part_functions, role_side, same_side, functions_parts}
use Rattle.wit_names.proofs.Labels.{folded_key-label}
use Rattle.wit_refusals.proofs.Cases.{texts-lower, names-folded}
use Rattle.wit_signatures.specs.FunctionsOfScope.{name_of_id, name_key, name_of_function}
use Rattle.wit_item_entries.specs.AddedNames.{IsTurn}
use Rattle.wit_item_entries.proofs.ReachedFaults.{turn_texts}
use Rattle.wit_rules.specs.declared.borrowed.BorrowedFunction.{BorrowedFunction}
use Rattle.wit_rules.specs.Signatures.{function_view}
use Rattle.wit_externs.specs.Clash.{item_names}
use Rattle.wit_arena.proofs.Common.{Item}

-- the key of a label is the label in lower case
keys-folded : (ids : List Id) → map name_key (map name_of_id ids) ≡ map (λ (id : Id). lower_case id.name.now) ids
keys-folded [] = refl
keys-folded (id ∷ ids) = ap (λ k. k ∷ map name_key (map name_of_id ids)) (folded_key-label id.name.now id.label) ∙ ap (λ l. lower_case id.name.now ∷ l) (keys-folded ids)

own_keys : (ids : List Id) → list_any (λ (id : Id). list_any is_ascii_uppercase id.name.now) ids ≡ false → map name_key (map name_of_id ids) ≡ map (λ (id : Id). id.name.now) ids
own_keys ids lower =
    let ts = map (λ (id : Id). id.name) ids in
    let texts : map (λ (t : Bor (List ℕ)). t.now) ts ≡ map (λ (id : Id). id.name.now) ids = map_map (λ (t : Bor (List ℕ)). t.now) (λ (id : Id). id.name) ids in
    keys-folded ids ∙ sym (names-folded ts ids texts) ∙ sym (texts-lower ts (any-map (λ (t : Bor (List ℕ)). list_any is_ascii_uppercase t.now) (λ (id : Id). id.name) ids ∙ lower)) ∙ texts

-- so the keys of the names of a scope differ
pub turn_keys : (xs : List ScopeName) (ids : List Id) → IsTurn xs ids → list_any (λ (id : Id). list_any is_ascii_uppercase id.name.now) ids ≡ false → AllDiffer (map name_key (map name_of_id ids ++ []))
turn_keys xs ids t lower =
    let keys : map name_key (map name_of_id ids ++ []) ≡ map (λ (id : Id). id.name.now) ids = ap (map name_key) (append-nil (map name_of_id ids)) ∙ own_keys ids lower in
    subst AllDiffer (sym (keys ∙ turn_texts xs t.order ids t.are)) (in_turn_distinct xs t.order t.least t.distinct)

-- Scopes that have no functions, and nothing else, on their sides.
pub no_functions : (hs : List BorrowedFunction) → length hs ≡ 0 → map function_view hs ≡ []
no_functions hs none = ap (map function_view) (nil_from_length hs none)

pub alone : (side : WorldSide) (xs : List ScopeName) (ids : List Id) → IsTurn xs ids → list_any (λ (id : Id). list_any is_ascii_uppercase id.name.now) ids ≡ false → AllDiffer (map name_key (names_on side (map name_of_id ids) ++ []))
alone Imported xs ids t lower = turn_keys xs ids t lower
alone Exported xs ids t lower = differ_none

-- the keys of their names differ where none has a letter in upper case
pub names_alone : (side : WorldSide) (xs : List ScopeName) (ids : List Id) (hs : List BorrowedFunction) → length hs ≡ 0 → IsTurn xs ids → list_any (λ (id : Id). list_any is_ascii_uppercase id.name.now) ids ≡ false → AllDiffer (map name_key (names_on side (map name_of_id ids) ++ flat_map item_names (items_on side (map SideFunction (map function_view hs)))))
names_alone side xs ids hs none t lower = subst (λ (l : List BorrowedFunction). AllDiffer (map name_key (names_on side (map name_of_id ids) ++ flat_map item_names (items_on side (map SideFunction (map function_view l)))))) (sym (nil_from_length hs none)) (alone side xs ids t lower)

-- Names that are taken on a side, as they are called there: where their keys differ, so do those of all that is called.
-- what is called, without the word for it
abbrev pub bare_name : Called → Name
bare_name c = (c.name, c.span)

bare_items : (items : List SideItem) → map bare_name (flat_map item_called items) ≡ flat_map item_names items
bare_items [] = refl
bare_items (x ∷ items) = map-append bare_name (item_called x) (flat_map item_called items) ∙ ap (λ (l : List Name). item_names x ++ l) (bare_items items)

bare_names : (xs : List ScopeName) → map bare_name (map name_called xs) ≡ map name_of_id (map local_id xs)
bare_names [] = refl
bare_names (x ∷ xs) = ap (λ l. name_of_id (local_id x) ∷ l) (bare_names xs)

bare_on : (side : WorldSide) (xs : List ScopeName) (ids : List Id) → ids ≡ map local_id xs → map bare_name (map name_called (names_on side xs)) ≡ names_on side (map name_of_id ids)
bare_on Imported xs ids are = bare_names xs ∙ ap (map name_of_id) (sym are)
bare_on Exported xs ids are = refl

-- the names of a scope in turn on a side, and then those of what comes after them
pub all_used : (side : WorldSide) (xs : List ScopeName) (items : List SideItem) (order : List ℕ) (ids : List Id) → ids ≡ map local_id (in_turn xs order) → map bare_name (side_called side xs items order) ≡ names_on side (map name_of_id ids) ++ flat_map item_names items
all_used side xs items order ids are =
    map-append bare_name (map name_called (names_on side (in_turn xs order))) (flat_map item_called items)
    ∙ ap₂ (λ a b. a ++ b) (bare_on side (in_turn xs order) ids are) (bare_items items)

-- where the keys of what is taken on a side differ, so do those of all that is called there
pub differ_called : (side : WorldSide) (xs : List ScopeName) (items : List SideItem) (order : List ℕ) (ids : List Id) → ids ≡ map local_id (in_turn xs order) → AllDiffer (map name_key (names_on side (map name_of_id ids) ++ flat_map item_names (items_on side items))) → AllDiffer (map called_key (side_called side xs (items_on side items) order))
differ_called side xs items order ids are h = subst AllDiffer (ap (map name_key) (sym (all_used side xs (items_on side items) order ids are)) ∙ map_map name_key bare_name (side_called side xs (items_on side items) order)) h

-- An interface has functions alone on its sides, and they are where imports do.
declared_imported : (d : Declared) → (about d).is_world ≡ false → on_side Imported (flat_map part_functions (about d).parts) ≡ flat_map part_functions (about d).parts
declared_imported (TheInterface x) sort = interface_imported x.items.items
declared_imported (TheWorld w) sort = absurd (let f : ⊥ = cc in f)
declared_imported (TheInline world place x name items) sort = interface_imported items

pub all_imported : (item : Item) → is_world item ≡ false → on_side Imported (functions item) ≡ functions item
all_imported item sort = ap (on_side Imported) (functions_parts item) ∙ declared_imported item.declared sort ∙ sym (functions_parts item)

-- the names of functions that a world would import
names_functions : (fns : List SourceFunction) → flat_map item_names (items_on Imported (map SideFunction fns)) ≡ map name_of_function (on_side Imported fns)
names_functions [] = refl
names_functions (fn ∷ fns) =
    let test = same_side Imported (role_side fn.role) in
    let items = items_on Imported (map SideFunction fns) in
    let rest = on_side Imported fns in
    elim (cases_Bool test) [
      | inl hit ↦ ap (λ (items : List SideItem). flat_map item_names items) (cond-true test (SideFunction fn ∷ items) items hit) ∙ ap (λ (l : List Name). name_of_function fn ∷ l) (names_functions fns) ∙ sym (ap (map name_of_function) (cond-true test (fn ∷ rest) rest hit))
      | inr miss ↦ ap (λ (items : List SideItem). flat_map item_names items) (cond-false test (SideFunction fn ∷ items) items miss) ∙ names_functions fns ∙ sym (ap (map name_of_function) (cond-false test (fn ∷ rest) rest miss))
    ]

-- the names on the side of imports are those of types and of functions
pub names_imported : (item : Item) → is_world item ≡ false → (ids : List Id) → (names_on Imported (map name_of_id ids) ++ flat_map item_names (items_on Imported (map SideFunction (functions item)))) ≡ map name_of_id ids ++ map name_of_function (functions item)
names_imported item sort ids = ap (λ (l : List Name). map name_of_id ids ++ l) (names_functions (functions item) ∙ ap (map name_of_function) (all_imported item sort))
