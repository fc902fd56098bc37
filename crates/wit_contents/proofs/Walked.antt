-- The first fault of an interface by tables, and that of a world before its members, is that of the walk of files, where the tables say what the files do.
use Rattle.std.proofs.Common.{◌≡◌, ℕ, suc, Bool, true, false, List, [], ◌∷◌, ◌++◌, map, Option, Some, None, refl, sym, ap, ◌∙◌, length, ◌==◌}
use Rattle.wit_contents.proofs.Names.{Called, Defined, Exported, Fault, ForeignName, Id, Imported, Include, Interfaces, Item as BorrowedItem, ItemScope, Name, Outcome, PackageFile, ScopeName, SideFunction, SideItem, SourceFunction, Used, UsedName, WorldSide, Resolved, about, address, after-append, after_kept, any-map, bytes_eq, called_fault, clash, clash-made, clash-map, codes, crossed, cyclic_at, defined, definition_fault, earliest, fault_in, first_after, first_in, flat_map, folded_fault, folded_key, function_fault, functions, functions_imported, handle_fault, if◌then◌else◌, in_order, in_turn, include_fault, includes, includes_fault, interface_fault, is_on_side, is_world, item_function, item_stability, item_view, items_on, kept_all, kept_none, local_id, local_name, local_names_fault, map-append, member_fault, missing_type_at, name_called, name_fault, name_twice, names_of, names_on, name_view, on_side, option_or, or_assoc, or_none, or_none_both, order_fault, order_of, ordered_fault, own_fault, own_use, repeat-map, repeat_of, role_side, same_side, scope_faults, scope_item, scope_names, setters_fault, side_called, side_items, side_items_functions, side_setters_fault, signed_fault, slice_get, stability_fault, type_word, use_fault, use_view, used, uses_viewed, word_fault, functions_free, names_fault}
use Rattle.wit_arena.proofs.Common.{Item}
use Rattle.wit_items.proofs.Common.{resource_items}
use Rattle.wit_signatures.specs.FunctionsOfScope.{name_key, name_of_function, name_of_id}
use Rattle.wit_externs.specs.Clash.{again_fault, alone_faults, defined_fault, lone_setters, signed_by, item_names}
use Rattle.wit_item_entries.specs.ReachedFaults.{local_fault, used_fault, functions_fault}
use Rattle.wit_item_entries.proofs.NameOrder.{all_used, bare_name}
use Rattle.wit_syntax.proofs.Setters.{declared_includes}
use Rattle.wit_externs.proofs.AloneFaults.{again}

pub repeat-made : {X Y : Type 0} (key : Y → List ℕ) (as_fault : Y → Fault) (f : X → Y) (before : List X) (x : X) → repeat_of key as_fault (map f before) (f x) ≡ repeat_of (λ (y : X). key (f y)) (λ (y : X). as_fault (f y)) before x
repeat-made key as_fault f before x = ap (λ (b : Bool). if b then Some (as_fault (f x)) else None) (any-map (λ y. bytes_eq (key y) (key (f x))) f before)

-- a name of a scope that an earlier one is, spelled alike
abbrev spelled : List ScopeName → ScopeName → Option Fault
spelled before x = repeat_of local_name (λ (y : ScopeName). name_twice (local_id y)) before x

-- the interfaces that are resolved say of used names what files do
pub record AreAsWalked (files : List PackageFile) (is : Interfaces) (us : List UsedName) : Type 0 where
  pub each : (k : ℕ) (u : UsedName) → slice_get us k ≡ Some u → used_fault is u ≡ use_fault files (use_view u)

uses_walked : (files : List PackageFile) (is : Interfaces) (before us : List UsedName) → AreAsWalked files is us → first_after (local_fault is) before us ≡ first_after (name_fault files) (map use_view before) (map use_view us)
uses_walked files is before [] say = refl
uses_walked files is before (u ∷ us) say =
    let rest = first_after (local_fault is) (before ++ u ∷ []) us in
    let one : local_fault is before u ≡ name_fault files (map use_view before) (use_view u) =
    ap (λ (o : Option Fault). option_or o (repeat_of (λ (v : UsedName). local_name (use_view v)) (λ (v : UsedName). name_twice (local_id (use_view v))) before u)) (say.each 0 u refl)
    ∙ ap (option_or (use_fault files (use_view u))) (sym (repeat-made local_name (λ (y : ScopeName). name_twice (local_id y)) use_view before u)) in
    let more : AreAsWalked files is us = record { each = λ k v at. say.each (suc k) v at } in
    ap (λ (o : Option Fault). option_or o rest) one
    ∙ ap (option_or (name_fault files (map use_view before) (use_view u))) (uses_walked files is (before ++ u ∷ []) us more ∙ ap (λ (l : List ScopeName). first_after (name_fault files) l (map use_view us)) (map-append use_view before (u ∷ [])))

-- a definition is used from nowhere
defined_walked : (files : List PackageFile) (before xs : List ScopeName) → first_after (name_fault files) before (defined xs) ≡ first_after spelled before (defined xs)
defined_walked files before [] = refl
defined_walked files before (Used from attributes n ∷ xs) = defined_walked files before xs
defined_walked files before (ForeignName attributes id ∷ xs) = defined_walked files before xs
defined_walked files before (Defined d ∷ xs) = ap (option_or (spelled before (Defined d))) (defined_walked files (before ++ Defined d ∷ []) xs)

-- where nothing is wrong with names by themselves and beside earlier ones, none is spelled like one
spelled_kept : (files : List PackageFile) (before : List ScopeName) (x : ScopeName) → name_fault files before x ≡ None → spelled before x ≡ None
spelled_kept files before x h = (or_none_both (use_fault files x) (spelled before x) h).1

either_first : (a b c : Option Fault) → (a ≡ None → b ≡ None) → option_or a (option_or b c) ≡ option_or a c
either_first None b c only = ap (λ (o : Option Fault). option_or o c) (only refl)
either_first (Some f) b c only = refl

pub names_walked : (files : List PackageFile) (is : Interfaces) (us : List UsedName) (xs : List ScopeName) → map use_view us ≡ used xs → AreAsWalked files is us → option_or (first_after (local_fault is) [] us) (local_names_fault (map local_id (used xs ++ defined xs))) ≡ first_after (name_fault files) [] (used xs ++ defined xs)
names_walked files is us xs view say =
    let a = first_after (name_fault files) [] (used xs) in
    let b = first_after spelled [] (used xs) in
    let c = first_after spelled (used xs) (defined xs) in
    let own : first_after (local_fault is) [] us ≡ a = uses_walked files is [] us say ∙ ap (first_after (name_fault files) []) view in
    let twice : local_names_fault (map local_id (used xs ++ defined xs)) ≡ option_or b c = repeat-map (λ (id : Id). id.name.now) (λ (id : Id). name_twice id) local_id (used xs ++ defined xs) ∙ after-append spelled [] (used xs) (defined xs) in
    ap (λ (o : Option Fault). option_or o (local_names_fault (map local_id (used xs ++ defined xs)))) own
    ∙ ap (option_or a) twice
    ∙ either_first a b c (after_kept (name_fault files) spelled (spelled_kept files) [] (used xs))
    ∙ sym (after-append (name_fault files) [] (used xs) (defined xs) ∙ ap (option_or a) (defined_walked files (used xs) xs))

-- names in turn, once case is folded
pub turn_walked : (ys : List ScopeName) → defined_fault [] (map name_of_id (map local_id ys)) ≡ first_after folded_fault [] (map name_called ys)
turn_walked ys =
    clash-map name_key again name_of_id (map local_id ys)
    ∙ clash-map (λ (id : Id). name_key (name_of_id id)) (λ (x y : Id). again (name_of_id x) (name_of_id y)) local_id ys
    ∙ sym (clash-map (λ (c : Called). folded_key c.name) (λ (earlier later : Called). fault_in 17 later.span (clash (codes "name") earlier.name later.name)) name_called ys)

module _ (files : List PackageFile) (steps : ℕ) (inside : Item → Option Fault) (i : Item) (order : List ℕ) where
  abbrev xs : List ScopeName
  xs = scope_names i

  abbrev handle : Id → Option Fault
  handle = handle_fault files steps (address i)

  abbrev ids : List Id
  ids = map local_id (in_turn xs order)

  abbrev taken : WorldSide → List Name
  taken side = names_on side (map name_of_id ids)

  abbrev member : List SideItem → SideItem → Option Fault
  member = member_fault files steps inside i order

  abbrev alone : List SourceFunction → SourceFunction → Option Fault
  alone = (λ (before : List SourceFunction) (fn : SourceFunction). option_or (function_fault (signed_by (word_fault xs) handle (before ++ fn ∷ [])) xs fn) (again_fault (taken (role_side fn.role) ++ flat_map item_names (items_on (role_side fn.role) (map SideFunction before))) (name_of_function fn)))

  called_free : (extern : Bool) (as_crossed : Called → Called → Fault) (before : List Called) (c : Called) → extern ≡ false → called_fault extern as_crossed before c ≡ folded_fault before c
  called_free true as_crossed before c own = absurd (cc)
  called_free false as_crossed before c own = refl

  member_walked : (before : List SourceFunction) (fn : SourceFunction) → is_on_side fn.role ≡ false → alone before fn ≡ member (map SideFunction before) (SideFunction fn)
  member_walked before fn own =
      let side = role_side fn.role in
      let there = items_on side (map SideFunction before) in
      let c : Called = record { name = fn.name; span = fn.span; sort = codes "func" } in
      let names = taken side ++ flat_map item_names there in
      let signed : function_fault (signed_fault xs (before ++ fn ∷ []) handle) xs fn ≡ function_fault (signed_fault xs (flat_map item_function (map SideFunction before) ++ fn ∷ []) handle) xs fn = ap (λ (l : List SourceFunction). function_fault (signed_fault xs (l ++ fn ∷ []) handle) xs fn) (sym (resource_items before)) in
      let all = side_called side xs there order in
      let folded : again_fault names (name_of_function fn) ≡ folded_fault all c = ap (λ (l : List Name). again_fault l (name_of_function fn)) (sym (all_used side xs there order ids refl)) ∙ clash-made name_key again bare_name all c in
      let one : again_fault names (name_of_function fn) ≡ own_fault xs there order (SideFunction fn) = folded ∙ sym (called_free (is_on_side fn.role) (crossed side) all c own) ∙ sym (or_none (called_fault (is_on_side fn.role) (crossed side) all c)) in
      ap (λ (o : Option Fault). option_or o (again_fault names (name_of_function fn))) signed ∙ ap (option_or (function_fault (signed_fault xs (flat_map item_function (map SideFunction before) ++ fn ∷ []) handle) xs fn)) one

  members_walked : (before fns : List SourceFunction) → ((k : ℕ) (fn : SourceFunction) → slice_get fns k ≡ Some fn → is_on_side fn.role ≡ false) → first_after alone before fns ≡ first_after member (map SideFunction before) (map SideFunction fns)
  members_walked before [] own = refl
  members_walked before (fn ∷ fns) own =
      ap (λ (o : Option Fault). option_or o (first_after alone (before ++ fn ∷ []) fns)) (member_walked before fn (own 0 fn refl))
      ∙ ap (option_or (member (map SideFunction before) (SideFunction fn))) (members_walked (before ++ fn ∷ []) fns (λ k g at. own (suc k) g at) ∙ ap (λ (l : List SideItem). first_after member l (map SideFunction fns)) (map-append SideFunction before (fn ∷ [])))

-- setters of an interface are where imports are
setters_walked : (i : Item) → is_world i ≡ false → lone_setters (functions i) ≡ setters_fault i
setters_walked i sort =
    let fns = functions i in
    let on : on_side Imported fns ≡ fns = kept_all (λ fn. same_side Imported (role_side fn.role)) fns (λ k fn at. ap (same_side Imported) (functions_imported i sort k fn at)) in
    let off : on_side Exported fns ≡ [] = kept_none (λ fn. same_side Exported (role_side fn.role)) fns (λ k fn at. ap (same_side Exported) (functions_imported i sort k fn at)) in
    sym (ap (λ (ns : List Include). if length ns == 0 then option_or (side_setters_fault i Imported) (side_setters_fault i Exported) else None) (declared_includes i.declared sort)
    ∙ ap (λ (l : List SourceFunction). option_or (lone_setters l) (side_setters_fault i Exported)) on
    ∙ ap (λ (l : List SourceFunction). option_or (lone_setters fns) (lone_setters l)) off
    ∙ or_none (lone_setters fns))

-- the steps of an interface, one after another
regroup : (a b c d e g h k : Option Fault) → option_or (option_or a (option_or b (option_or c (option_or d e)))) (option_or (option_or g h) k) ≡ option_or a (option_or (option_or b c) (option_or d (option_or e (option_or g (option_or h (option_or k None))))))
regroup a b c d e g h k = simp (or_assoc, or_none)

-- the first fault of an interface
pub interface_walked : (files : List PackageFile) (steps : ℕ) (inside : Item → Option Fault) (is : Interfaces) (s : ItemScope) (outcome : Outcome) → is_world (scope_item s) ≡ false → names_of s ≡ scope_names (scope_item s) → AreAsWalked files is (flat_map own_use s.names.now) → interface_fault is s outcome (handle_fault files steps (address (scope_item s))) ≡ earliest (scope_faults files steps inside (scope_item s) outcome)
interface_walked files steps inside is s outcome sort named say =
    let i = scope_item s in
    let xs = scope_names i in
    let order = order_of outcome in
    let fns = functions i in
    let us = flat_map own_use s.names.now in
    let handle = handle_fault files steps (address i) in
    let stable = item_stability i in
    let uses = first_after (local_fault is) [] us in
    let twice = local_names_fault (map local_id (used xs ++ defined xs)) in
    let round = order_fault missing_type_at (cyclic_at 16 type_word) outcome in
    let definitions = first_in (definition_fault handle) (defined (in_order xs order)) in
    let folded = defined_fault [] (map name_of_id (map local_id (in_turn xs order))) in
    let own = alone_faults (word_fault xs) handle xs (λ side. names_on side (map name_of_id (map local_id (in_turn xs order)))) fns in
    let setters = lone_setters fns in
    let by_tables : interface_fault is s outcome handle ≡ option_or (option_or stable (option_or uses (option_or twice (option_or round definitions)))) (option_or (option_or folded own) setters) =
    ap (λ (ys : List ScopeName). option_or (option_or stable (option_or uses (ordered_fault ys outcome handle))) (option_or (functions_fault ys (map local_id (in_turn ys order)) fns handle) setters)) named in
    let names = first_after (name_fault files) [] (used xs ++ defined xs) in
    let called_names = first_after folded_fault [] (map name_called (in_turn xs order)) in
    let members = first_after (member_fault files steps inside i order) [] (side_items i) in
    let names_are : option_or uses twice ≡ names = names_walked files is us xs (uses_viewed s.names.now ∙ ap used named) say in
    let members_are : own ≡ members = members_walked files steps inside i order [] fns (functions_free i sort) ∙ ap (first_after (member_fault files steps inside i order) []) (sym (side_items_functions i sort)) in
    let nothing : None ≡ first_in (include_fault files i.top) (includes i) = sym (ap (first_in (include_fault files i.top)) (declared_includes i.declared sort)) in
    let last : option_or stable (option_or (option_or uses twice) (option_or round (option_or definitions (option_or folded (option_or own (option_or setters None)))))) ≡ earliest (scope_faults files steps inside i outcome) = rw (names_are, turn_walked (in_turn xs order), members_are, setters_walked i sort, ← nothing) refl in
    by_tables ∙ regroup stable uses twice round definitions folded own setters ∙ last

-- the steps of a world, one after another
regroup_world : (a n r d c t m s : Option Fault) → option_or a (option_or n (option_or r (option_or d (option_or c (option_or t (option_or m (option_or s None))))))) ≡ option_or (option_or a (option_or (option_or n (option_or r d)) (option_or c t))) (option_or m s)
regroup_world a n r d c t m s = simp (or_assoc, or_none)

-- those before its members
abbrev pub walked_head : List PackageFile → ℕ → Item → Outcome → Option Fault
walked_head files steps i outcome =
    option_or (stability_fault (about i.declared).attributes) (option_or (option_or (first_after (name_fault files) [] (used (scope_names i) ++ defined (scope_names i))) (option_or (order_fault missing_type_at (cyclic_at 16 type_word) outcome) (first_in (definition_fault (handle_fault files steps (address i))) (defined (in_order (scope_names i) (order_of outcome))))))
    (option_or (first_in (include_fault files i.top) (includes i)) (first_after folded_fault [] (map name_called (in_turn (scope_names i) (order_of outcome))))))

pub world_split : (files : List PackageFile) (steps : ℕ) (inside : Item → Option Fault) (i : Item) (outcome : Outcome) → earliest (scope_faults files steps inside i outcome) ≡ option_or (walked_head files steps i outcome) (option_or (first_after (member_fault files steps inside i (order_of outcome)) [] (side_items i)) (setters_fault i))
world_split files steps inside i outcome =
    let listed = scope_names i in
    let order = order_of outcome in
    regroup_world (stability_fault (about i.declared).attributes) (first_after (name_fault files) [] (used listed ++ defined listed)) (order_fault missing_type_at (cyclic_at 16 type_word) outcome) (first_in (definition_fault (handle_fault files steps (address i))) (defined (in_order listed order))) (first_in (include_fault files i.top) (includes i)) (first_after folded_fault [] (map name_called (in_turn listed order))) (first_after (member_fault files steps inside i order) [] (side_items i)) (setters_fault i)

module _ (files : List PackageFile) (steps : ℕ) (ws : Resolved) (i : BorrowedItem) (outcome : Outcome) (named : map name_view i.names.items ≡ scope_names (item_view i)) where
  abbrev w : Item
  w = item_view i

  abbrev listed : List ScopeName
  listed = scope_names w

  abbrev test : Id → Option Fault
  test = handle_fault files steps (address w)

  abbrev stable : Option Fault
  stable = item_stability w

  abbrev uses : Option Fault
  uses = first_after (local_fault ws.interfaces) [] (flat_map own_use i.names.items)

  abbrev twice : Option Fault
  twice = local_names_fault (map local_id (used listed ++ defined listed))

  abbrev round : Option Fault
  round = order_fault missing_type_at (cyclic_at 16 type_word) outcome

  abbrev after : Option Fault
  after = option_or (includes_fault ws w) (defined_fault [] (map name_of_id (map local_id (in_turn listed (order_of outcome)))))

  -- by tables, over the names of the scope
  by_tables : (h : Id → Option Fault) → option_or (item_stability (item_view i)) (option_or (names_fault ws.interfaces i.names.items outcome h) (option_or (includes_fault ws (item_view i)) (defined_fault [] (map name_of_id (map local_id (in_turn (scope_names (item_view i)) (order_of outcome))))))) ≡ option_or stable (option_or (option_or uses (option_or twice (option_or round (first_in (definition_fault h) (defined (in_order listed (order_of outcome))))))) after)
  by_tables h = ap (λ (ys : List ScopeName). option_or stable (option_or (option_or uses (ordered_fault ys outcome h)) after)) named

  module _ (say : AreAsWalked files ws.interfaces (flat_map own_use i.names.items)) (included : includes_fault ws w ≡ first_in (include_fault files w.top) (includes w)) where
    pub head_walked : option_or (item_stability (item_view i)) (option_or (names_fault ws.interfaces i.names.items outcome test) (option_or (includes_fault ws (item_view i)) (defined_fault [] (map name_of_id (map local_id (in_turn (scope_names (item_view i)) (order_of outcome))))))) ≡ walked_head files steps w outcome
    head_walked =
        let order = order_of outcome in
        let definitions = first_in (definition_fault test) (defined (in_order listed order)) in
        let names = first_after (name_fault files) [] (used listed ++ defined listed) in
        let names_are : option_or uses twice ≡ names = names_walked files ws.interfaces (flat_map own_use i.names.items) listed (uses_viewed i.names.items ∙ ap used named) say in
        let last : option_or stable (option_or (option_or (option_or uses twice) (option_or round definitions)) after) ≡ walked_head files steps w outcome = rw (names_are, included, turn_walked (in_turn listed order)) refl in
        by_tables test ∙ ap (λ (o : Option Fault). option_or stable (option_or o after)) (sym (or_assoc uses twice (option_or round definitions))) ∙ last
