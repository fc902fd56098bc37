-- Where the walk finds nothing in what is on the sides of an item, no rule about it is broken.
use Rattle.std.proofs.Common.{◌≡◌, ◌≤◌, ℕ, zero, suc, Bool, true, false, ◌&&◌, List, [], ◌∷◌, ◌++◌, length, take, Option, Some, None, inl, inr, refl, sym, ap, ◌∙◌, subst, append_assoc, Contains, arith}
use Rattle.wit_syntax.proofs.Common.{AllDiffer, Called, CrossedTwice, Exported, Extern, Fault, FoldedTwice, Id, Imported, InterfaceItem, InterfaceMetadata, IsBrokenFunction, IsBrokenMetadata, IsBrokenSides, IsLinkedTwice, IsOrder, Item, Link, PackageFile, ScopeName, SideFunction, SideInline, SideItem, SideLink, SourceFunction, WorldSide, address, all_items, and_from, append-nil, at_contains, cases_Bool, clash, codes, cond-false, cond-true, contains_at, fault_in, filter, filter-append, flat_map, flat_map-append, flat_map_at, flat_map_has, folded_key, functions, handles, if◌then◌else◌, in_turn, inline_item, interface_attributes, is_interface, is_none, is_world_at, item_called, item_function, item_link, item_side, items_on, leads, linked_twice, list_any, map, name_called, names_on, no_crossed, no_fold, option_or, path_id, path_scope, rows_of, same_address, same_address-from, same_side, same_side-equal, scope_names, side_called, side_items, slice_get, written_types, «Type» as Written}
use Rattle.wit_first.specs.AttributeFaults.{external_fault, metadata_fault, stability_fault}
use Rattle.wit_first.specs.FileFaults.{lost_fault}
use Rattle.wit_first.specs.First.{first_in, first_after, clash_of}
use Rattle.wit_first.specs.UseFaults.{path_fault, reached_fault}
use Rattle.wit_first.proofs.Bridge.{after_only, metadata_agree, or_none_both, clash_differs}
use Rattle.wit_first.proofs.First.{after-append, any_some, none_both}
use Rattle.wit_walk.specs.Definitions.{handle_fault}
use Rattle.wit_walk.specs.Functions.{function_fault, signed_fault, word_fault}
use Rattle.wit_walk.specs.Members.{called_fault, crossed, is_extern, item_fault, member_fault, own_fault}
use Rattle.wit_walk.specs.Names.{folded_fault}
use Rattle.wit_walk.specs.Paths.{is_same_link, linked_fault}
use Rattle.wit_syntax.proofs.Common.{flat_has}
use Rattle.wit_walk.proofs.FunctionsLegal.{function_legal, type_none}
use Rattle.wit_walk.proofs.ScopeFaults.{if_none}
use Rattle.wit_walk.proofs.TypesLegal.{handles_free}

-- what a test keeps, up to one of it
abbrev IsSplit : {X : Type 0} → (X → Bool) → List X → ℕ → X → Type 0
IsSplit test xs place x = (k : ℕ) × (slice_get xs k ≡ Some x) × (test x ≡ true) × (filter test (take k xs) ≡ take place (filter test xs))

kept_split : {X : Type 0} (test : X → Bool) (xs : List X) (place : ℕ) (x : X) → slice_get (filter test xs) place ≡ Some x → IsSplit test xs place x
kept_split test [] place x at = absurd (let f : ⊥ = cc in f)
kept_split {X} test (y ∷ ys) place x at = elim (cases_Bool (test y)) [
  | inl hit ↦ (let kept = cond-true (test y) (y ∷ filter test ys) (filter test ys) hit in first (λ n. kept_split test ys n x) place (sym (ap (λ (l : List X). slice_get l place) kept) ∙ at) hit kept)
  | inr miss ↦ (
      let kept = cond-false (test y) (y ∷ filter test ys) (filter test ys) miss in
      let it = kept_split test ys place x (sym (ap (λ (l : List X). slice_get l place) kept) ∙ at) in
      (suc it.0, it.1, it.2, cond-false (test y) (y ∷ filter test (take it.0 ys)) (filter test (take it.0 ys)) miss ∙ it.3 ∙ sym (ap (take place) kept)))
]
  where
    first : ((n : ℕ) → slice_get (filter test ys) n ≡ Some x → IsSplit test ys n x) → (n : ℕ) → slice_get (y ∷ filter test ys) n ≡ Some x → test y ≡ true → filter test (y ∷ ys) ≡ y ∷ filter test ys → IsSplit test (y ∷ ys) n x
    first later zero here hit kept = (let same : y ≡ x = cc in (0, ap Some same, ap test (sym same) ∙ hit, refl))
    first later (suc n) here hit kept =
        let it = later n here in
        (suc it.0, it.1, it.2, cond-true (test y) (y ∷ filter test (take it.0 ys)) (filter test (take it.0 ys)) hit ∙ ap (λ (l : List X). y ∷ l) it.3 ∙ sym (ap (take (suc n)) kept))

-- what is on a side has at most one name, and nothing is wrong with it
called_none : (extern : Bool) (as_crossed : Called → Called → Fault) (before cs : List Called) → length cs ≤ 1 → first_in (called_fault extern as_crossed before) cs ≡ None → first_after folded_fault before cs ≡ None
called_none extern as_crossed before [] few none = refl
called_none extern as_crossed before (c ∷ []) few none =
    let own = or_none_both (called_fault extern as_crossed before c) None none in
    none_both (or_none_both (if extern then clash_of (λ (d : Called). d.name) as_crossed before c else None) (folded_fault before c) own.0).1 refl
called_none extern as_crossed before (c ∷ d ∷ cs) few none = absurd (let f : ⊥ = omega (arith, few) in f)

called_few : (x : SideItem) → length (item_called x) ≤ 1
called_few (SideFunction fn) = omega arith
called_few (SideInline x name items) = omega arith
called_few (SideLink link) = by link.name
  where
    by : (o : Option Id) → length (item_called (SideLink (record { side = link.side; name = o; path = link.path; docs = link.docs; attributes = link.attributes }))) ≤ 1
    by None = omega arith
    by (Some id) = omega arith

function_is : (y : SideItem) (r : ℕ) (fn : SourceFunction) → slice_get (item_function y) r ≡ Some fn → y ≡ SideFunction fn
function_is (SideFunction g) zero fn at = (let same : g ≡ fn = cc in ap SideFunction same)
function_is (SideFunction g) (suc r) fn at = absurd (let f : ⊥ = cc in f)
function_is (SideLink link) r fn at = absurd (let f : ⊥ = cc in f)
function_is (SideInline x name items) r fn at = absurd (let f : ⊥ = cc in f)

-- a path by which an interface is imported or exported leads where it has to
there_reached : (o : Option Bool) (id : Id) (lost twice : Option Fault) → reached_fault o id lost twice ≡ None → reached_fault o id lost None ≡ None
there_reached None id lost twice none = none
there_reached (Some true) id lost twice none = none
there_reached (Some false) id lost twice none = refl

module _ (files : List PackageFile) (n : ℕ) (inside : Item → Option Fault) (i : Item) (order : List ℕ) (none : first_after (member_fault files n inside i order) [] (side_items i) ≡ None) where
  abbrev xs : List ScopeName
  xs = scope_names i

  abbrev all : List SideItem
  all = side_items i

  abbrev own_names : SideItem → List SideItem → Option Fault
  own_names x before = own_fault xs (items_on (item_side x) before) order x

  pub item_none : (k : ℕ) (x : SideItem) → slice_get all k ≡ Some x → item_fault files n inside i (take k all) x ≡ None
  item_none k x at = (or_none_both (item_fault files n inside i (take k all) x) (own_names x (take k all)) (after_only (member_fault files n inside i order) [] all none k x at)).0

  -- functions
  abbrev upto : ℕ → SourceFunction → List SourceFunction
  upto k fn = flat_map item_function (take k all) ++ fn ∷ []

  abbrev signed : ℕ → SourceFunction → Written → Option Fault
  signed k fn = signed_fault xs (upto k fn) (handle_fault files n (address i))

  function_none : (k : ℕ) (fn : SourceFunction) → slice_get (functions i) k ≡ Some fn → (m : ℕ) × (function_fault (signed m fn) xs fn ≡ None)
  function_none k fn at =
      let it = flat_map_at item_function all k fn at in
      (it.0, item_none it.0 (SideFunction fn) (it.2 ∙ ap Some (function_is it.1 it.3.0 fn it.3.1)))

  pub functions_legal : (k : ℕ) (fn : SourceFunction) → slice_get (functions i) k ≡ Some fn → (f : Fault) → IsBrokenFunction xs (functions i) k fn f → ⊥
  functions_legal k fn at f broken = (let it = function_none k fn at in function_legal i k fn at (upto it.0 fn) (handle_fault files n (address i)) it.1 f broken)

  pub signed_handles : (t : Written) → Contains (flat_map written_types (functions i)) t → (id : Id) → Contains (handles t) id → handle_fault files n (address i) id ≡ None
  signed_handles t among id h =
      let p = flat_has written_types (functions i) t among in
      let fn = p.1 in
      let it = function_none p.0 fn p.2 in
      let word = word_fault xs (upto it.0 fn) in
      let handle = handle_fault files n (address i) in
      let right = type_none i p.0 fn p.2 (upto it.0 fn) handle it.1 t (contains_at (written_types fn) p.3.0 t p.3.1) in
      (or_none_both (word id) (handle id) (handles_free word (λ (w : Id). option_or (word w) (handle w)) t right id h)).1

  -- links
  abbrev there_none : ℕ → Link → Option Fault
  there_none k link = reached_fault (is_world_at files (leads i.top link.path)) (path_id link.path) (lost_fault (all_items files) (leads i.top link.path)) (linked_fault i.top (take k all) link)

  link_none : (k : ℕ) (link : Link) → slice_get all k ≡ Some (SideLink link) → (metadata_fault link.attributes ≡ None) × (there_none k link ≡ None)
  link_none k link at = or_none_both (metadata_fault link.attributes) (there_none k link) (item_none k (SideLink link) at)

  pub link_reached : (k : ℕ) (link : Link) → slice_get all k ≡ Some (SideLink link) → path_fault files i.top link.path None ≡ None
  link_reached k link at = there_reached (is_world_at files (leads i.top link.path)) (path_id link.path) (lost_fault (all_items files) (leads i.top link.path)) (linked_fault i.top (take k all) link) (link_none k link at).1

  same_link : (a b : Link) → a.name ≡ None → b.name ≡ None → path_scope i.top a.path ≡ path_scope i.top b.path → is_same_link i.top a b ≡ true
  same_link a b no_a no_b paths =
      let same = same_address (path_scope i.top a.path) (path_scope i.top b.path) in
      and_from (is_none a.name) (is_none b.name && same) (ap is_none no_a) (and_from (is_none b.name) same (ap is_none no_b) (same_address-from (path_scope i.top a.path) (path_scope i.top b.path) paths))

  pub links_legal : (f : Fault) → IsLinkedTwice files i f → ⊥
  links_legal f (side, place, earlier, later, among, at, no_a, no_b, paths, there, says) =
      let on = λ (y : SideItem). same_side side (item_side y) in
      let it = kept_split on all place (SideLink later) at in
      let k = it.0 in
      let its : side ≡ later.side = same_side-equal side later.side it.2 in
      let before : items_on later.side (take k all) ≡ take place (items_on side all) = ap (λ (s : WorldSide). items_on s (take k all)) (sym its) ∙ it.3 in
      let e = at_contains (take place (items_on side all)) (SideLink earlier) among in
      let own = flat_map_has item_link (items_on later.side (take k all)) e.0 0 (SideLink earlier) earlier (ap (λ (l : List SideItem). slice_get l e.0) before ∙ e.1) refl in
      let test = λ (l : Link). is_same_link i.top l later in
      let found = any_some test (flat_map item_link (items_on later.side (take k all))) own.0 earlier own.1 (same_link earlier later no_a no_b paths) in
      let right : linked_fault i.top (take k all) later ≡ None = subst (λ (o : Option Bool). reached_fault o (path_id later.path) (lost_fault (all_items files) (leads i.top later.path)) (linked_fault i.top (take k all) later) ≡ None) there (link_none k later it.1).1 in
      if_none (list_any test (flat_map item_link (items_on later.side (take k all)))) (linked_twice later.side (path_id later.path).span) right found

  -- the attributes of interfaces, where nothing is wrong with those that say how stable one is that is written here
  pub attributes_legal : ((k : ℕ) (x : Extern) (name : Id) (items : List InterfaceItem) → slice_get all k ≡ Some (SideInline x name items) → stability_fault x.attributes.items ≡ None) → (k : ℕ) (x : SideItem) → slice_get all k ≡ Some x → (f : Fault) → IsBrokenMetadata (interface_attributes x) f → ⊥
  attributes_legal stable k (SideFunction fn) at f broken = (metadata_agree []).unbroken refl f broken
  attributes_legal stable k (SideLink link) at f broken = (metadata_agree link.attributes).unbroken (link_none k link at).0 f broken
  attributes_legal stable k (SideInline x name items) at f broken =
      let written = inline_item i (length (filter is_interface (items_on x.side (take k all)))) (SideInline x name items) in
      let own = or_none_both (first_in inside written) (external_fault x.attributes.items) (item_none k (SideInline x name items) at) in
      (metadata_agree x.attributes.items).unbroken (none_both (stable k x name items at) own.1) f broken

  -- the names of a side
  abbrev types : WorldSide → List Called
  types side = map name_called (names_on side (in_turn xs order))

  abbrev names : WorldSide → List SideItem → List Called
  names side there = types side ++ flat_map item_called (items_on side there)

  names_more : (side : WorldSide) (before : List SideItem) (x : SideItem) → same_side side (item_side x) ≡ true → names side (before ++ x ∷ []) ≡ names side before ++ item_called x
  names_more side before x own =
      let on = λ (y : SideItem). same_side side (item_side y) in
      let it : items_on side (before ++ x ∷ []) ≡ items_on side before ++ x ∷ [] = filter-append on before (x ∷ []) ∙ ap (λ (l : List SideItem). items_on side before ++ l) (cond-true (on x) (x ∷ []) [] own) in
      let called = flat_map item_called (items_on side before) in
      ap (λ (l : List SideItem). types side ++ flat_map item_called l) it
      ∙ ap (λ (l : List Called). types side ++ l) (flat_map-append item_called (items_on side before) (x ∷ []))
      ∙ ap (λ (l : List Called). types side ++ (called ++ l)) (append-nil (item_called x))
      ∙ sym (append_assoc (types side) called (item_called x))

  names_past : (side : WorldSide) (before : List SideItem) (x : SideItem) → same_side side (item_side x) ≡ false → names side (before ++ x ∷ []) ≡ names side before
  names_past side before x other =
      let on = λ (y : SideItem). same_side side (item_side y) in
      ap (λ (l : List SideItem). types side ++ flat_map item_called l) (filter-append on before (x ∷ []) ∙ ap (λ (l : List SideItem). items_on side before ++ l) (cond-false (on x) (x ∷ []) [] other) ∙ append-nil (items_on side before))

  names_from : (side : WorldSide) (before rest : List SideItem) → first_after (member_fault files n inside i order) before rest ≡ None → first_after folded_fault (names side before) (flat_map item_called (items_on side rest)) ≡ None
  names_from side before [] h = refl
  names_from side before (x ∷ rest) h =
      let on = λ (y : SideItem). same_side side (item_side y) in
      let both = or_none_both (member_fault files n inside i order before x) (first_after (member_fault files n inside i order) (before ++ x ∷ []) rest) h in
      let later = names_from side (before ++ x ∷ []) rest both.1 in
      let called = flat_map item_called (items_on side rest) in
      elim (cases_Bool (on x)) [
        | inl hit ↦ (
            let its : side ≡ item_side x = same_side-equal side (item_side x) hit in
            let own = (or_none_both (item_fault files n inside i before x) (own_names x before) both.0).1 in
            let here = called_none (is_extern x) (crossed side) (names side before) (item_called x) (called_few x) (subst (λ (s : WorldSide). first_in (called_fault (is_extern x) (crossed s) (names s before)) (item_called x) ≡ None) (sym its) own) in
            let more : first_after folded_fault (names side before ++ item_called x) called ≡ None = subst (λ (l : List Called). first_after folded_fault l called ≡ None) (names_more side before x hit) later in
            ap (λ (l : List SideItem). first_after folded_fault (names side before) (flat_map item_called l)) (cond-true (on x) (x ∷ items_on side rest) (items_on side rest) hit)
            ∙ after-append folded_fault (names side before) (item_called x) called
            ∙ none_both here more)
        | inr miss ↦ (
            ap (λ (l : List SideItem). first_after folded_fault (names side before) (flat_map item_called l)) (cond-false (on x) (x ∷ items_on side rest) (items_on side rest) miss)
            ∙ subst (λ (l : List Called). first_after folded_fault l called ≡ None) (names_past side before x miss) later)
      ]

  -- so those of each side differ once case is folded
  module _ (turned : first_after folded_fault [] (map name_called (in_turn xs order)) ≡ None) where
    types_none : (side : WorldSide) → first_after folded_fault [] (types side) ≡ None
    types_none Imported = turned
    types_none Exported = refl

    names_differ : (side : WorldSide) → AllDiffer (map (λ (c : Called). folded_key c.name) (side_called side xs (items_on side all) order))
    names_differ side =
        let called = flat_map item_called (items_on side all) in
        let nothing : types side ≡ names side [] = sym (append-nil (types side)) in
        let later : first_after folded_fault (types side) called ≡ None = ap (λ (l : List Called). first_after folded_fault l called) nothing ∙ names_from side [] all none in
        clash_differs (λ (c : Called). folded_key c.name) (λ (earlier later : Called). fault_in 17 later.span (clash (codes "name") earlier.name later.name)) (types side ++ called) (after-append folded_fault [] (types side) called ∙ none_both (types_none side) later)

    pub sides_legal : IsOrder (rows_of xs) order → ((k : ℕ) (x : Extern) (name : Id) (items : List InterfaceItem) → slice_get all k ≡ Some (SideInline x name items) → stability_fault x.attributes.items ≡ None) → (f : Fault) → IsBrokenSides i f → ⊥
    sides_legal least stable f broken = elim broken [
      | FoldedTwice h ↦ no_fold xs all order f least names_differ h
      | CrossedTwice h ↦ no_crossed xs all order f least names_differ h
      | InterfaceMetadata x among h ↦ (let k = at_contains all x among in attributes_legal stable k.0 x k.1 f h)
    ]
