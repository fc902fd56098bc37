-- The first setter without its getter, by the names of a scope or of a side among which are those of functions, in their order.
use Rattle.std.proofs.Common.{◌≡◌, ◌⊎◌, ◌||◌, ◌&&◌, not, ℕ, suc, Bool, true, false, List, [], ◌∷◌, ◌++◌, map, take, Option, Some, None, Result, Ok, Err, inl, inr, refl, sym, ap, ◌∙◌, subst, arith, Contains}
use Rattle.wit_arena.proofs.Common.{Exported, Fault, Id, IfErr, Imported, OnOk, ParseError, Refused, SideFunction, SideInline, SideItem, SideLink, SourceFunction, WorldSide, and_parts, any_found, at_contains, at_take, bytes_eq, cases_Bool, cond-false, cond-true, contains_at, false_from_ne_true, fault_of, flat_map, getter_of, if◌then◌else◌, is_label, is_setter, item_function, item_side, items_on, kept_at, list_any, lone_setter, map_at, name_equal, name_itself, names_on, not-true, on_side, option_map_or, option_or, or_parts, role_side, same_side, slice_get, codes, Called}
use Rattle.wit_walk.proofs.Common.{Finds, any-map, any_some, first_in, in-at, in_some, is_setter as form_sets, setter_fault}
use Rattle.wit_functions.proofs.InTurn.{list_any-filter_none}
use Rattle.wit_walk.proofs.ScopeFaults.{if_some}
use Rattle.wit_refusals.specs.NameScopes.{Name, IsLoneSetter, IsFirstLoneSetter}
use Rattle.wit_rules.specs.declared.borrowed.BorrowedFunction.{BorrowedFunction}
use Rattle.wit_rules.specs.Signatures.{function_view}
use Rattle.wit_signatures.specs.FunctionsOfScope.{name_of_function, name_of_id}
use Rattle.wit_signatures.proofs.Mangling.{no_label-getter_of, no_setter-label, set_view}
use Rattle.wit_externs.specs.Clash.{lone_setters, item_names}

-- one of these names is this, and the fault of a name: it is a setter's, and none of these is its getter's
abbrev is_among : List Name → List ℕ → Bool
is_among all name = list_any (λ (m : Name). bytes_eq m.0 name) all

abbrev lone_name : List Name → Name → Option Fault
lone_name all n = if is_setter n.0 && not (is_among all (getter_of n.0)) then Some (lone_setter n.0 n.1) else None

lone_at : (names : List Name) (i : ℕ) (l : IsLoneSetter names i) → lone_name names l.setter ≡ Some (lone_setter l.setter.0 l.setter.1)
lone_at names i l =
    let n = l.setter in
    let miss : is_among names (getter_of n.0) ≡ false = false_from_ne_true (is_among names (getter_of n.0)) (λ hit. (
    let it = any_found (λ (m : Name). bytes_eq m.0 (getter_of n.0)) names hit in
    l.none it.0 it.1.1 (it.2 ∙ ap (λ (t : List ℕ). Some (t, it.1.1)) (name_equal it.1.0 (getter_of n.0) it.3)))) in
    ap (λ (b : Bool). if b && not (is_among names (getter_of n.0)) then Some (lone_setter n.0 n.1) else None) l.sets ∙ ap (λ (b : Bool). if true && not b then Some (lone_setter n.0 n.1) else None) miss

lone_of : (names : List Name) (i : ℕ) (n : Name) (f : Fault) → slice_get names i ≡ Some n → lone_name names n ≡ Some f → IsLoneSetter names i
lone_of names i n f at is =
    let getters = is_among names (getter_of n.0) in
    let parts = and_parts (is_setter n.0) (not getters) (if_some (is_setter n.0 && not getters) (lone_setter n.0 n.1) f is).0 in
    let alone = not-true getters parts.1 in
    record {
      setter = n;
      at = at;
      sets = parts.0;
      none = λ k span there. (
          let wrong : false ≡ true = sym alone ∙ any_some (λ (m : Name). bytes_eq m.0 (getter_of n.0)) names k (getter_of n.0, span) there (name_itself (getter_of n.0)) in
          let e : ⊥ = cc in
          e);
    }

-- where none of some names is one, there is no fault of them
none_lone : (names part : List Name) → ((i : ℕ) (n : Name) (f : Fault) → slice_get part i ≡ Some n → lone_name names n ≡ Some f → ⊥) → first_in (lone_name names) part ≡ None
none_lone names part none = by (first_in (lone_name names) part) refl
  where
    by : (o : Option Fault) → first_in (lone_name names) part ≡ o → first_in (lone_name names) part ≡ None
    by None is = is
    by (Some f) is = absurd (let it = in_some (lone_name names) part f is in none it.0 it.1 f it.2 it.3)

-- what a call finds that looks for one among the names
names_find : {T : Type 0} (r : Result T ParseError) (names : List Name) → OnOk r ((i : ℕ) → IsLoneSetter names i → ⊥) → IfErr r (Refused (IsFirstLoneSetter names)) → Finds (first_in (lone_name names) names) r
names_find (Ok x) names paired refused = none_lone names names (λ i n f at is. paired i (lone_of names i n f at is))
names_find (Err e) names paired refused = elim refused [
  | inl memory ↦ inl memory
  | inr l ↦ inr (
      let none = none_lone names (take l.place names) (λ i n f at is. (let there = at_take names l.place i n at in l.first i there.1 (lone_of names i n f there.0 is))) in
      in-at (lone_name names) names l.place l.lone.setter (fault_of e) l.lone.at none (lone_at names l.place l.lone ∙ ap Some (sym l.is)))
]

-- the names are those of these functions, in their order, and labels
abbrev pub AreMerged : List Name → List SourceFunction → Type 0
AreMerged [] gs = gs ≡ []
AreMerged (n ∷ ns) gs = ((id : Id) × (name_of_id id ≡ n) × AreMerged ns gs) ⊎ ((fn : SourceFunction) × (hs : List SourceFunction) × (gs ≡ fn ∷ hs) × (name_of_function fn ≡ n) × AreMerged ns hs)

pub merged_functions : (fns : List SourceFunction) → AreMerged (map name_of_function fns) fns
merged_functions [] = refl
merged_functions (fn ∷ fns) = inr (fn, fns, refl, refl, merged_functions fns)

pub merged_after : (ids : List Id) (ns : List Name) (gs : List SourceFunction) → AreMerged ns gs → AreMerged (map name_of_id ids ++ ns) gs
merged_after [] ns gs rest = rest
merged_after (id ∷ ids) ns gs rest = inl (id, refl, merged_after ids ns gs rest)

-- those on a side
merged_link : (name : Option Id) (ns : List Name) (gs : List SourceFunction) → AreMerged ns gs → AreMerged (map (λ (c : Called). (c.name, c.span)) (option_map_or (λ (id : Id). (record { name = id.name.now; span = id.span; sort = codes "interface" } ∷ [])) name []) ++ ns) gs
merged_link None ns gs rest = rest
merged_link (Some id) ns gs rest = inl (id, refl, rest)

merged_items : (items : List SideItem) → AreMerged (flat_map item_names items) (flat_map item_function items)
merged_items [] = refl
merged_items (SideFunction fn ∷ items) = inr (fn, flat_map item_function items, refl, refl, merged_items items)
merged_items (SideLink link ∷ items) = merged_link link.name (flat_map item_names items) (flat_map item_function items) (merged_items items)
merged_items (SideInline x name items ∷ others) = inl (name, refl, merged_items others)

functions_on : (side : WorldSide) (items : List SideItem) → flat_map item_function (items_on side items) ≡ on_side side (flat_map item_function items)
functions_on side [] = refl
functions_on side (x ∷ items) = elim (cases_Bool (same_side side (item_side x))) [
  | inl hit ↦ ap (flat_map item_function) (cond-true (same_side side (item_side x)) (x ∷ items_on side items) (items_on side items) hit) ∙ ap (λ (l : List SourceFunction). item_function x ++ l) (functions_on side items) ∙ kept x hit
  | inr miss ↦ ap (flat_map item_function) (cond-false (same_side side (item_side x)) (x ∷ items_on side items) (items_on side items) miss) ∙ functions_on side items ∙ gone x miss
]
  where
    rest : List SourceFunction
    rest = flat_map item_function items

    kept : (y : SideItem) → same_side side (item_side y) ≡ true → item_function y ++ on_side side rest ≡ on_side side (item_function y ++ rest)
    kept (SideFunction fn) hit = sym (cond-true (same_side side (role_side fn.role)) (fn ∷ on_side side rest) (on_side side rest) hit)
    kept (SideLink link) hit = refl
    kept (SideInline z name others) hit = refl

    gone : (y : SideItem) → same_side side (item_side y) ≡ false → on_side side rest ≡ on_side side (item_function y ++ rest)
    gone (SideFunction fn) miss = sym (cond-false (same_side side (role_side fn.role)) (fn ∷ on_side side rest) (on_side side rest) miss)
    gone (SideLink link) miss = refl
    gone (SideInline z name others) miss = refl

merged_types : (side : WorldSide) (ids : List Id) (ns : List Name) (gs : List SourceFunction) → AreMerged ns gs → AreMerged (names_on side (map name_of_id ids) ++ ns) gs
merged_types Imported ids ns gs rest = merged_after ids ns gs rest
merged_types Exported ids ns gs rest = rest

pub merged_side : (side : WorldSide) (ids : List Id) (items : List SideItem) (fns : List SourceFunction) → flat_map item_function items ≡ fns → AreMerged (names_on side (map name_of_id ids) ++ flat_map item_names (items_on side items)) (on_side side fns)
merged_side side ids items fns are = subst (AreMerged (names_on side (map name_of_id ids) ++ flat_map item_names (items_on side items))) (functions_on side items ∙ ap (on_side side) are) (merged_types side ids (flat_map item_names (items_on side items)) (flat_map item_function (items_on side items)) (merged_items (items_on side items)))

-- a text that is no label is among these names where it is that of a function
any_merged : (g : List ℕ) → is_label g ≡ false → (ns : List Name) (gs : List SourceFunction) → AreMerged ns gs → is_among ns g ≡ list_any (λ (fn : SourceFunction). bytes_eq fn.name g) gs
any_merged g other [] gs are = ap (list_any (λ (fn : SourceFunction). bytes_eq fn.name g)) (sym are)
any_merged g other (n ∷ ns) gs are = elim are [
  | inl label ↦ (
      let differs : bytes_eq label.0.name.now g ≡ false = false_from_ne_true (bytes_eq label.0.name.now g) (λ hit. (
      let wrong : false ≡ true = sym other ∙ subst (λ (t : List ℕ). is_label t ≡ true) (name_equal label.0.name.now g hit) label.0.label in
      let e : ⊥ = cc in
      e)) in
      ap (λ (m : Name). bytes_eq m.0 g || is_among ns g) (sym label.1) ∙ ap (λ (b : Bool). b || is_among ns g) differs ∙ any_merged g other ns gs label.2)
  | inr own ↦ ap (λ (m : Name). bytes_eq m.0 g || is_among ns g) (sym own.3) ∙ ap (λ (b : Bool). bytes_eq own.0.name g || b) (any_merged g other ns own.1 own.4) ∙ ap (list_any (λ (fn : SourceFunction). bytes_eq fn.name g)) (sym own.2)
]

-- these functions are setters by their names where they are by their forms
pub record AreNamed (gs : List SourceFunction) : Type 0 where
  pub each : (fn : SourceFunction) → Contains gs fn → is_setter fn.name ≡ form_sets fn.func.form

pub borrowed_named : (hs : List BorrowedFunction) → AreNamed (map function_view hs)
borrowed_named hs = record {
  each = λ fn among. (
      let j = at_contains (map function_view hs) fn among in
      let h = map_at function_view hs j.0 fn j.1 in
      subst (λ (g : SourceFunction). is_setter g.name ≡ form_sets g.func.form) h.2 (set_view h.0));
}

pub side_named : (side : WorldSide) (fns : List SourceFunction) → AreNamed fns → AreNamed (on_side side fns)
side_named side fns named = record {
  each = λ fn among. (
      let j = at_contains (on_side side fns) fn among in
      let k = kept_at (λ (g : SourceFunction). same_side side (role_side g.role)) fns j.0 fn j.1 in
      named.each fn (contains_at fns k.0 fn k.1));
}

module _ (all : List Name) (fns : List SourceFunction) (same : (name : List ℕ) → is_setter name ≡ true → is_among all (getter_of name) ≡ list_any (λ (fn : SourceFunction). bytes_eq fn.name (getter_of name)) fns) where
  -- of the name of a function, and of the function
  own_fault : (fn : SourceFunction) (b : Bool) → is_setter fn.name ≡ b → is_setter fn.name ≡ form_sets fn.func.form → lone_name all (name_of_function fn) ≡ setter_fault fns fn
  own_fault fn true is form =
      let getters = list_any (λ (g : SourceFunction). bytes_eq g.name (getter_of fn.name)) fns in
      ap (λ (b : Bool). if is_setter fn.name && not b then Some (lone_setter fn.name fn.span) else None) (same fn.name is)
      ∙ ap (λ (b : Bool). if b && not getters then Some (lone_setter fn.name fn.span) else None) form
  own_fault fn false is form =
      let getters = list_any (λ (g : SourceFunction). bytes_eq g.name (getter_of fn.name)) fns in
      ap (λ (b : Bool). if b && not (is_among all (getter_of fn.name)) then Some (lone_setter fn.name fn.span) else None) is
      ∙ sym (ap (λ (b : Bool). if b && not getters then Some (lone_setter fn.name fn.span) else None) (sym form ∙ is))

  -- no label is the name of a setter
  label_fault : (id : Id) → lone_name all (name_of_id id) ≡ None
  label_fault id = ap (λ (b : Bool). if b && not (is_among all (getter_of id.name.now)) then Some (lone_setter id.name.now id.span) else None) (no_setter-label id.name.now id.label)

  all_faults : (ns : List Name) (gs : List SourceFunction) → AreMerged ns gs → AreNamed gs → first_in (lone_name all) ns ≡ first_in (setter_fault fns) gs
  all_faults [] gs are named = ap (first_in (setter_fault fns)) (sym are)
  all_faults (n ∷ ns) gs are named = elim are [
    | inl label ↦ ap (λ (m : Name). option_or (lone_name all m) (first_in (lone_name all) ns)) (sym label.1) ∙ ap (λ (o : Option Fault). option_or o (first_in (lone_name all) ns)) (label_fault label.0) ∙ all_faults ns gs label.2 named
    | inr own ↦ (
        let fn = own.0 in
        let inside : AreNamed (fn ∷ own.1) = subst AreNamed own.2 named in
        let rest : AreNamed own.1 = record { each = λ g among. inside.each g (suc among.0, omega (arith, among.1), among.2) } in
        ap (λ (m : Name). option_or (lone_name all m) (first_in (lone_name all) ns)) (sym own.3)
        ∙ ap (λ (o : Option Fault). option_or o (first_in (lone_name all) ns)) (own_fault fn (is_setter fn.name) refl (inside.each fn (0, omega arith, refl)))
        ∙ ap (option_or (setter_fault fns fn)) (all_faults ns own.1 own.4 rest)
        ∙ ap (first_in (setter_fault fns)) (sym own.2))
  ]

-- what is found among the names of functions and labels is found of the functions
pub lone_found : {T : Type 0} (r : Result T ParseError) (names : List Name) (fns : List SourceFunction) → AreMerged names fns → AreNamed fns → OnOk r ((i : ℕ) → IsLoneSetter names i → ⊥) → IfErr r (Refused (IsFirstLoneSetter names)) → Finds (lone_setters fns) r
lone_found r names fns are named paired refused =
    let same = λ (name : List ℕ) (sets : is_setter name ≡ true). any_merged (getter_of name) (no_label-getter_of name sets) names fns are in
    subst (λ (o : Option Fault). Finds o r) (all_faults names fns same names fns are named) (names_find r names paired refused)

-- where no function is a setter, none is alone
pub none_set : (fns gs : List SourceFunction) → list_any (λ (fn : SourceFunction). form_sets fn.func.form) gs ≡ false → first_in (setter_fault fns) gs ≡ None
none_set fns [] none = refl
none_set fns (fn ∷ gs) none =
    let parts = or_parts (form_sets fn.func.form) (list_any (λ (g : SourceFunction). form_sets g.func.form) gs) none in
    ap (λ (b : Bool). option_or (if b && not (list_any (λ (g : SourceFunction). bytes_eq g.name (getter_of fn.name)) fns) then Some (lone_setter fn.name fn.span) else None) (first_in (setter_fault fns) gs)) parts.0 ∙ none_set fns gs parts.1

pub none_borrowed : (hs : List BorrowedFunction) → list_any (λ (h : BorrowedFunction). form_sets (function_view h).func.form) hs ≡ false → lone_setters (map function_view hs) ≡ None
none_borrowed hs none = none_set (map function_view hs) (map function_view hs) (any-map (λ (fn : SourceFunction). form_sets fn.func.form) function_view hs ∙ none)

pub none_on : (side : WorldSide) (hs : List BorrowedFunction) → list_any (λ (h : BorrowedFunction). form_sets (function_view h).func.form) hs ≡ false → lone_setters (on_side side (map function_view hs)) ≡ None
none_on side hs none =
    let fns = map function_view hs in
    none_set (on_side side fns) (on_side side fns) (list_any-filter_none (λ (fn : SourceFunction). form_sets fn.func.form) (λ (fn : SourceFunction). same_side side (role_side fn.role)) fns (any-map (λ (fn : SourceFunction). form_sets fn.func.form) function_view hs ∙ none))
