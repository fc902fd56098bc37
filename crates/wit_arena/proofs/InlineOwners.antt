-- Where the interfaces that are written in worlds are among what these have on their sides.
use Rattle.std.proofs.Common.{◌≡◌, ℕ, zero, suc, true, false, List, [], ◌∷◌, ◌++◌, ◌+◌, length, map, Option, Some, None, ◌⊎◌, inl, inr, refl, sym, ap, ◌∙◌, arith, length-append}
use Rattle.wit_arena.proofs.Names.{Address, Exported, Foreign, Function, Id, Imported, Include, InlineAt, InterfaceNamed, Item, Link, Local, Names, ScopeName, SideFunction, SideInline, SideItem, SideLink, SourceFunction, Target, World, WorldItem, WorldKey, WorldSide, address, at_back, at_part, at_prefix, cases_Bool, cond-false, cond-true, filter, filter-append, function_item, inline_after, inline_entry, inline_items, interface_at, interface_items, interfaces_from, interfaces_on, interfaces_on-append, is_inside, is_interface, is_interface_item, item_name, item_side, leads, link_item, option_map_or, path_scope, put_on, role_side, same_side, same_side-equal, settled, side_items, side_itself, slice_get, target_scope, type_imports, world_interfaces}
use Rattle.wit_arena.proofs.Settled.{settled_interfaces}
use Rattle.wit_arena.proofs.MadeSides.{AreSideItems}

abbrev Entry : Type 0
Entry = WorldKey × WorldItem

-- names of types are no interfaces
no_interfaces : (xs : List ScopeName) (types : Names) → interface_items (type_imports xs types) ≡ []
no_interfaces [] types = refl
no_interfaces (x ∷ xs) [] = refl
no_interfaces (x ∷ xs) (t ∷ types) = no_interfaces xs types

-- of what is put on a side an interface is among those there, and nothing else does
put_interface : (side own : WorldSide) (x : Entry) (rest : List Entry) → is_interface_item x ≡ true → interface_items (put_on side own x rest) ≡ put_on side own x (interface_items rest)
put_interface side own x rest is = elim (cases_Bool (same_side side own)) [
  | inl hit ↦ ap interface_items (cond-true (same_side side own) (x ∷ rest) rest hit) ∙ cond-true (is_interface_item x) (x ∷ interface_items rest) (interface_items rest) is ∙ sym (cond-true (same_side side own) (x ∷ interface_items rest) (interface_items rest) hit)
  | inr miss ↦ ap interface_items (cond-false (same_side side own) (x ∷ rest) rest miss) ∙ sym (cond-false (same_side side own) (x ∷ interface_items rest) (interface_items rest) miss)
]

put_other : (side own : WorldSide) (x : Entry) (rest : List Entry) → is_interface_item x ≡ false → interface_items (put_on side own x rest) ≡ interface_items rest
put_other side own x rest is = elim (cases_Bool (same_side side own)) [
  | inl hit ↦ ap interface_items (cond-true (same_side side own) (x ∷ rest) rest hit) ∙ cond-false (is_interface_item x) (x ∷ interface_items rest) (interface_items rest) is
  | inr miss ↦ ap interface_items (cond-false (same_side side own) (x ∷ rest) rest miss)
]

-- how many interfaces are on a side
abbrev on : WorldSide → List SideItem → ℕ
on side xs = length (interfaces_on side xs)

on_more : (side : WorldSide) (before : List SideItem) (x : SideItem) → on side (before ++ x ∷ []) ≡ on side before + on side (x ∷ [])
on_more side before x = ap length (interfaces_on-append side before (x ∷ [])) ∙ length-append (interfaces_on side before) (interfaces_on side (x ∷ []))

-- a function is none
on_function : (side : WorldSide) (before : List SideItem) (fn : SourceFunction) → on side (before ++ SideFunction fn ∷ []) ≡ on side before
on_function side before fn =
    let none : on side (SideFunction fn ∷ []) ≡ 0 = elim (cases_Bool (same_side side (role_side fn.role))) [
      | inl hit ↦ ap (λ (l : List SideItem). length (filter is_interface l)) (cond-true (same_side side (role_side fn.role)) (SideFunction fn ∷ []) [] hit)
      | inr miss ↦ ap (λ (l : List SideItem). length (filter is_interface l)) (cond-false (same_side side (role_side fn.role)) (SideFunction fn ∷ []) [] miss)
    ] in
    let more = on_more side before (SideFunction fn) in
    omega arith

module _ (world : List ℕ) (side : WorldSide) (before : List SideItem) (x : SideItem) (is : is_interface x ≡ true) (z : Entry) (rest : List Entry) where
  abbrev all : List (ℕ × Address)
  all = interfaces_from world side (on side before) (put_on side (item_side x) z rest)

  abbrev later : List (ℕ × Address)
  later = interfaces_from world side (on side (before ++ x ∷ [])) rest

  put_here : same_side side (item_side x) ≡ true → all ≡ interface_at world side (on side before) z ++ later
  put_here hit =
      let one : on side (x ∷ []) ≡ 1 = ap (λ (l : List SideItem). length (filter is_interface l)) (cond-true (same_side side (item_side x)) (x ∷ []) [] hit) ∙ ap length (cond-true (is_interface x) (x ∷ []) [] is) in
      let more = on_more side before x in
      let next : suc (on side before) ≡ on side (before ++ x ∷ []) = omega arith in
      ap (interfaces_from world side (on side before)) (cond-true (same_side side (item_side x)) (z ∷ rest) rest hit) ∙ ap (λ (n : ℕ). interface_at world side (on side before) z ++ interfaces_from world side n rest) next

  put_past : same_side side (item_side x) ≡ false → all ≡ later
  put_past miss =
      let none : on side (x ∷ []) ≡ 0 = ap (λ (l : List SideItem). length (filter is_interface l)) (cond-false (same_side side (item_side x)) (x ∷ []) [] miss) in
      let more = on_more side before x in
      let next : on side before ≡ on side (before ++ x ∷ []) = omega arith in
      ap (interfaces_from world side (on side before)) (cond-false (same_side side (item_side x)) (z ∷ rest) rest miss) ∙ ap (λ (n : ℕ). interfaces_from world side n rest) next

  -- what holds of an entry, and of those after it, holds of all
  put_each : (P : ℕ × Address → Type 0) → (same_side side (item_side x) ≡ true → (j : ℕ) (e : ℕ × Address) → slice_get (interface_at world side (on side before) z) j ≡ Some e → P e) → ((j : ℕ) (e : ℕ × Address) → slice_get later j ≡ Some e → P e) → (j : ℕ) (e : ℕ × Address) → slice_get all j ≡ Some e → P e
  put_each P own far j e at = elim (cases_Bool (same_side side (item_side x))) [
    | inl hit ↦ elim (at_part (interface_at world side (on side before) z) later j e (ap (λ l. slice_get l j) (sym (put_here hit)) ∙ at)) [
      | inl h ↦ own hit h.0 e h.1
      | inr h ↦ far h.0 e h.1
    ]
    | inr miss ↦ far j e (ap (λ l. slice_get l j) (sym (put_past miss)) ∙ at)
  ]

  put_later : (j : ℕ) (e : ℕ × Address) → slice_get later j ≡ Some e → (k : ℕ) × (slice_get all k ≡ Some e)
  put_later j e at = elim (cases_Bool (same_side side (item_side x))) [
    | inl hit ↦ (let own = interface_at world side (on side before) z in (length own + j, ap (λ l. slice_get l (length own + j)) (put_here hit) ∙ at_back own later j e at))
    | inr miss ↦ (j, ap (λ l. slice_get l j) (put_past miss) ∙ at)
  ]

  put_first : (j : ℕ) (e : ℕ × Address) → same_side side (item_side x) ≡ true → slice_get (interface_at world side (on side before) z) j ≡ Some e → (k : ℕ) × (slice_get all k ≡ Some e)
  put_first j e hit at = (j, ap (λ l. slice_get l j) (put_here hit) ∙ at_prefix (interface_at world side (on side before) z) later j e at)

-- no path leads to an interface that is written in a world
used_outside : (t : Target) → is_inside (target_scope InterfaceNamed t) ≡ false
used_outside (Local id) = refl
used_outside (Foreign p id) = refl

-- the entry of an interface means it at the address that it has there, or for one that is written in no world
abbrev pub IsInlineEntry : List Address → ℕ × Address → Type 0
IsInlineEntry interfaces e = (slice_get interfaces e.0 ≡ Some e.1) ⊎ ((s : Address) × (slice_get interfaces e.0 ≡ Some s) × (is_inside s ≡ false))

module _ (interfaces : List Address) (w : Item) (side : WorldSide) where
  link_entry : (name : Option Id) (link : Link) (place n : ℕ) → link.name ≡ name → slice_get interfaces place ≡ Some (path_scope w.top link.path) → (j : ℕ) (e : ℕ × Address) → slice_get (interface_at (item_name w) side n (link_item link place)) j ≡ Some e → IsInlineEntry interfaces e
  link_entry None link place n is at j e there = absurd (let none : slice_get (interface_at (item_name w) side n (link_item link place)) j ≡ None = rw is refl in let f : ⊥ = cc in f)
  link_entry (Some id) link place n is at j e there =
      let one : interface_at (item_name w) side n (link_item link place) ≡ (place, InlineAt (item_name w) side n) ∷ [] = rw is refl in
      entry_one j e (ap (λ l. slice_get l j) (sym one) ∙ there)
    where
      entry_one : (j : ℕ) (e : ℕ × Address) → slice_get ((place, InlineAt (item_name w) side n) ∷ []) j ≡ Some e → IsInlineEntry interfaces e
      entry_one zero e own = inr (path_scope w.top link.path, (let same : e.0 ≡ place = (let both : Some (place, InlineAt (item_name w) side n) ≡ Some e = own in ap (λ (x : ℕ × Address). x.0) (let one : e ≡ (place, InlineAt (item_name w) side n) = cc in one)) in ap (slice_get interfaces) same ∙ at), used_outside (leads w.top link.path))
      entry_one (suc j) e own = absurd (let f : ⊥ = cc in f)

  -- those of a function more are those after it
  function_past : (before : List SideItem) (fn : SourceFunction) (f : Function) (xs rest : List Entry) → xs ≡ put_on side (role_side fn.role) (function_item f) rest → interfaces_from (item_name w) side (on side before) (interface_items xs) ≡ interfaces_from (item_name w) side (on side (before ++ SideFunction fn ∷ [])) (interface_items rest)
  function_past before fn f xs rest are =
      ap (λ (l : List Entry). interfaces_from (item_name w) side (on side before) l) (ap interface_items are ∙ put_other side (role_side fn.role) (function_item f) rest refl)
      ∙ ap (λ (n : ℕ). interfaces_from (item_name w) side n (interface_items rest)) (sym (on_function side before fn))

  -- those of an interface more
  interface_first : (before : List SideItem) (own : WorldSide) (z : Entry) (xs rest : List Entry) → is_interface_item z ≡ true → xs ≡ put_on side own z rest → interfaces_from (item_name w) side (on side before) (interface_items xs) ≡ interfaces_from (item_name w) side (on side before) (put_on side own z (interface_items rest))
  interface_first before own z xs rest is are = ap (λ (l : List Entry). interfaces_from (item_name w) side (on side before) l) (ap interface_items are ∙ put_interface side own z rest is)

  -- each is such
  pub entries_each : (before written : List SideItem) (fs : List Function) (xs : List Entry) → AreSideItems interfaces w.top side written fs (map address (inline_after w before written)) xs → (j : ℕ) (e : ℕ × Address) → slice_get (interfaces_from (item_name w) side (on side before) (interface_items xs)) j ≡ Some e → IsInlineEntry interfaces e
  entries_each before [] fs xs are j e at = absurd (let none : slice_get (interfaces_from (item_name w) side (on side before) (interface_items xs)) j ≡ None = rw are refl in let f : ⊥ = cc in f)
  entries_each before (SideFunction fn ∷ written) [] xs are j e at = absurd are
  entries_each before (SideFunction fn ∷ written) (f ∷ fs) xs are j e at = entries_each (before ++ SideFunction fn ∷ []) written fs are.0 are.2 j e (ap (λ l. slice_get l j) (sym (function_past before fn f xs are.0 are.1)) ∙ at)
  entries_each before (SideLink link ∷ written) fs xs are j e at = put_each (item_name w) side before (SideLink link) refl (link_item link are.0) (interface_items are.1) (IsInlineEntry interfaces) (λ hit. link_entry link.name link are.0 (on side before) refl are.2) (entries_each (before ++ SideLink link ∷ []) written fs are.1 are.4) j e (ap (λ l. slice_get l j) (sym (interface_first before link.side (link_item link are.0) xs are.1 refl are.3)) ∙ at)
  entries_each before (SideInline x name items ∷ written) fs xs are j e at = put_each (item_name w) side before (SideInline x name items) refl (inline_entry x name are.0) (interface_items are.1) (IsInlineEntry interfaces) (λ hit k y own. inl (inline_own are.0 x.side (on x.side before) hit refl are.2 k y own)) (entries_each (before ++ SideInline x name items ∷ []) written fs are.1 are.4) j e (ap (λ l. slice_get l j) (sym (interface_first before x.side (inline_entry x name are.0) xs are.1 refl are.3)) ∙ at)
    where
      inline_own : (place : ℕ) (own : WorldSide) (n : ℕ) → same_side side own ≡ true → n ≡ on own before → slice_get interfaces place ≡ Some (InlineAt (item_name w) own n) → (k : ℕ) (y : ℕ × Address) → slice_get ((place, InlineAt (item_name w) side (on side before)) ∷ []) k ≡ Some y → slice_get interfaces y.0 ≡ Some y.1
      inline_own place own n hit is there zero y at_y =
          let same : side ≡ own = same_side-equal side own hit in
          let here : y ≡ (place, InlineAt (item_name w) side (on side before)) = cc in
          let spot : InlineAt (item_name w) own n ≡ InlineAt (item_name w) side (on side before) = ap (InlineAt (item_name w) own) is ∙ ap (λ (z : WorldSide). InlineAt (item_name w) z (on z before)) (sym same) in
          ap (λ (z : ℕ × Address). slice_get interfaces z.0) here ∙ there ∙ ap Some spot ∙ ap (λ (z : ℕ × Address). Some z.1) (sym here)
      inline_own place own n hit is there (suc k) y at_y = absurd (let f : ⊥ = cc in f)

  -- and each that is written on the side has one
  pub entries_has : (before written : List SideItem) (fs : List Function) (xs : List Entry) → AreSideItems interfaces w.top side written fs (map address (inline_after w before written)) xs → (k : ℕ) (i : Item) (n : ℕ) → slice_get (inline_after w before written) k ≡ Some i → address i ≡ InlineAt (item_name w) side n → (j : ℕ) × (place : ℕ) × (slice_get (interfaces_from (item_name w) side (on side before) (interface_items xs)) j ≡ Some (place, address i)) × (slice_get interfaces place ≡ Some (address i))
  entries_has before [] fs xs are k i n at is = absurd (let f : ⊥ = cc in f)
  entries_has before (SideFunction fn ∷ written) [] xs are k i n at is = absurd are
  entries_has before (SideFunction fn ∷ written) (f ∷ fs) xs are k i n at is =
      let it = entries_has (before ++ SideFunction fn ∷ []) written fs are.0 are.2 k i n at is in
      (it.0, it.1, ap (λ l. slice_get l it.0) (function_past before fn f xs are.0 are.1) ∙ it.2, it.3)
  entries_has before (SideLink link ∷ written) fs xs are k i n at is =
      let it = entries_has (before ++ SideLink link ∷ []) written fs are.1 are.4 k i n at is in
      let there = put_later (item_name w) side before (SideLink link) refl (link_item link are.0) (interface_items are.1) it.0 (it.1, address i) it.2 in
      (there.0, it.1, ap (λ l. slice_get l there.0) (interface_first before link.side (link_item link are.0) xs are.1 refl are.3) ∙ there.1, it.3)
  entries_has before (SideInline x name items ∷ written) fs xs are zero i n at is =
      let place = are.0 in
      let here : InlineAt (item_name w) x.side (on x.side before) ≡ address i = ap (λ (y : Option Item). option_map_or address y (address i)) at in
      let both : InlineAt (item_name w) x.side (on x.side before) ≡ InlineAt (item_name w) side n = here ∙ is in
      let own : x.side ≡ side = cc in
      let hit : same_side side x.side ≡ true = ap (same_side side) own ∙ side_itself side in
      let spot : InlineAt (item_name w) side (on side before) ≡ address i = ap (λ (z : WorldSide). InlineAt (item_name w) z (on z before)) (sym own) ∙ here in
      let there = put_first (item_name w) side before (SideInline x name items) refl (inline_entry x name place) (interface_items are.1) 0 (place, address i) hit (ap (λ (s : Address). Some (place, s)) spot) in
      (there.0, place, ap (λ l. slice_get l there.0) (interface_first before x.side (inline_entry x name place) xs are.1 refl are.3) ∙ there.1, are.2 ∙ ap Some here)
  entries_has before (SideInline x name items ∷ written) fs xs are (suc k) i n at is =
      let it = entries_has (before ++ SideInline x name items ∷ []) written fs are.1 are.4 k i n at is in
      let there = put_later (item_name w) side before (SideInline x name items) refl (inline_entry x name are.0) (interface_items are.1) it.0 (it.1, address i) it.2 in
      (there.0, it.1, ap (λ l. slice_get l there.0) (interface_first before x.side (inline_entry x name are.0) xs are.1 refl are.3) ∙ there.1, it.3)

-- the interfaces of a world, by what it has on its sides
module _ (interfaces : List Address) (item : Item) (w : World) (called : w.name ≡ item_name item) (xs : List ScopeName) (types : Names) (included : List Include) (imported exported : List Entry) (imports : w.imports ≡ settled included (type_imports xs types ++ imported)) (exports : w.exports ≡ settled included exported) (fs : List Function) (on_imports : AreSideItems interfaces item.top Imported (side_items item) fs (map address (inline_items item)) imported) (on_exports : AreSideItems interfaces item.top Exported (side_items item) fs (map address (inline_items item)) exported) where
  abbrev of_side : WorldSide → List Entry → List (ℕ × Address)
  of_side side entries = interfaces_from (item_name item) side 0 (interface_items entries)

  world_listed : world_interfaces w ≡ of_side Imported imported ++ of_side Exported exported
  world_listed =
      let first : interface_items w.imports ≡ interface_items imported = ap interface_items imports ∙ settled_interfaces included (type_imports xs types ++ imported) ∙ filter-append is_interface_item (type_imports xs types) imported ∙ ap (λ (l : List Entry). l ++ interface_items imported) (no_interfaces xs types) in
      let second : interface_items w.exports ≡ interface_items exported = ap interface_items exports ∙ settled_interfaces included exported in
      ap (λ (l : List Entry). interfaces_from w.name Imported 0 l ++ interfaces_from w.name Exported 0 (interface_items w.exports)) first ∙ ap (λ (l : List Entry). interfaces_from w.name Imported 0 (interface_items imported) ++ interfaces_from w.name Exported 0 l) second ∙ ap (λ (n : List ℕ). interfaces_from n Imported 0 (interface_items imported) ++ interfaces_from n Exported 0 (interface_items exported)) called

  pub world_entries : (j : ℕ) (e : ℕ × Address) → slice_get (world_interfaces w) j ≡ Some e → IsInlineEntry interfaces e
  world_entries j e at = elim (at_part (of_side Imported imported) (of_side Exported exported) j e (ap (λ l. slice_get l j) (sym world_listed) ∙ at)) [
    | inl h ↦ entries_each interfaces item Imported [] (side_items item) fs imported on_imports h.0 e h.1
    | inr h ↦ entries_each interfaces item Exported [] (side_items item) fs exported on_exports h.0 e h.1
  ]

  pub world_entry : (k : ℕ) (i : Item) (side : WorldSide) (n : ℕ) → slice_get (inline_items item) k ≡ Some i → address i ≡ InlineAt (item_name item) side n → (j : ℕ) × (place : ℕ) × (slice_get (world_interfaces w) j ≡ Some (place, address i)) × (slice_get interfaces place ≡ Some (address i))
  world_entry k i Imported n at is =
      let it = entries_has interfaces item Imported [] (side_items item) fs imported on_imports k i n at is in
      (it.0, it.1, ap (λ l. slice_get l it.0) world_listed ∙ at_prefix (of_side Imported imported) (of_side Exported exported) it.0 (it.1, address i) it.2, it.3)
  world_entry k i Exported n at is =
      let it = entries_has interfaces item Exported [] (side_items item) fs exported on_exports k i n at is in
      let first = of_side Imported imported in
      (length first + it.0, it.1, ap (λ l. slice_get l (length first + it.0)) world_listed ∙ at_back first (of_side Exported exported) it.0 (it.1, address i) it.2, it.3)
