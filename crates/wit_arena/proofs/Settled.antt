-- Functions whose setters were put directly after their getters are the same functions.
use Rattle.std.proofs.Common.{◌≡◌, ℕ, zero, suc, Bool, true, List, [], ◌∷◌, map, Option, Some, None, ◌⊎◌, inl, inr, refl, sym, ap, ◌∙◌, false, cond, ◌++◌, subst, ◌+◌, length}
use Rattle.wit_arena.proofs.Names.{Function, FunctionKind, after_one, and_parts, any_found, both, by_name, cases_Bool, cond-false, cond-true, early, filter, flat_map_at, flat_map_has, goes_on_alike, is_getter, is_getter_of, kept_at, kept_has, list_any, map_at, option_map, others, pairs, placed_functions, prefixes, setters_placed, slice_get, slice_get-map, with_setters, Include, Names, ScopeName, WorldItem, WorldKey, filter-append, flat_map, flat_map-append, function_of, interface_items, is_interface_item, kept_none, settled, type_imports, Address, Id, Link, SideFunction, SideInline, SideItem, SideLink, TopName, WorldSide, function_item, import_types, inline_entry, item_function, item_functions, link_item, put_on, role_side, same_side, Exported, FunctionKey, Imported, Interface, SourceFunction, World, append-nil, at_back, at_prefix, at_split, interface_functions, keyed, local_names, world_functions}
use Rattle.wit_arena.proofs.OneKind.{same_some}
use Rattle.wit_functions.proofs.InTurn.{list_any-none}
use Rattle.wit_arena.proofs.MadeOn.{made_on, made_on_has, made_on_pair}
use Rattle.wit_arena.proofs.FreeNames.{made_key, AreStated}
use Rattle.wit_arena.proofs.Visits.{side_has}
use Rattle.wit_arena.proofs.MadeSides.{AreSideItems}
use Rattle.wit_functions.specs.declared.function.FunctionKind.TheVariants as kind
use Rattle.wit_model.specs.declared.world.WorldItem.TheVariants as item

module _ {X : Type 0} (goes : X → X → Bool) where
  -- what comes early is in the list, and what is left too
  early_at : (es : List X) (i : ℕ) (x : X) → slice_get (early goes es) i ≡ Some x → (k : ℕ) × (slice_get es k ≡ Some x)
  early_at [] i x at = absurd (let f : ⊥ = cc in f)
  early_at (e ∷ es) i x at = elim (cases_Bool (list_any (goes e) es)) [
    | inl hit ↦ elim (after_one e (early goes es) i x (sym (ap (λ zs. slice_get zs i) (cond-true (list_any (goes e) es) (e ∷ early goes es) (early goes es) hit)) ∙ at)) [
      | inl here ↦ (0, ap Some here)
      | inr rest ↦ (let it = early_at es rest.0 x rest.1 in (suc it.0, it.1))
    ]
    | inr miss ↦ (let it = early_at es i x (sym (ap (λ zs. slice_get zs i) (cond-false (list_any (goes e) es) (e ∷ early goes es) (early goes es) miss)) ∙ at) in (suc it.0, it.1))
  ]

  others_at : (es : List X) (i : ℕ) (x : X) → slice_get (others goes es) i ≡ Some x → (k : ℕ) × (slice_get es k ≡ Some x)
  others_at [] i x at = absurd (let f : ⊥ = cc in f)
  others_at (e ∷ es) i x at = elim (cases_Bool (list_any (goes e) es)) [
    | inl hit ↦ (let it = others_at es i x (sym (ap (λ zs. slice_get zs i) (cond-true (list_any (goes e) es) (others goes es) (e ∷ others goes es) hit)) ∙ at) in (suc it.0, it.1))
    | inr miss ↦ elim (after_one e (others goes es) i x (sym (ap (λ zs. slice_get zs i) (cond-false (list_any (goes e) es) (others goes es) (e ∷ others goes es) miss)) ∙ at)) [
      | inl here ↦ (0, ap Some here)
      | inr rest ↦ (let it = others_at es rest.0 x rest.1 in (suc it.0, it.1))
    ]
  ]

  -- something comes early, where its getter is one of these
  record IsEarly (es prefix : List X) (x : X) : Type 0 where
    place : ℕ
    at : slice_get prefix place ≡ Some x
    index : ℕ
    getter : X
    there : slice_get es index ≡ Some getter
    is : goes x getter ≡ true

  early_or : (es : List X) (i : ℕ) (x : X) → slice_get es i ≡ Some x → ((k : ℕ) × (slice_get (others goes es) k ≡ Some x)) ⊎ IsEarly es (early goes es) x
  early_or [] i x at = absurd (let f : ⊥ = cc in f)
  early_or (e ∷ es) zero x at = elim (cases_Bool (list_any (goes e) es)) [
    | inl hit ↦ (
        let it = any_found (goes e) es hit in
        inr (record { place = 0; at = ap (λ zs. slice_get zs 0) (cond-true (list_any (goes e) es) (e ∷ early goes es) (early goes es) hit) ∙ at; index = suc it.0; getter = it.1; there = it.2; is = ap (λ z. goes z it.1) (sym (same_some at)) ∙ it.3 }))
    | inr miss ↦ inl (0, ap (λ zs. slice_get zs 0) (cond-false (list_any (goes e) es) (others goes es) (e ∷ others goes es) miss) ∙ at)
  ]
  early_or (e ∷ es) (suc i) x at = elim (cases_Bool (list_any (goes e) es)) [
    | inl hit ↦ elim (early_or es i x at) [
      | inl left ↦ inl (left.0, ap (λ zs. slice_get zs left.0) (cond-true (list_any (goes e) es) (others goes es) (e ∷ others goes es) hit) ∙ left.1)
      | inr h ↦ inr (record { place = suc h.place; at = ap (λ zs. slice_get zs (suc h.place)) (cond-true (list_any (goes e) es) (e ∷ early goes es) (early goes es) hit) ∙ h.at; index = suc h.index; getter = h.getter; there = h.there; is = h.is })
    ]
    | inr miss ↦ elim (early_or es i x at) [
      | inl left ↦ inl (suc left.0, ap (λ zs. slice_get zs (suc left.0)) (cond-false (list_any (goes e) es) (others goes es) (e ∷ others goes es) miss) ∙ left.1)
      | inr h ↦ inr (record { place = h.place; at = ap (λ zs. slice_get zs h.place) (cond-false (list_any (goes e) es) (e ∷ early goes es) (early goes es) miss) ∙ h.at; index = suc h.index; getter = h.getter; there = h.there; is = h.is })
    ]
  ]

  -- what is placed is in the list
  pub placed_at : (es : List X) (i : ℕ) (x : X) → slice_get (setters_placed goes es) i ≡ Some x → (k : ℕ) × (slice_get es k ≡ Some x)
  placed_at es i x at =
      let it = flat_map_at (with_setters goes (early goes es)) (others goes es) i x at in
      elim (after_one it.1 (filter (λ s. goes s it.1) (early goes es)) it.3.0 x it.3.1) [
        | inl here ↦ (let o = others_at es it.0 it.1 it.2 in (o.0, o.1 ∙ ap Some here))
        | inr rest ↦ (let k = kept_at (λ s. goes s it.1) (early goes es) rest.0 x rest.1 in early_at es k.0 x k.1)
      ]

  -- what is in the list is placed, where no getter has a getter
  pub placed_has : ((s g x : X) → goes s g ≡ true → goes g x ≡ true → ⊥) → (es : List X) (i : ℕ) (x : X) → slice_get es i ≡ Some x → (k : ℕ) × (slice_get (setters_placed goes es) k ≡ Some x)
  placed_has apart es i x at = elim (early_or es i x at) [
    | inl left ↦ flat_map_has (with_setters goes (early goes es)) (others goes es) left.0 0 x x left.1 refl
    | inr h ↦ elim (early_or es h.index h.getter h.there) [
      | inl getter ↦ (
          let k = kept_has (λ s. goes s h.getter) (early goes es) h.place x h.is h.at in
          flat_map_has (with_setters goes (early goes es)) (others goes es) getter.0 (suc k.0) h.getter x getter.1 k.1)
      | inr other ↦ absurd (apart x h.getter other.getter h.is other.is)
    ]
  ]

-- a getter is no setter
getter_prefix : (k : FunctionKind) → is_getter k ≡ true → prefixes k ≡ None
getter_prefix kind.Getter h = refl
getter_prefix _ h = cc

stated_alone : (s g x : Option Function) → both is_getter_of s g ≡ true → both is_getter_of g x ≡ true → ⊥
stated_alone (Some s) (Some g) (Some x) one two =
    let getter = (and_parts (is_getter g.kind) (goes_on_alike (prefixes s.kind) s.name g.name) one).0 in
    let goes = (and_parts (is_getter x.kind) (goes_on_alike (prefixes g.kind) g.name x.name) two).1 in
    cc (sym (ap (λ f. goes_on_alike f g.name x.name) (getter_prefix g.kind getter)) ∙ goes)
stated_alone _ g x one two = absurd (let f : ⊥ = cc in f)

-- so no getter has a getter
pub getters_alone : {K V : Type 0} (gives : V → Option Function) (s g x : K × V) → pairs gives s g ≡ true → pairs gives g x ≡ true → ⊥
getters_alone gives s g x one two = stated_alone (gives s.1) (gives g.1) (gives x.1) one two

-- functions, each at its name, and then placed
pub function_placed : (fs : List Function) (k : ℕ) (f : Function) → slice_get fs k ≡ Some f → (place : ℕ) × (slice_get (placed_functions fs) place ≡ Some (f.name, f))
function_placed fs k f at = placed_has (pairs Some) (getters_alone Some) (map by_name fs) k (f.name, f) (slice_get-map by_name fs k ∙ ap (option_map by_name) at)

pub function_from : (fs : List Function) (place : ℕ) (name : List ℕ) (f : Function) → slice_get (placed_functions fs) place ≡ Some (name, f) → (k : ℕ) × (slice_get fs k ≡ Some f) × (f.name ≡ name)
function_from fs place name f at =
    let it = placed_at (pairs Some) (map by_name fs) place (name, f) at in
    let g = map_at by_name fs it.0 (name, f) it.1 in
    (it.0, g.1 ∙ ap (λ (p : List ℕ × Function). Some p.1) g.2, ap (λ (p : List ℕ × Function). p.1.name) (sym g.2) ∙ ap (λ (p : List ℕ × Function). p.0) g.2)

-- A side of a world whose setters were placed has what it had: its types in front, and its interfaces in their order.
abbrev Entry : Type 0
Entry = WorldKey × WorldItem

-- what is on a settled side was there, and what was there is on it
pub settled_at : (is : List Include) (xs : List Entry) (k : ℕ) (x : Entry) → slice_get (settled is xs) k ≡ Some x → (j : ℕ) × (slice_get xs j ≡ Some x)
settled_at [] xs k x at = placed_at (pairs function_of) xs k x at
settled_at (i ∷ is) xs k x at = (k, at)

pub settled_has : (is : List Include) (xs : List Entry) (k : ℕ) (x : Entry) → slice_get xs k ≡ Some x → (j : ℕ) × (slice_get (settled is xs) j ≡ Some x)
settled_has [] xs k x at = placed_has (pairs function_of) (getters_alone function_of) xs k x at
settled_has (i ∷ is) xs k x at = (k, at)

-- what the elements of one list become, those of another that has them become too
pub moved : {X Y : Type 0} (f : X → List Y) (xs zs : List X) → ((k : ℕ) (x : X) → slice_get xs k ≡ Some x → (j : ℕ) × (slice_get zs j ≡ Some x)) → (k : ℕ) (y : Y) → slice_get (flat_map f xs) k ≡ Some y → (j : ℕ) × (slice_get (flat_map f zs) j ≡ Some y)
moved f xs zs among k y at =
    let it = flat_map_at f xs k y at in
    let z = among it.0 it.1 it.2 in
    flat_map_has f zs z.0 it.3.0 it.1 y z.1 it.3.1

none_at : {Y : Type 0} (ys : List Y) → ((k : ℕ) (y : Y) → slice_get ys k ≡ Some y → ⊥) → ys ≡ []
none_at [] none = refl
none_at (y ∷ ys) none = absurd (none 0 y refl)

pub settled_none : {Y : Type 0} (of : Entry → List Y) (is : List Include) (xs : List Entry) → flat_map of xs ≡ [] → flat_map of (settled is xs) ≡ []
settled_none {Y} of is xs none = none_at (flat_map of (settled is xs)) (λ k y at. (
    let it = moved of (settled is xs) xs (settled_at is xs) k y at in
    cc (rw none at it.1)))

-- what is no setter and no getter stays in front
module _ {X : Type 0} (goes : X → X → Bool) where
  -- none of these goes with any
  abbrev AreApart : List X → Type 0
  AreApart prefix = (k : ℕ) (x : X) → slice_get prefix k ≡ Some x → (y : X) → (goes x y ≡ false) × (goes y x ≡ false)

  early_prefix : (prefix ys : List X) → AreApart prefix → early goes (prefix ++ ys) ≡ early goes ys
  early_prefix [] ys apart = refl
  early_prefix (e ∷ prefix) ys apart = rw (list_any-none (goes e) (prefix ++ ys) (λ y. (apart 0 e refl y).0)) (early_prefix prefix ys (λ k. apart (suc k)))

  others_prefix : (prefix ys : List X) → AreApart prefix → others goes (prefix ++ ys) ≡ prefix ++ others goes ys
  others_prefix [] ys apart = refl
  others_prefix (e ∷ prefix) ys apart = rw (list_any-none (goes e) (prefix ++ ys) (λ y. (apart 0 e refl y).0)) (ap (λ (l : List X). e ∷ l) (others_prefix prefix ys (λ k. apart (suc k))))

  each_prefix : (setters prefix : List X) → AreApart prefix → flat_map (with_setters goes setters) prefix ≡ prefix
  each_prefix setters [] apart = refl
  each_prefix setters (e ∷ prefix) apart = rw (kept_none (λ s. goes s e) setters (λ i s at. (apart 0 e refl s).1)) (ap (λ (l : List X). e ∷ l) (each_prefix setters prefix (λ k. apart (suc k))))

  placed_prefix : (prefix ys : List X) → AreApart prefix → setters_placed goes (prefix ++ ys) ≡ prefix ++ setters_placed goes ys
  placed_prefix prefix ys apart = cc (early_prefix prefix ys apart, others_prefix prefix ys apart, flat_map-append (with_setters goes (early goes ys)) prefix (others goes ys), each_prefix (early goes ys) prefix apart)

  -- a test that no setter passes keeps of what is placed what it keeps of the list
  module _ (test : X → Bool) (fails : (s g : X) → goes s g ≡ true → test s ≡ false) where
    others_passed : (es : List X) → filter test (others goes es) ≡ filter test es
    others_passed [] = refl
    others_passed (e ∷ es) = elim (cases_Bool (list_any (goes e) es)) [
      | inl hit ↦ (let g = any_found (goes e) es hit in rw (hit, fails e g.1 g.3) (others_passed es))
      | inr miss ↦ rw miss (ap (λ (l : List X). cond (test e) (e ∷ l) l) (others_passed es))
    ]

    set_passed : (setters es : List X) → filter test (flat_map (with_setters goes setters) es) ≡ filter test es
    set_passed setters [] = refl
    set_passed setters (e ∷ es) =
        let own = filter (λ s. goes s e) setters in
        let rest = flat_map (with_setters goes setters) es in
        let none : filter test own ≡ [] = kept_none test own (λ i s at. (let k = kept_at (λ z. goes z e) setters i s at in fails s e k.2)) in
        ap (λ (l : List X). cond (test e) (e ∷ l) l) (filter-append test own rest ∙ ap (λ (l : List X). l ++ filter test rest) none ∙ set_passed setters es)

goes_none : (s : Option Function) → both is_getter_of s None ≡ false
goes_none None = refl
goes_none (Some s) = refl

-- names of types are no functions
pub types_stated : (xs : List ScopeName) (types : Names) (k : ℕ) (x : Entry) → slice_get (type_imports xs types) k ≡ Some x → function_of x.1 ≡ None
types_stated (n ∷ xs) (t ∷ types) zero x at = subst (λ (e : Entry). function_of e.1 ≡ None) (same_some at) refl
types_stated (n ∷ xs) (t ∷ types) (suc k) x at = types_stated xs types k x at
types_stated xs types k x at = absurd (let f : ⊥ = cc in f)

-- so they stay in front
pub settled_types : (is : List Include) (xs : List ScopeName) (types : Names) (ys : List Entry) → settled is (type_imports xs types ++ ys) ≡ type_imports xs types ++ settled is ys
settled_types [] xs types ys = placed_prefix (pairs function_of) (type_imports xs types) ys (λ k x at y. (
    let none = types_stated xs types k x at in
    (ap (λ o. both is_getter_of o (function_of y.1)) none, ap (λ o. both is_getter_of (function_of y.1) o) none ∙ goes_none (function_of y.1))))
settled_types (i ∷ is) xs types ys = refl

-- no setter is an interface
no_interface : (s g : Entry) → pairs function_of s g ≡ true → is_interface_item s ≡ false
no_interface (key, item.Interface id stability external_id docs span) g goes = absurd (let f : ⊥ = cc in f)
no_interface _ g goes = refl

pub settled_interfaces : (is : List Include) (xs : List Entry) → interface_items (settled is xs) ≡ interface_items xs
settled_interfaces [] xs = set_passed (pairs function_of) is_interface_item no_interface (early (pairs function_of) xs) (others (pairs function_of) xs) ∙ others_passed (pairs function_of) is_interface_item no_interface xs
settled_interfaces (i ∷ is) xs = refl

-- The functions and the types among what is on a side, and the addresses of its interfaces.
-- what an item puts on a side brings there what it has, or nothing
put_nothing : {Y : Type 0} (of : WorldKey × WorldItem → List Y) (side own : WorldSide) (x : WorldKey × WorldItem) (xs : List (WorldKey × WorldItem)) → of x ≡ [] → flat_map of (put_on side own x xs) ≡ flat_map of xs
put_nothing {Y} of side own x xs none = elim (cases_Bool (same_side side own)) [
  | inl hit ↦ ap (flat_map of) (cond-true (same_side side own) (x ∷ xs) xs hit) ∙ ap (λ (l : List Y). l ++ flat_map of xs) none
  | inr miss ↦ ap (flat_map of) (cond-false (same_side side own) (x ∷ xs) xs miss)
]

-- an interface is no function and no type
abbrev named_link : Link → Option Id → Link
named_link link name = record { side = link.side; name = name; path = link.path; docs = link.docs; attributes = link.attributes }

-- the functions among them are those that were made on the side
pub side_functions : (interfaces : List Address) (top : List TopName) (side : WorldSide) (written : List SideItem) (fs : List Function) (ss : List Address) (xs : List (WorldKey × WorldItem)) → AreSideItems interfaces top side written fs ss xs → flat_map item_functions xs ≡ map by_name (made_on side (flat_map item_function written) fs)
side_functions interfaces top side [] fs ss xs are = ap (flat_map item_functions) are
side_functions interfaces top side (SideFunction fn ∷ written) (f ∷ fs) ss xs are =
    let rest = side_functions interfaces top side written fs ss are.0 are.2 in
    elim (cases_Bool (same_side side (role_side fn.role))) [
      | inl hit ↦ ap (flat_map item_functions) (are.1 ∙ cond-true (same_side side (role_side fn.role)) (function_item f ∷ are.0) are.0 hit) ∙ ap (λ (l : List (List ℕ × Function)). by_name f ∷ l) rest ∙ sym (ap (map by_name) (cond-true (same_side side (role_side fn.role)) (f ∷ made_on side (flat_map item_function written) fs) (made_on side (flat_map item_function written) fs) hit))
      | inr miss ↦ ap (flat_map item_functions) (are.1 ∙ cond-false (same_side side (role_side fn.role)) (function_item f ∷ are.0) are.0 miss) ∙ rest ∙ sym (ap (map by_name) (cond-false (same_side side (role_side fn.role)) (f ∷ made_on side (flat_map item_function written) fs) (made_on side (flat_map item_function written) fs) miss))
    ]
side_functions interfaces top side (SideLink link ∷ written) fs ss xs are =
    ap (flat_map item_functions) are.3 ∙ put_nothing item_functions side link.side (link_item link are.0) are.1 (elim link.name as (λ name. item_functions (link_item (named_link link name) are.0) ≡ []) [ None ↦ refl | Some id ↦ refl ]) ∙ side_functions interfaces top side written fs ss are.1 are.4
side_functions interfaces top side (SideInline x name items ∷ written) fs (s ∷ ss) xs are =
    ap (flat_map item_functions) are.3 ∙ put_nothing item_functions side x.side (inline_entry x name are.0) are.1 refl ∙ side_functions interfaces top side written fs ss are.1 are.4
side_functions interfaces top side _ fs ss xs are = absurd are

-- The types and the functions among what a world imports and exports, and what owners state of the functions that were made of theirs.
-- what is in one list is in the other
abbrev AreAmong : List (WorldKey × WorldItem) → List (WorldKey × WorldItem) → Type 0
AreAmong xs ys = (k : ℕ) (x : (WorldKey × WorldItem)) → slice_get xs k ≡ Some x → (j : ℕ) × (slice_get ys j ≡ Some x)

-- the types among imports that names of a scope are
world_types_of : (xs : List ScopeName) (types : Names) → map (λ p. p.0) types ≡ local_names xs → flat_map import_types (type_imports xs types) ≡ types
world_types_of (x ∷ xs) ((name, id) ∷ types) listed = cc (world_types_of xs types (cc))
world_types_of [] [] listed = refl
world_types_of xs types listed = cc

-- none of these is a function
no_functions_of : (xs : List ScopeName) (types : Names) → flat_map item_functions (type_imports xs types) ≡ []
no_functions_of (x ∷ xs) ((name, id) ∷ types) = no_functions_of xs types
no_functions_of xs types = refl

-- the types among imports, where nothing after them is one
pub world_types-all : (xs : List ScopeName) (types : Names) (rest_after : List (WorldKey × WorldItem)) → map (λ p. p.0) types ≡ local_names xs → flat_map import_types rest_after ≡ [] → flat_map import_types (type_imports xs types ++ rest_after) ≡ types
world_types-all xs types rest_after listed none = flat_map-append import_types (type_imports xs types) rest_after ∙ ap (λ (l : Names). l ++ flat_map import_types rest_after) (world_types_of xs types listed) ∙ ap (λ (l : Names). types ++ l) none ∙ append-nil types

-- the functions among imports and exports, where these were made of the written ones
abbrev both_sides : List SourceFunction → List Function → List (FunctionKey × Function)
both_sides fns fs = map (keyed Imported) (map by_name (made_on Imported fns fs)) ++ map (keyed Exported) (map by_name (made_on Exported fns fs))

import_functions-all : (xs : List ScopeName) (types : Names) (rest_after : List (WorldKey × WorldItem)) → flat_map item_functions (type_imports xs types ++ rest_after) ≡ flat_map item_functions rest_after
import_functions-all xs types rest_after = flat_map-append item_functions (type_imports xs types) rest_after ∙ ap (λ (l : List (List ℕ × Function)). l ++ flat_map item_functions rest_after) (no_functions_of xs types)

-- those of a side under their names
keyed_has : (side : WorldSide) (fns : List SourceFunction) (fs : List Function) (k : ℕ) (fn : SourceFunction) (f : Function) → slice_get fns k ≡ Some fn → slice_get fs k ≡ Some f → role_side fn.role ≡ side → (place : ℕ) × (slice_get (map (keyed side) (map by_name (made_on side fns fs))) place ≡ Some (made_key fn f, f))
keyed_has side fns fs k fn f at there is =
    let it = made_on_has side fns fs k fn f at there is in
    let named = slice_get-map by_name (made_on side fns fs) it.0 ∙ ap (option_map by_name) it.1 in
    (it.0, slice_get-map (keyed side) (map by_name (made_on side fns fs)) it.0 ∙ ap (option_map (keyed side)) named ∙ ap (λ (s : WorldSide). Some ((s, f.name), f)) (sym is))

-- what a function goes by, where it is on a side under its name
goes_by : (side : WorldSide) (x fn : SourceFunction) (name : List ℕ) (g f : Function) (key : FunctionKey) → Some x ≡ Some fn → role_side fn.role ≡ side → g.name ≡ name → keyed side (name, g) ≡ (key, f) → made_key x f ≡ key
goes_by side x fn name g f key both is named whole = cc (ap (λ (y : FunctionKey × Function). y.1.name) whole, ap (λ (y : FunctionKey × Function). y.0) whole)

side_from : (side : WorldSide) (fns : List SourceFunction) (fs : List Function) (place : ℕ) (key : FunctionKey) (f : Function) → slice_get (map (keyed side) (map by_name (made_on side fns fs))) place ≡ Some (key, f) → (k : ℕ) × (slice_get fs k ≡ Some f) × ((fn : SourceFunction) → slice_get fns k ≡ Some fn → made_key fn f ≡ key)
side_from side fns fs place key f at =
    let named = map_at (keyed side) (map by_name (made_on side fns fs)) place (key, f) at in
    let g = map_at by_name (made_on side fns fs) place named.0 named.1 in
    let it = made_on_pair side fns fs place g.0 g.1 in
    let whole : keyed side (by_name g.0) ≡ (key, f) = ap (keyed side) g.2 ∙ named.2 in
    (it.0, it.3 ∙ ap (λ (x : FunctionKey × Function). Some x.1) whole, λ fn here. goes_by side fn it.1 g.0.name g.0 f key (sym here ∙ it.2) it.4 refl whole)

stated_has : (side : WorldSide) (fns : List SourceFunction) (fs : List Function) (k : ℕ) (fn : SourceFunction) (f : Function) → slice_get fns k ≡ Some fn → slice_get fs k ≡ Some f → role_side fn.role ≡ side → (place : ℕ) × (slice_get (both_sides fns fs) place ≡ Some (made_key fn f, f))
stated_has side fns fs k fn f at there is =
    let it = keyed_has side fns fs k fn f at there is in
    side_has [] (λ (s : WorldSide). map (keyed s) (map by_name (made_on s fns fs))) side it.0 (made_key fn f, f) it.1

-- those of both sides are stated
stated_on_sides : (fns : List SourceFunction) (fs : List Function) → AreStated fns fs (both_sides fns fs)
stated_on_sides fns fs = record {
  has = λ k fn f at there. stated_has (role_side fn.role) fns fs k fn f at there refl;
  from = λ place key f at. elim (at_split (map (keyed Imported) (map by_name (made_on Imported fns fs))) (map (keyed Exported) (map by_name (made_on Exported fns fs))) place (key, f) at) [
    | inl h ↦ side_from Imported fns fs place key f h
    | inr h ↦ side_from Exported fns fs h.0 key f h.2
  ];
}

-- what is stated may be in another order
stated_moved : (fns : List SourceFunction) (fs : List Function) (xs ys : List (FunctionKey × Function)) → ((k : ℕ) (x : FunctionKey × Function) → slice_get xs k ≡ Some x → (j : ℕ) × (slice_get ys j ≡ Some x)) → ((k : ℕ) (x : FunctionKey × Function) → slice_get ys k ≡ Some x → (j : ℕ) × (slice_get xs j ≡ Some x)) → AreStated fns fs xs → AreStated fns fs ys
stated_moved fns fs xs ys there back h = record {
  has = λ k fn f at made. (let it = h.has k fn f at made in there it.0 (made_key fn f, f) it.1);
  from = λ place key f at. (let it = back place (key, f) at in h.from it.0 key f it.1);
}

abbrev of_side : WorldSide → List (WorldKey × WorldItem) → List (FunctionKey × Function)
of_side side xs = map (keyed side) (flat_map item_functions xs)

side_moved : (side : WorldSide) (xs ys : List (WorldKey × WorldItem)) → AreAmong xs ys → (k : ℕ) (x : FunctionKey × Function) → slice_get (of_side side xs) k ≡ Some x → (j : ℕ) × (slice_get (of_side side ys) j ≡ Some x)
side_moved side xs ys among k x at =
    let f = map_at (keyed side) (flat_map item_functions xs) k x at in
    let it = moved item_functions xs ys among k f.0 f.1 in
    (it.0, slice_get-map (keyed side) (flat_map item_functions ys) it.0 ∙ ap (option_map (keyed side)) it.1 ∙ ap Some f.2)

sides_moved : (xs xs' ys ys' : List (WorldKey × WorldItem)) → AreAmong xs xs' → AreAmong ys ys' → (k : ℕ) (x : FunctionKey × Function) → slice_get (of_side Imported xs ++ of_side Exported ys) k ≡ Some x → (j : ℕ) × (slice_get (of_side Imported xs' ++ of_side Exported ys') j ≡ Some x)
sides_moved xs xs' ys ys' first second k x at = elim (at_split (of_side Imported xs) (of_side Exported ys) k x at) [
  | inl h ↦ (let it = side_moved Imported xs xs' first k x h in (it.0, at_prefix (of_side Imported xs') (of_side Exported ys') it.0 x it.1))
  | inr h ↦ (let it = side_moved Exported ys ys' second h.0 x h.2 in (length (of_side Imported xs') + it.0, at_back (of_side Imported xs') (of_side Exported ys') it.0 x it.1))
]

-- the functions among imports and exports, whose setters were placed
pub stated_settled : (interfaces : List Address) (top : List TopName) (xs : List ScopeName) (types : Names) (items : List SideItem) (fs : List Function) (inside : List Address) (is : List Include) (imports exports : List (WorldKey × WorldItem)) (w : World) → w.imports ≡ settled is (type_imports xs types ++ imports) → w.exports ≡ settled is exports → AreSideItems interfaces top Imported items fs inside imports → AreSideItems interfaces top Exported items fs inside exports → AreStated (flat_map item_function items) fs (world_functions w)
stated_settled interfaces top xs types items fs inside is imports exports w on_imports on_exports are_imported are_exported =
    let fns = flat_map item_function items in
    let whole = type_imports xs types ++ imports in
    let first : of_side Imported whole ≡ map (keyed Imported) (map by_name (made_on Imported fns fs)) = ap (map (keyed Imported)) (import_functions-all xs types imports ∙ side_functions interfaces top Imported items fs inside imports are_imported) in
    let second : of_side Exported exports ≡ map (keyed Exported) (map by_name (made_on Exported fns fs)) = ap (map (keyed Exported)) (side_functions interfaces top Exported items fs inside exports are_exported) in
    let all : of_side Imported whole ++ of_side Exported exports ≡ both_sides fns fs = ap (λ (l : List (FunctionKey × Function)). l ++ of_side Exported exports) first ∙ ap (λ (l : List (FunctionKey × Function)). map (keyed Imported) (map by_name (made_on Imported fns fs)) ++ l) second in
    let stated = subst (AreStated fns fs) (sym all) (stated_on_sides fns fs) in
    let there = sides_moved whole (settled is whole) exports (settled is exports) (settled_has is whole) (settled_has is exports) in
    let back = sides_moved (settled is whole) whole (settled is exports) exports (settled_at is whole) (settled_at is exports) in
    let now = stated_moved fns fs (of_side Imported whole ++ of_side Exported exports) (of_side Imported (settled is whole) ++ of_side Exported (settled is exports)) there back stated in
    subst (λ (l : List (WorldKey × WorldItem)). AreStated fns fs (of_side Imported l ++ of_side Exported w.exports)) (sym on_imports) (subst (λ (l : List (WorldKey × WorldItem)). AreStated fns fs (of_side Imported (settled is whole) ++ of_side Exported l)) (sym on_exports) now)

-- functions whose setters were placed, where all of them are imported
pub stated_placed : (fns : List SourceFunction) (fs : List Function) (i : Interface) → ((k : ℕ) (fn : SourceFunction) → slice_get fns k ≡ Some fn → role_side fn.role ≡ Imported) → i.functions ≡ placed_functions fs → AreStated fns fs (interface_functions i)
stated_placed fns fs i imported are = subst (λ (l : List (List ℕ × Function)). AreStated fns fs (map (keyed Imported) l)) (sym are) (record {
  has = λ k fn f at there. (
      let it = function_placed fs k f there in
      (it.0, slice_get-map (keyed Imported) (placed_functions fs) it.0 ∙ ap (option_map (keyed Imported)) it.1 ∙ ap (λ (s : WorldSide). Some ((s, f.name), f)) (sym (imported k fn at))));
  from = λ place key f at. (
      let named = map_at (keyed Imported) (placed_functions fs) place (key, f) at in
      let it = function_from fs place named.0.0 named.0.1 named.1 in
      (it.0, it.1 ∙ ap (λ (x : FunctionKey × Function). Some x.1) named.2, λ fn here. goes_by Imported fn fn named.0.0 named.0.1 f key refl (imported it.0 fn here) it.2 named.2));
})
