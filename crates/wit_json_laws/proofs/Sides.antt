-- The keys of what a world has on a side: names, and places of interfaces without one.
use Rattle.std.proofs.Common.{◌≡◌, ℕ, zero, suc, ◌<◌, Bool, true, false, cond, List, [], ◌∷◌, ◌++◌, length, map, Option, Some, None, inl, inr, refl, sym, ap, ◌∙◌, subst, arith, codes}
use Rattle.wit_arena.proofs.Common.{Address, AllDiffer, Called, Def, Function, Id, Item, Key, Link, ScopeName, SideFunction, SideInline, SideItem, SideLink, TopName, WorldItem, WorldKey, WorldSide, address, at_split, cons_option, differ_none, entries_on, flat_map, flat_map_at, flat_map_has, function_in, function_of, inline_entry, item_called, item_inline, items_on, link_item, link_key, local_id, local_name, map-append, name_called, name_imports, option_map_or, path_scope, role_side, same_side, scope_place, side_entries, slice_get}
use Rattle.wit_model.specs.declared.world.WorldItem.TheVariants as item
use Rattle.wit_model.specs.declared.world.WorldKey.TheVariants as key
use Rattle.wit_json_laws.proofs.Placed.{IsAtName}

abbrev pub Entry : Type 0
Entry = WorldKey × WorldItem

abbrev pub key_of : Entry → WorldKey
key_of e = e.0

-- the name that a key is, or the place
abbrev pub key_names : WorldKey → List (List ℕ)
key_names (key.Name n) = n ∷ []
key_names (key.Interface i) = []

abbrev pub key_places : WorldKey → List ℕ
key_places (key.Name n) = []
key_places (key.Interface i) = i ∷ []

abbrev pub names_among : List Entry → List (List ℕ)
names_among es = flat_map key_names (map key_of es)

abbrev pub places_among : List Entry → List ℕ
places_among es = flat_map key_places (map key_of es)

abbrev pub called_name : Called → List ℕ
called_name c = c.name

-- where elements differ, those after the first do, and it is none of them
differ_tail : {X : Type 0} (x : X) (xs : List X) → AllDiffer (x ∷ xs) → AllDiffer xs
differ_tail x xs d = record { differ = λ i j y at_i at_j. (let same : suc i ≡ suc j = d.differ (suc i) (suc j) y at_i at_j in cc) }

differ_head : {X : Type 0} (x : X) (xs : List X) → AllDiffer (x ∷ xs) → (i : ℕ) → slice_get xs i ≡ Some x → ⊥
differ_head x xs d i at =
    let same : zero ≡ suc i = d.differ zero (suc i) x refl at in
    let f : ⊥ = cc in
    f

differ_prefix : {X : Type 0} (x : X) (xs : List X) → AllDiffer xs → ((i : ℕ) → slice_get xs i ≡ Some x → ⊥) → AllDiffer (x ∷ xs)
differ_prefix {X} x xs d new = record { differ = go }
  where
    go : (i j : ℕ) (y : X) → slice_get (x ∷ xs) i ≡ Some y → slice_get (x ∷ xs) j ≡ Some y → i ≡ j
    go zero zero y a b = refl
    go zero (suc j) y a b = absurd (new j (b ∙ sym a))
    go (suc i) zero y a b = absurd (new i (a ∙ sym b))
    go (suc i) (suc j) y a b = ap suc (d.differ i j y a b)

-- keys differ, where names do and places do
pub keys_differ : (ks : List WorldKey) → AllDiffer (flat_map key_names ks) → AllDiffer (flat_map key_places ks) → AllDiffer ks
keys_differ [] names places = differ_none
keys_differ (key.Name n ∷ ks) names places = differ_prefix (key.Name n) ks (keys_differ ks (differ_tail n (flat_map key_names ks) names) places) (λ i at. (
    let p = flat_map_has key_names ks i 0 (key.Name n) n at refl in
    differ_head n (flat_map key_names ks) names p.0 p.1))
keys_differ (key.Interface t ∷ ks) names places = differ_prefix (key.Interface t) ks (keys_differ ks names (differ_tail t (flat_map key_places ks) places)) (λ i at. (
    let p = flat_map_has key_places ks i 0 (key.Interface t) t at refl in
    differ_head t (flat_map key_places ks) places p.0 p.1))

-- ---- names of types
pub import_names : (id : Key → ℕ) (s : Address) (xs : List ScopeName) → names_among (name_imports id s xs) ≡ map called_name (map name_called xs)
import_names id s [] = refl
import_names id s (x ∷ xs) = ap (λ (l : List (List ℕ)). called_name (name_called x) ∷ l) (import_names id s xs)

pub import_places : (id : Key → ℕ) (s : Address) (xs : List ScopeName) → places_among (name_imports id s xs) ≡ []
import_places id s [] = refl
import_places id s (x ∷ xs) = import_places id s xs

-- ---- one entry more on a side, or none
more_names : (b : Bool) (e : Entry) (x : SideItem) (es : List Entry) (xs : List SideItem) → key_names e.0 ≡ map called_name (item_called x) → names_among es ≡ map called_name (flat_map item_called xs) →
    names_among (cons_option (cond b (Some e) None) es) ≡ map called_name (flat_map item_called (cond b (x ∷ xs) xs))
more_names true e x es xs one rest =
    ap (λ (l : List (List ℕ)). l ++ names_among es) one
    ∙ ap (λ (l : List (List ℕ)). map called_name (item_called x) ++ l) rest
    ∙ sym (map-append called_name (item_called x) (flat_map item_called xs))
more_names false e x es xs one rest = rest

more_places : (of : SideItem → List ℕ) (b : Bool) (e : Entry) (x : SideItem) (es : List Entry) (xs : List SideItem) → key_places e.0 ≡ of x → places_among es ≡ flat_map of xs →
    places_among (cons_option (cond b (Some e) None) es) ≡ flat_map of (cond b (x ∷ xs) xs)
more_places of true e x es xs one rest = ap (λ (l : List ℕ). l ++ places_among es) one ∙ ap (λ (l : List ℕ). of x ++ l) rest
more_places of false e x es xs one rest = rest

-- each is at its name, where it is a function
abbrev pub AreAtNames : List Entry → Type 0
AreAtNames es = (k : ℕ) (e : Entry) → slice_get es k ≡ Some e → IsAtName function_of key.Name e

none_at_names : AreAtNames []
none_at_names k e at = absurd (let f : ⊥ = cc in f)

more_at_names : (b : Bool) (x : Entry) (es : List Entry) → IsAtName function_of key.Name x → AreAtNames es → AreAtNames (cons_option (cond b (Some x) None) es)
more_at_names true x es one rest zero e at = (let same : x ≡ e = cc in subst (λ (y : Entry). IsAtName function_of key.Name y) same one)
more_at_names true x es one rest (suc k) e at = rest k e at
more_at_names false x es one rest k e at = rest k e at

link_names : (name : Option Id) (place : ℕ) → key_names (link_key name place) ≡ map called_name (option_map_or (λ (id : Id). (record { name = id.name.now; span = id.span; sort = codes "interface" } ∷ [])) name [])
link_names None place = refl
link_names (Some id) place = refl

link_places : (name : Option Id) (place : ℕ) → key_places (link_key name place) ≡ option_map_or (λ (id : Id). []) name (place ∷ [])
link_places None place = refl
link_places (Some id) place = refl

module _ (id : Key → ℕ) (s : Address) (ss : List Address) (top : List TopName) where
  abbrev entries : List SideItem → List Item → List (WorldSide × Entry)
  entries written is = side_entries (function_in id s) ss top written is

  -- the place of an interface by its path that has no name of its own
  abbrev pub bare_place : SideItem → List ℕ
  bare_place (SideFunction fn) = []
  bare_place (SideLink link) = option_map_or (λ (id : Id). []) link.name (scope_place ss (path_scope top link.path) ∷ [])
  bare_place (SideInline x name items) = []

  abbrev pub place_of : Link → ℕ
  place_of link = scope_place ss (path_scope top link.path)

  -- no two interfaces by their paths have one place, where both have no name of their own
  abbrev pub AreLinksApart : List SideItem → Type 0
  AreLinksApart xs = (p q : ℕ) (a b : Link) → p < q → slice_get xs p ≡ Some (SideLink a) → slice_get xs q ≡ Some (SideLink b) → a.name ≡ None → b.name ≡ None → place_of a ≡ place_of b → ⊥

  links_later : (x : SideItem) (xs : List SideItem) → AreLinksApart (x ∷ xs) → AreLinksApart xs
  links_later x xs apart p q a b before at_a at_b bare_a bare_b same = apart (suc p) (suc q) a b (omega (arith, before)) at_a at_b bare_a bare_b same

  bare_is : (name : Option Id) (p n j : ℕ) → slice_get (option_map_or (λ (id : Id). []) name (p ∷ [])) j ≡ Some n → (name ≡ None) × (p ≡ n)
  bare_is None p n zero here = (refl, (let same : p ≡ n = cc in same))
  bare_is None p n (suc j) here = absurd (let f : ⊥ = cc in f)
  bare_is (Some i) p n j here = absurd (let f : ⊥ = cc in f)

  other_bare : (link : Link) (xs : List SideItem) → AreLinksApart (SideLink link ∷ xs) → link.name ≡ None → (q : ℕ) (x : SideItem) → slice_get xs q ≡ Some x → (j : ℕ) → slice_get (bare_place x) j ≡ Some (place_of link) → ⊥
  other_bare link xs apart bare q (SideFunction fn) at j here = (let f : ⊥ = cc in f)
  other_bare link xs apart bare q (SideLink b) at j here =
      let it = bare_is b.name (place_of b) (place_of link) j here in
      apart 0 (suc q) link b (omega arith) refl at bare it.0 (sym it.1)
  other_bare link xs apart bare q (SideInline x name items) at j here = (let f : ⊥ = cc in f)

  one_link : (link : Link) (xs : List SideItem) → AreLinksApart (SideLink link ∷ xs) → AllDiffer (flat_map bare_place xs) → (name : Option Id) → link.name ≡ name → AllDiffer (option_map_or (λ (id : Id). []) name (place_of link ∷ []) ++ flat_map bare_place xs)
  one_link link xs apart rest None bare = differ_prefix (place_of link) (flat_map bare_place xs) rest (λ i at. (
      let it = flat_map_at bare_place xs i (place_of link) at in
      let own = it.3 in
      other_bare link xs apart bare it.0 it.1 it.2 own.0 own.1))
  one_link link xs apart rest (Some n) bare = rest

  pub bare_differ : (xs : List SideItem) → AreLinksApart xs → AllDiffer (flat_map bare_place xs)
  bare_differ [] apart = differ_none
  bare_differ (SideFunction fn ∷ xs) apart = bare_differ xs (links_later (SideFunction fn) xs apart)
  bare_differ (SideLink link ∷ xs) apart = one_link link xs apart (bare_differ xs (links_later (SideLink link) xs apart)) link.name refl
  bare_differ (SideInline x name items ∷ xs) apart = bare_differ xs (links_later (SideInline x name items) xs apart)

  module _ (side : WorldSide) where
    pub side_names : (written : List SideItem) (is : List Item) → length is ≡ length (flat_map item_inline written) → names_among (entries_on side (side_entries (function_in id s) ss top written is)) ≡ map called_name (flat_map item_called (items_on side written))
    side_names [] is count = refl
    side_names (SideFunction fn ∷ written) is count =
        more_names (same_side side (role_side fn.role)) (key.Name fn.name, item.Function (function_in id s fn)) (SideFunction fn) (entries_on side (entries written is)) (items_on side written) refl (side_names written is count)
    side_names (SideLink link ∷ written) is count =
        let place = scope_place ss (path_scope top link.path) in
        more_names (same_side side link.side) (link_item link place) (SideLink link) (entries_on side (entries written is)) (items_on side written) (link_names link.name place) (side_names written is count)
    side_names (SideInline x name items ∷ written) [] count = absurd (let f : ⊥ = omega (arith, count) in f)
    side_names (SideInline x name items ∷ written) (i ∷ is) count =
        more_names (same_side side x.side) (inline_entry x name (scope_place ss (address i))) (SideInline x name items) (entries_on side (entries written is)) (items_on side written) refl (side_names written is (omega (arith, count)))

    pub side_places : (written : List SideItem) (is : List Item) → length is ≡ length (flat_map item_inline written) → places_among (entries_on side (side_entries (function_in id s) ss top written is)) ≡ flat_map bare_place (items_on side written)
    side_places [] is count = refl
    side_places (SideFunction fn ∷ written) is count =
        more_places bare_place (same_side side (role_side fn.role)) (key.Name fn.name, item.Function (function_in id s fn)) (SideFunction fn) (entries_on side (entries written is)) (items_on side written) refl (side_places written is count)
    side_places (SideLink link ∷ written) is count =
        let place = scope_place ss (path_scope top link.path) in
        more_places bare_place (same_side side link.side) (link_item link place) (SideLink link) (entries_on side (entries written is)) (items_on side written) (link_places link.name place) (side_places written is count)
    side_places (SideInline x name items ∷ written) [] count = absurd (let f : ⊥ = omega (arith, count) in f)
    side_places (SideInline x name items ∷ written) (i ∷ is) count =
        more_places bare_place (same_side side x.side) (inline_entry x name (scope_place ss (address i))) (SideInline x name items) (entries_on side (entries written is)) (items_on side written) refl (side_places written is (omega (arith, count)))

    pub side_at_names : (written : List SideItem) (is : List Item) → AreAtNames (entries_on side (side_entries (function_in id s) ss top written is))
    side_at_names [] is = none_at_names
    side_at_names (SideFunction fn ∷ written) is =
        more_at_names (same_side side (role_side fn.role)) (key.Name fn.name, item.Function (function_in id s fn)) (entries_on side (entries written is))
        (λ f is. (let same : function_in id s fn ≡ f = cc in ap (λ (g : Function). key.Name g.name) same)) (side_at_names written is)
    side_at_names (SideLink link ∷ written) is =
        more_at_names (same_side side link.side) (link_item link (scope_place ss (path_scope top link.path))) (entries_on side (entries written is)) (λ f is. absurd (let g : ⊥ = cc in g)) (side_at_names written is)
    side_at_names (SideInline x name items ∷ written) [] = side_at_names written []
    side_at_names (SideInline x name items ∷ written) (i ∷ is) =
        more_at_names (same_side side x.side) (inline_entry x name (scope_place ss (address i))) (entries_on side (entries written is)) (λ f is. absurd (let g : ⊥ = cc in g)) (side_at_names written is)

-- the import of a name
abbrev name_import : (Key → ℕ) → Address → ScopeName → Entry
name_import id s x = (key.Name (local_name x), item.Type_ (id (Def s (local_name x))) (local_id x).span)

pub import_at_names : (id : Key → ℕ) (s : Address) (xs : List ScopeName) → AreAtNames (name_imports id s xs)
import_at_names id s [] k e at = absurd (let f : ⊥ = cc in f)
import_at_names id s (x ∷ xs) zero e at = (let same : name_import id s x ≡ e = cc in subst (λ (y : Entry). IsAtName function_of key.Name y) same (λ f is. absurd (let g : ⊥ = cc in g)))
import_at_names id s (x ∷ xs) (suc k) e at = import_at_names id s xs k e at

pub both_at_names : (prefix es : List Entry) → AreAtNames prefix → AreAtNames es → AreAtNames (prefix ++ es)
both_at_names prefix es a b k e at = elim (at_split prefix es k e at) [
  | inl h ↦ a k e h
  | inr h ↦ b h.0 e h.2
]
