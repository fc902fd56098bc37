-- Where two orders of names agree on items, these are resolved in one way, and are in a package in one way.
use Rattle.std.proofs.Common.{◌≡◌, ℕ, suc, List, [], ◌∷◌, ◌++◌, Some, refl, ap, ◌∙◌, ◌<◌, Bool, not, length, inl, inr, sym, subst, Contains, true, false, Option, None}
use Rattle.std.proofs.Math.Path.{fun_ext}
use Rattle.wit_arena.proofs.Names.{Address, Item, Key, SideFunction, SideInline, SideItem, SideLink, Turned, address, flat_map, inline_items, interface_turn, interfaces_of, item_turns, map, member_turns, own_interface, own_world, slice_get, turns_of_world, worlds_of, PackageFile, all_items, all_scopes, at_split, contains_at, filter, flat_map_at, flat_map_has, in_order, in_order_at, is_world, item_row, item_rows, kept_at, length-map, one_answer, order_within, own_interfaces, rows_of, scope_names, AllDiffer, AllZip, AreRequired, AstItem, AtForeign, AtResource, Def, Docs, HandleRequires, Id, Interface, IsLegal, Makes, Occurrence, PackageName, Span, Stability, TypeDef, UnresolvedPackage, World, all_occurrences, filter_map, foreign_interface, foreign_interfaces, foreign_world, foreign_worlds, interface_scopes, keys, owner_at, scope, turn_handles, world_scopes, IsOrder}
use Rattle.wit_syntax.specs.Sides.{members}
use Rattle.wit_arena.proofs.Ends.{ends_one}
use Rattle.wit_arena.proofs.Occurrence.{firsts-differ}
use Rattle.wit_arena.proofs.LegalScopes.{scope_differs}
use Rattle.wit_arena.proofs.OneMadeArena.{AreEntries, one_arena}

-- what agrees on what a list holds makes one list of it
pub map_same : {X Y : Type 0} (f g : X → Y) (xs : List X) → ((k : ℕ) (x : X) → slice_get xs k ≡ Some x → f x ≡ g x) → map f xs ≡ map g xs
map_same f g [] same = refl
map_same {X} {Y} f g (x ∷ xs) same = ap (λ (y : Y). y ∷ map f xs) (same 0 x refl) ∙ ap (λ (l : List Y). g x ∷ l) (map_same f g xs (λ k. same (suc k)))

flat_map_same : {X Y : Type 0} (f g : X → List Y) (xs : List X) → ((k : ℕ) (x : X) → slice_get xs k ≡ Some x → f x ≡ g x) → flat_map f xs ≡ flat_map g xs
flat_map_same f g [] same = refl
flat_map_same {X} {Y} f g (x ∷ xs) same = ap (λ (l : List Y). l ++ flat_map f xs) (same 0 x refl) ∙ ap (λ (l : List Y). g x ++ l) (flat_map_same f g xs (λ k. same (suc k)))

module _ (order other : Item → List ℕ) where
  -- the two agree on each of these items
  abbrev pub Agree : List Item → Type 0
  Agree is = (k : ℕ) (i : Item) → slice_get is k ≡ Some i → order i ≡ other i

  same_interface_turns : (is : List Item) → Agree is → map (interface_turn order) is ≡ map (interface_turn other) is
  same_interface_turns is agree = map_same (interface_turn order) (interface_turn other) is (λ k i at. ap (λ (l : List ℕ). interface_turn (λ s. l) i) (agree k i at))

  same_on_side : (s : Address) (x : SideItem) (is : List Item) → Agree is → member_turns order s x is ≡ member_turns other s x is
  same_on_side s (SideFunction fn) is agree = refl
  same_on_side s (SideLink link) is agree = same_interface_turns is agree
  same_on_side s (SideInline x name items) is agree = same_interface_turns is agree

  same_world_turns : (i : Item) → order i ≡ other i → Agree (inline_items i) → turns_of_world order i ≡ turns_of_world other i
  same_world_turns i same inside =
      let on : (Item → List ℕ) → SideItem × List Item → List Turned = λ names m. member_turns names (address i) m.0 m.1 in
      cc (same, flat_map_same (on order) (on other) (members i) (λ k m at. same_on_side (address i) m.0 m.1 (λ j v there. (let it = flat_map_has (λ (n : SideItem × List Item). n.1) (members i) k j m v at there in inside it.0 v it.1))))

  module _ (is : List Item) (interfaces : Agree (interfaces_of is)) (worlds : Agree (worlds_of is)) (inside : (k : ℕ) (i : Item) → slice_get (worlds_of is) k ≡ Some i → Agree (inline_items i)) where
    pub same_turns : item_turns order is ≡ item_turns other is
    same_turns =
        cc (same_interface_turns (interfaces_of is) interfaces, flat_map_same (turns_of_world order) (turns_of_world other) (worlds_of is) (λ k i at. same_world_turns i (worlds k i at) (inside k i at)))

  pub same_interfaces : (id : Key → ℕ) (is : List Item) → Agree is → map (own_interface id order) is ≡ map (own_interface id other) is
  same_interfaces id is agree = map_same (own_interface id order) (own_interface id other) is (λ k i at. ap (λ (l : List ℕ). own_interface id (λ s. l) i) (agree k i at))

  pub same_worlds : (id : Key → ℕ) (ss ws : List Address) (is : List Item) → Agree is → map (own_world id order ss ws) is ≡ map (own_world id other ss ws) is
  same_worlds id ss ws is agree = map_same (own_world id order ss ws) (own_world id other ss ws) is (λ k i at. ap (λ (l : List ℕ). own_world id (λ s. l) ss ws i) (agree k i at))

-- There is one order of the items of files, and one of the names of each, so that two that are stated agree on all items.
abbrev pub AreInOrder : List PackageFile → List Item → Type 0
AreInOrder files is = (places : List ℕ) × IsOrder (item_rows files) places × (is ≡ in_order (all_items files) places)

abbrev pub AreNamesInOrder : List PackageFile → (Item → List ℕ) → Type 0
AreNamesInOrder files order = (i : Item) → Contains (all_scopes files) i → IsOrder (rows_of (scope_names i)) (order i)

module _ (files : List PackageFile) where
  -- the items have one order
  pub one_order_of_items : (is js : List Item) → AreInOrder files is → AreInOrder files js → is ≡ js
  one_order_of_items is js a b = a.2 ∙ ap (in_order (all_items files)) ((one_answer (item_rows files)).one a.0 b.0 a.1 b.1) ∙ sym b.2

  -- an item, and what is written in it, is a scope of the files
  module _ (i : Item) (k : ℕ) (at : slice_get (all_items files) k ≡ Some i) where
    item_among : Contains (all_scopes files) i
    item_among = (let it = flat_map_has (λ (i : Item). i ∷ inline_items i) (all_items files) k 0 i i at refl in contains_at (all_scopes files) it.0 i it.1)

    inline_among : (j : ℕ) (w : Item) → slice_get (inline_items i) j ≡ Some w → Contains (all_scopes files) w
    inline_among j w at_w = (let it = flat_map_has (λ (i : Item). i ∷ inline_items i) (all_items files) k (suc j) i w at at_w in contains_at (all_scopes files) it.0 w it.1)

  -- what is in order is among all items
  ordered_at : (is : List Item) → AreInOrder files is → (k : ℕ) (i : Item) → slice_get is k ≡ Some i → (j : ℕ) × (slice_get (all_items files) j ≡ Some i)
  ordered_at is ordered k i at =
      let it = in_order_at (all_items files) ordered.0 k i within (ap (λ (l : List Item). slice_get l k) (sym ordered.2) ∙ at) in
      (it.0, it.2)
    where
      within : (j p : ℕ) → slice_get ordered.0 j ≡ Some p → p < length (all_items files)
      within j p at_p = subst (λ (n : ℕ). p < n) (length-map (all_items files) item_row) (order_within (item_rows files) ordered.0 ordered.1 j p at_p)

  -- two orders of names agree on all items
  module _ (order other : Item → List ℕ) (a : AreNamesInOrder files order) (b : AreNamesInOrder files other) (is : List Item) (ordered : AreInOrder files is) where
    agree_on : (i : Item) → Contains (all_scopes files) i → order i ≡ other i
    agree_on i among = (one_answer (rows_of (scope_names i))).one (order i) (other i) (a i among) (b i among)

    agree_kept : (test : Item → Bool) (k : ℕ) (i : Item) → slice_get (filter test is) k ≡ Some i → (j : ℕ) × (slice_get (all_items files) j ≡ Some i)
    agree_kept test k i at = (let it = kept_at test is k i at in ordered_at is ordered it.0 i it.1)

    on_interfaces : Agree order other (interfaces_of is)
    on_interfaces k i at = (let it = agree_kept (λ (i : Item). not (is_world i)) k i at in agree_on i (item_among i it.0 it.1))

    pub on_worlds : Agree order other (worlds_of is)
    on_worlds k i at = (let it = agree_kept is_world k i at in agree_on i (item_among i it.0 it.1))

    on_inline : (k : ℕ) (i : Item) → slice_get (worlds_of is) k ≡ Some i → Agree order other (inline_items i)
    on_inline k i at j w at_w = (let it = agree_kept is_world k i at in agree_on w (inline_among i it.0 it.1 j w at_w))

    pub on_own : Agree order other (own_interfaces is)
    on_own k i at = elim (at_split (interfaces_of is) (flat_map inline_items (worlds_of is)) k i at) [
      | inl prefix ↦ on_interfaces k i prefix
      | inr rest_after ↦ (let it = flat_map_at inline_items (worlds_of is) rest_after.0 i rest_after.2 in on_inline it.0 it.1 it.2 it.3.0 i it.3.1)
    ]

  -- so they are resolved in one way
  pub one_turns : (order other : Item → List ℕ) (a : AreNamesInOrder files order) (b : AreNamesInOrder files other) (is js : List Item) → AreInOrder files is → AreInOrder files js → item_turns order is ≡ item_turns other js
  one_turns order other a b is js first second =
      ap (item_turns order) (one_order_of_items is js first second)
      ∙ same_turns order other js (on_interfaces order other a b js second) (on_worlds order other a b js second) (on_inline order other a b js second)

-- What files make is one package.
-- a name in a handle requires one thing
one_requires : (files : List PackageFile) (ks : List Key) → AllDiffer ks → (h : Address × Id) (r q : Option (ℕ × Span)) → HandleRequires files ks h r → HandleRequires files ks h q → r ≡ q
one_requires files ks differ h None None a b = refl
one_requires files ks differ h None (Some q) a b = (let end : AtResource ≡ AtForeign b.0 b.1 = ends_one files h.0 h.1 AtResource (AtForeign b.0 b.1) a b.2 in absurd (let f : ⊥ = cc in f))
one_requires files ks differ h (Some r) None a b = (let end : AtForeign a.0 a.1 ≡ AtResource = ends_one files h.0 h.1 (AtForeign a.0 a.1) AtResource a.2 b in absurd (let f : ⊥ = cc in f))
one_requires files ks differ h (Some (i, span)) (Some (j, other)) a b =
    let end : AtForeign a.0 a.1 ≡ AtForeign b.0 b.1 = ends_one files h.0 h.1 (AtForeign a.0 a.1) (AtForeign b.0 b.1) a.2 b.2 in
    let place : i ≡ j = differ.differ i j (Def b.0 b.1) (cc (end, a.3)) b.3 in
    cc (place, a.4, b.4)

one_zip : {X Y : Type 0} (R : X → Y → Type 0) → ((x : X) (y z : Y) → R x y → R x z → y ≡ z) → (xs : List X) (ys zs : List Y) → AllZip R xs ys → AllZip R xs zs → ys ≡ zs
one_zip R one [] [] [] h k = refl
one_zip R one (x ∷ xs) (y ∷ ys) (z ∷ zs) h k = cc (one x y z h.0 k.0, one_zip R one xs ys zs h.1 k.1)
one_zip R one xs ys zs h k = search

one_required : (files : List PackageFile) (ks : List Key) → AllDiffer ks → (hs : List (Address × Id)) (rs qs : List (ℕ × Span)) → AreRequired files ks hs rs → AreRequired files ks hs qs → rs ≡ qs
one_required files ks differ hs rs qs a b = a.2 ∙ ap (filter_map (λ r. r)) (one_zip (HandleRequires files ks) (one_requires files ks differ) hs a.0 b.0 a.1 b.1) ∙ sym b.2

-- tests that say the same are one
one_test : (s t : Bool) → (s ≡ true → t ≡ true) → (t ≡ true → s ≡ true) → s ≡ t
one_test true false onward back = sym (onward refl)
one_test false true onward back = back refl
one_test _ _ onward back = refl

abbrev with_parts : PackageName → List World → List Interface → List TypeDef → List (PackageName × List (List ℕ × (AstItem × List Stability))) → Docs → Span → List Span → List Span → List (ℕ × Span) → UnresolvedPackage
with_parts name worlds interfaces types deps docs span unknown dep_spans required = record { name = name; worlds = worlds; interfaces = interfaces; types = types; foreign_deps = deps; docs = docs; name_span = span; unknown_type_spans = unknown; foreign_dep_spans = dep_spans; required_resource_types = required }

module _ (files : List PackageFile) (p q : UnresolvedPackage) (legal : IsLegal files) (a : Makes files p) (b : Makes files q) where
  turns_once : item_turns a.order a.items ≡ item_turns b.order b.items
  turns_once = one_turns files a.order b.order a.names_in_order b.names_in_order a.items b.items a.in_order b.in_order

  same_once : a.same ≡ b.same
  same_once = fun_ext (λ x. fun_ext (λ y. one_test (a.same x y) (b.same x y) (λ is. (b.gives x y).1 ((a.gives x y).0 is)) (λ is. (a.gives x y).1 ((b.gives x y).0 is))))

  seen_once : a.seen ≡ b.seen
  seen_once = a.first ∙ rw (same_once, turns_once) (sym b.first)

  id_once : a.id ≡ b.id
  id_once = fun_ext (λ k. a.places k ∙ rw (same_once, seen_once) (sym (b.places k)))

  -- what holds over what is stated of the one holds over what is stated of the other
  as_of : (P : List Item → List Occurrence → (Key → ℕ) → Type 0) → P a.items a.seen a.id → P b.items b.seen b.id
  as_of P h = rw (← (one_order_of_items files a.items b.items a.in_order b.in_order), ← seen_once, ← id_once) h

  differ : AllDiffer (keys b.seen)
  differ = subst (λ (ms : List Occurrence). AllDiffer (keys ms)) (sym b.first) (firsts-differ b.same b.gives (all_occurrences files (item_turns b.order b.items)))

  types_once : p.types ≡ q.types
  types_once =
      one_arena (scope files) (scope_differs files legal) (owner_at (interface_scopes files b.items) (world_scopes files b.items)) b.id b.seen p.types q.types
      (a.count ∙ ap length seen_once) b.count
      (as_of (λ is seen id. AreEntries (scope files) (scope_differs files legal) (owner_at (interface_scopes files is) (world_scopes files is)) id seen p.types) a.types)
      b.types

  interfaces_once : p.interfaces ≡ q.interfaces
  interfaces_once =
      let were = as_of (λ is seen id. p.interfaces ≡ map (foreign_interface files id) (foreign_interfaces files) ++ map (own_interface id a.order) (own_interfaces is)) a.interfaces in
      cc (were, b.interfaces, same_interfaces a.order b.order b.id (own_interfaces b.items) (on_own files a.order b.order a.names_in_order b.names_in_order b.items b.in_order))

  worlds_once : p.worlds ≡ q.worlds
  worlds_once =
      let were = as_of (λ is seen id. p.worlds ≡ map foreign_world (foreign_worlds files) ++ map (own_world id a.order (interface_scopes files is) (world_scopes files is)) (worlds_of is)) a.worlds in
      cc (were, b.worlds, same_worlds a.order b.order b.id (interface_scopes files b.items) (world_scopes files b.items) (worlds_of b.items) (on_worlds files a.order b.order a.names_in_order b.names_in_order b.items b.in_order))

  required_once : p.required_resource_types ≡ q.required_resource_types
  required_once =
      one_required files (keys b.seen) differ (flat_map turn_handles (item_turns b.order b.items)) p.required_resource_types q.required_resource_types
      (subst (λ (ts : List Turned). AreRequired files (keys b.seen) (flat_map turn_handles ts) p.required_resource_types) turns_once (subst (λ (ms : List Occurrence). AreRequired files (keys ms) (flat_map turn_handles (item_turns a.order a.items)) p.required_resource_types) seen_once a.required))
      b.required

  pub one_made : p ≡ q
  one_made =
      let same : with_parts p.name p.worlds p.interfaces p.types p.foreign_deps p.docs p.name_span p.unknown_type_spans p.foreign_dep_spans p.required_resource_types ≡ with_parts q.name q.worlds q.interfaces q.types q.foreign_deps q.docs q.name_span q.unknown_type_spans q.foreign_dep_spans q.required_resource_types = cc (worlds_once, interfaces_once, types_once, required_once, a.name, b.name, a.name_span, b.name_span, a.deps, b.deps, a.docs, b.docs, a.unknown, b.unknown, a.dep_spans, b.dep_spans) in
      same
