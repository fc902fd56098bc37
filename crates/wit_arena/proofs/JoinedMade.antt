-- What is resolved in turn of items that are the same but for the names at the top of their files.
use Rattle.std.proofs.Common.{◌≡◌, ℕ, List, [], ◌∷◌, ◌++◌, Bool, not, Option, Some, None, inl, inr, refl, sym, ap, ◌∙◌, subst, subst₂, take}
use Rattle.wit_arena.proofs.Names.{Address, AreTwins, Declared, Item, ScopeName, SideFunction, SideInline, SideItem, SideLink, SourceFunction, Turned, about, address, after_one, bare, cons_option, declared_of, entries_walked, filter, filter-map, flat_map, functions, in_order, in_turn, inline_items, inline_twins, interface_turn, interfaces_of, item_turns, kept_at, map, map-append, map-flat_map, names_in_turn, names_of_bare, no_names, option_map, own_interfaces, scope_names, side_items, slice_get, slice_get-map, turns_of_world, turns_on_sides, turns_walked, twins_become, twins_make, walked_turns, world_entries, worlds_of, AreAlike, Collects, ForeignUse, IsJoined, IsOrder, Occurrence, PackageFile, alike_back, all_items, all_occurrences, all_scopes, foreign_use_occurrence, foreign_uses, foreign_uses_alike, items_twins, joined_alike, names_same, parts, retop, rows_of, turn_occurrences, twin_among, twins_back, twins_inside, AreRequired, Contains, Def, ForeignVisit, Function, Include, Interface, IsEntryOf, Key, Makes, Span, Stability, TopName, TypeDef, TypeOwner, UnresolvedPackage, Whole, WorldItem, WorldKey, WorldSide, about_name, declared_metadata, entry, first_docs, firsts, foreign_interface, foreign_interfaces, foreign_world, foreign_worlds, function_in, include_in, includes, interface, interface_scopes, keys, map_by, name_places, own_interface, own_world, owner_at, package_of, placed, role_side, scope, scope_alike, side_entries, turn_handles, visited, world_scopes, metadata, no_docs}
use Rattle.wit_syntax.proofs.JoinedTargets.{AreThemselves, included_same, used_same}
use Rattle.wit_syntax.proofs.JoinedOrders.{order_onward}
use Rattle.wit_arena.specs.SplitOccurrences.{AreFirstOccurrences, HaveSameOccurrences, HaveSamePackages}
use Rattle.wit_arena.proofs.Occurrence.{collects_one}
use Rattle.wit_arena.proofs.OneMade.{one_turns, AreInOrder, AreNamesInOrder}
use Rattle.wit_tree.specs.declared.tree.PackageName.{PackageName as Header}
use Rattle.wit_syntax.proofs.JoinedHeaders.{HaveSameHeaders, headers_back, joined_headers}
use Rattle.wit_arena.proofs.JoinedOthers.{foreign_interfaces_same, foreign_worlds_same, others_onward, required_onward}
use Rattle.wit_model.specs.declared.world.WorldItem.TheVariants as item
use Rattle.wit_model.specs.declared.world.WorldKey.TheVariants as key

-- what is in an order is in the list
abbrev OccursIn : List Item → Item → Type 0
OccursIn is i = (p : ℕ) × (slice_get is p ≡ Some i)

first_among : (is : List Item) (p : ℕ) (rest : List Item) (k : ℕ) (i : Item) (o : Option Item) → slice_get is p ≡ o → ((j : ℕ) → slice_get rest j ≡ Some i → OccursIn is i) → slice_get (cons_option o rest) k ≡ Some i → OccursIn is i
first_among is p rest k i None none later at = later k at
first_among is p rest k i (Some j) some later at = elim (after_one j rest k i at) [
  | inl here ↦ (p, some ∙ ap Some here)
  | inr there ↦ later there.0 there.1
]

in_order_among : (is : List Item) (places : List ℕ) (k : ℕ) (i : Item) → slice_get (in_order is places) k ≡ Some i → OccursIn is i
in_order_among is [] k i at = absurd (let f : ⊥ = cc in f)
in_order_among is (p ∷ places) k i at = first_among is p (in_order is places) k i (slice_get is p) refl (λ j. in_order_among is places j i) at

map-cons_option : {X Y : Type 0} (f : X → Y) (o : Option X) (xs : List X) → map f (cons_option o xs) ≡ cons_option (option_map f o) (map f xs)
map-cons_option f None xs = refl
map-cons_option f (Some x) xs = refl

pub map-in_order : {X Y : Type 0} (f : X → Y) (xs : List X) (places : List ℕ) → map f (in_order xs places) ≡ in_order (map f xs) places
map-in_order f xs [] = refl
map-in_order {X} {Y} f xs (p ∷ places) = map-cons_option f (slice_get xs p) (in_order xs places) ∙ ap (λ (o : Option Y). cons_option o (map f (in_order xs places))) (sym (slice_get-map f xs p)) ∙ ap (cons_option (slice_get (map f xs) p)) (map-in_order f xs places)

module _ (is js : List Item) (t : AreTwins is js) where
  -- twins in an order are twins, and so are those that a test of what they declare keeps
  pub twins_in_order : (places : List ℕ) → AreTwins (in_order is places) (in_order js places)
  twins_in_order places = record {
    left = λ k i at. (let it = in_order_among is places k i at in t.left it.0 i it.1);
    right = λ k i at. (let it = in_order_among js places k i at in t.right it.0 i it.1);
    same = map-in_order declared_of is places ∙ ap (λ (ds : List Declared). in_order ds places) t.same ∙ sym (map-in_order declared_of js places);
  }

  twins_kept : (test : Declared → Bool) → AreTwins (filter (λ (i : Item). test i.declared) is) (filter (λ (i : Item). test i.declared) js)
  twins_kept test = record {
    left = λ k i at. (let it = kept_at (λ (v : Item). test v.declared) is k i at in t.left it.0 i it.1);
    right = λ k i at. (let it = kept_at (λ (v : Item). test v.declared) js k i at in t.right it.0 i it.1);
    same = filter-map test declared_of is ∙ ap (filter test) t.same ∙ sym (filter-map test declared_of js);
  }

  pub twin_interfaces : AreTwins (interfaces_of is) (interfaces_of js)
  twin_interfaces = twins_kept (λ (d : Declared). not (about d).is_world)

  pub twin_worlds : AreTwins (worlds_of is) (worlds_of js)
  twin_worlds = twins_kept (λ (d : Declared). (about d).is_world)

abbrev turn : Address → List SourceFunction → List ScopeName → Turned
turn s fns xs = record { address = s; names = xs; functions = fns }

-- what is made of each interface of twins is the same where it is given by what it declares
module _ {Y : Type 0} (f : Item → Y) (by_declared : (i : Item) → AreThemselves i.top → f i ≡ f (bare i.declared)) where
  pub inline_made : (i : Item) → AreThemselves i.top → map f (inline_items i) ≡ map f (inline_items (bare i.declared))
  inline_made i own = twins_make f by_declared (inline_items i) (inline_items (bare i.declared)) (inline_twins i (bare i.declared) own no_names refl)

  own_by : (is : List Item) → map f (own_interfaces is) ≡ map f (interfaces_of is) ++ flat_map (λ (w : Item). map f (inline_items w)) (worlds_of is)
  own_by is = map-append f (interfaces_of is) (flat_map inline_items (worlds_of is)) ∙ ap (λ l. map f (interfaces_of is) ++ l) (map-flat_map f inline_items (worlds_of is))

  pub own_made : (is js : List Item) → AreTwins is js → map f (own_interfaces is) ≡ map f (own_interfaces js)
  own_made is js t =
      let first = twins_make f by_declared (interfaces_of is) (interfaces_of js) (twin_interfaces is js t) in
      let rest = twins_become (λ (w : Item). map f (inline_items w)) inline_made (worlds_of is) (worlds_of js) (twin_worlds is js t) in
      cc (own_by is, own_by js, first, rest)

-- what declares the same has one order
abbrev pub ByDeclared : (Item → List ℕ) → Type 0
ByDeclared order = (i j : Item) → i.declared ≡ j.declared → order i ≡ order j

-- what is resolved in turn
module _ (order : Item → List ℕ) (one : ByDeclared order) where
  pub names_stated : (i : Item) → AreThemselves i.top → names_in_turn order i ≡ names_in_turn order (bare i.declared)
  names_stated i own = ap (λ xs. in_turn xs (order i)) (names_of_bare i own) ∙ ap (in_turn (scope_names (bare i.declared))) (one i (bare i.declared) refl)

  interface_stated : (i : Item) → AreThemselves i.top → interface_turn order i ≡ interface_turn order (bare i.declared)
  interface_stated i own = ap (turn (address i) (functions i)) (names_stated i own)

  sides_same : (s : Address) (xs : List SideItem) (is js : List Item) → map (interface_turn order) is ≡ map (interface_turn order) js → turns_on_sides order s xs is ≡ turns_on_sides order s xs js
  sides_same s [] is js same = refl
  sides_same s (SideFunction fn ∷ xs) is js same = ap (λ l. turn s (fn ∷ []) [] ∷ l) (sides_same s xs is js same)
  sides_same s (SideLink link ∷ xs) is js same = sides_same s xs is js same
  sides_same s (SideInline x name items ∷ xs) [] [] same = refl
  sides_same s (SideInline x name items ∷ xs) (i ∷ is) (j ∷ js) same =
      let rest : map (interface_turn order) is ≡ map (interface_turn order) js = cc in
      cc (sides_same s xs is js rest)
  sides_same s xs is js same = absurd (let f : ⊥ = cc in f)

  world_stated : (i : Item) → AreThemselves i.top → turns_of_world order i ≡ turns_of_world order (bare i.declared)
  world_stated i own =
      let b = bare i.declared in
      let walked : walked_turns order i ≡ walked_turns order b = cc (names_stated i own, sides_same (address i) (side_items i) (inline_items i) (inline_items b) (inline_made (interface_turn order) interface_stated i own)) in
      turns_walked i order ∙ walked ∙ sym (turns_walked b order)

  pub turns_same : (is js : List Item) → AreTwins is js → item_turns order is ≡ item_turns order js
  turns_same is js t = cc (twins_make (interface_turn order) interface_stated (interfaces_of is) (interfaces_of js) (twin_interfaces is js t), twins_become (turns_of_world order) world_stated (worlds_of is) (worlds_of js) (twin_worlds is js t))

-- Files that declare the same have the same first occurrences.
-- the order of each item, by what it declares
abbrev by : {files : List PackageFile} {seen : List Occurrence} → AreFirstOccurrences files seen → Item → List ℕ
by h i = h.order i.declared

-- the orders of the one are orders of the others
module _ (files others : List PackageFile) (a : AreAlike files others) where
  pub names_onward : (order : Item → List ℕ) → ByDeclared order → AreNamesInOrder files order → AreNamesInOrder others order
  names_onward order one names i among =
      let it = twin_among (all_scopes others) (all_scopes files) (twins_inside (all_items others) (all_items files) (twins_back (all_items files) (all_items others) (items_twins files others a))) i among in
      subst₂ (λ xs. IsOrder (rows_of xs)) (sym (names_same i.top it.top it.own it.other (parts i))) (one (retop it.top i) i refl) (names (retop it.top i) it.among)

  module _ (is : List Item) (ordered : AreInOrder files is) where
    abbrev there : List Item
    there = in_order (all_items others) ordered.0

    pub items_onward : AreInOrder others there
    items_onward = (ordered.0, order_onward files others a ordered.0 ordered.1, refl)

    pub twins_onward : AreTwins is there
    twins_onward = subst (λ l. AreTwins l there) (sym ordered.2) (twins_in_order (all_items files) (all_items others) (items_twins files others a) ordered.0)

    pub occurrences_onward : (order : Item → List ℕ) → ByDeclared order → all_occurrences files (item_turns order is) ≡ all_occurrences others (item_turns order there)
    occurrences_onward order one =
        ap (λ (ts : List ForeignUse). map foreign_use_occurrence ts ++ flat_map turn_occurrences (item_turns order is)) (foreign_uses_alike files others a)
        ∙ ap (λ (ts : List Turned). map foreign_use_occurrence (foreign_uses others) ++ flat_map turn_occurrences ts) (turns_same order one is there twins_onward)

  first_onward : (seen : List Occurrence) → AreFirstOccurrences files seen → AreFirstOccurrences others seen
  first_onward seen h = record {
    items = there h.items h.in_order;
    in_order = items_onward h.items h.in_order;
    order = h.order;
    names_in_order = names_onward (by h) (λ i j. ap h.order) h.names_in_order;
    first = subst (λ (ms : List Occurrence). Collects [] ms seen) (occurrences_onward h.items h.in_order (by h) (λ i j. ap h.order)) h.first;
  }

-- and there is one list of what is first seen
first_once : (files : List PackageFile) (seen more : List Occurrence) → AreFirstOccurrences files seen → AreFirstOccurrences files more → seen ≡ more
first_once files seen more a b =
    collects_one (all_occurrences files (item_turns (by b) b.items)) [] seen more
    (subst (λ (ts : List Turned). Collects [] (all_occurrences files ts) seen) (one_turns files (by a) (by b) a.names_in_order b.names_in_order a.items b.items a.in_order b.in_order) a.first) b.first

pub joined_occurrences : (files : List PackageFile) (one : PackageFile) → IsJoined files one → HaveSameOccurrences files (one ∷ [])
joined_occurrences files one j =
    let a = joined_alike files one j in
    let onward = first_onward files (one ∷ []) a in
    record {
      both = λ seen. (onward seen, first_onward (one ∷ []) files (alike_back files (one ∷ []) a) seen);
      one = λ seen more h k. first_once (one ∷ []) seen more (onward seen h) k;
    }

-- A package that files make is one that the file makes which they come to.
abbrev Sided : Type 0
Sided = WorldSide × (WorldKey × WorldItem)

-- what is on the sides of a world
module _ (function : SourceFunction → Function) (ss : List Address) (a b : List TopName) (own : AreThemselves a) (other : AreThemselves b) where
  entries_same : (xs : List SideItem) (is js : List Item) → map address is ≡ map address js → side_entries function ss a xs is ≡ side_entries function ss b xs js
  entries_same [] is js same = refl
  entries_same (SideFunction fn ∷ xs) is js same = ap (λ (l : List Sided). (role_side fn.role, (key.Name fn.name, item.Function (function fn))) ∷ l) (entries_same xs is js same)
  entries_same (SideLink link ∷ xs) is js same =
      cc (used_same a b own other link.path, entries_same xs is js same)
  entries_same (SideInline x name items ∷ xs) [] [] same = entries_same xs [] [] refl
  entries_same (SideInline x name items ∷ xs) (i ∷ is) (j ∷ js) same =
      let rest : map address is ≡ map address js = cc in
      cc (entries_same xs is js rest)
  entries_same xs is js same = absurd (let f : ⊥ = cc in f)

-- interfaces and worlds
module _ (id : Key → ℕ) (order : Item → List ℕ) (one : ByDeclared order) where
  abbrev interface_by : Item → List ScopeName → Interface
  interface_by i xs = interface (about i.declared).called (name_places id (address i) xs) (placed Some (map (λ fn. (fn.name, function_in id (address i) fn)) (functions i))) (declared_metadata i.declared) (about i.declared).id.span

  interface_again : (i : Item) → AreThemselves i.top → own_interface id order i ≡ own_interface id order (bare i.declared)
  interface_again i own = ap (interface_by i) (names_stated order one i own)

  world_again : (ss ws : List Address) (i : Item) → AreThemselves i.top → own_world id order ss ws i ≡ own_world id order ss ws (bare i.declared)
  world_again ss ws i own =
      let walked = entries_same (function_in id (address i)) ss i.top [] own no_names (side_items i) (inline_items i) (inline_items (bare i.declared)) (inline_made address (λ j it. refl) i own) in
      let entries : world_entries id ss i ≡ world_entries id ss (bare i.declared) = entries_walked i id ss ∙ walked ∙ sym (entries_walked (bare i.declared) id ss) in
      let included = map_by (include_in ws i.top) (include_in ws []) (λ (n : Include). cc (included_same i.top [] own no_names n.from)) (includes i) in
      cc (names_stated order one i own, entries, included)

-- entries, where scopes have the same names and owners
entry_again : (names others : Address → List ScopeName) (owner more : Address → TypeOwner) → ((s : Address) → names s ≡ others s) → ((s : Address) → owner s ≡ more s) → (id : Key → ℕ) (es : List TypeDef) (k : Key) (span : Span) (given : Stability) (e : TypeDef) → IsEntryOf names owner id es k span given e → IsEntryOf others more id es k span given e
entry_again names others owner more same owned id es (Def s name) span given e h = (h.0, h.1, subst (λ xs. Contains xs h.0) (same s) h.2, h.3, h.4, h.5 ∙ ap (λ o. entry (Some name) o (about_name h.0).metadata span h.1) (owned s))
entry_again names others owner more same owned id es (Whole form parts) span given e h = h

module _ (files others : List PackageFile) (a : AreAlike files others) (hs : HaveSameHeaders files others) (p : UnresolvedPackage) (m : Makes files p) where
  abbrev items : List Item
  items = in_order (all_items others) m.in_order.0

  one : ByDeclared m.order
  one i j e = m.by_address i j (ap (λ d. address (bare d)) e)

  twins : AreTwins m.items items
  twins = twins_onward files others a m.items m.in_order

  abbrev ss : List Address
  ss = interface_scopes others items

  abbrev ws : List Address
  ws = world_scopes others items

  interfaces_there : interface_scopes files m.items ≡ ss
  interfaces_there = ap (λ vs. map visited vs ++ map address (own_interfaces m.items)) (foreign_interfaces_same files others a) ∙ ap (λ l. map visited (foreign_interfaces others) ++ l) (own_made address (λ i own. refl) m.items items twins)

  worlds_there : world_scopes files m.items ≡ ws
  worlds_there = ap (λ vs. map visited vs ++ map address (worlds_of m.items)) (foreign_worlds_same files others a) ∙ ap (λ l. map visited (foreign_worlds others) ++ l) (twins_make address (λ i own. refl) (worlds_of m.items) (worlds_of items) (twin_worlds m.items items twins))

  owned : (s : Address) → owner_at (interface_scopes files m.items) (world_scopes files m.items) s ≡ owner_at ss ws s
  owned s = ap (λ l. owner_at l (world_scopes files m.items) s) interfaces_there ∙ ap (λ l. owner_at ss l s) worlds_there

  foreign_by : (v : ForeignVisit) → foreign_interface files m.id v ≡ foreign_interface others m.id v
  foreign_by v = ap (λ xs. interface None (name_places m.id (visited v) xs) [] (metadata no_docs []) v.id.span) (scope_alike files others a (visited v))

  interfaces : p.interfaces ≡ map (foreign_interface others m.id) (foreign_interfaces others) ++ map (own_interface m.id m.order) (own_interfaces items)
  interfaces = cc (m.interfaces, map_by (foreign_interface files m.id) (foreign_interface others m.id) foreign_by (foreign_interfaces files), foreign_interfaces_same files others a, own_made (own_interface m.id m.order) (interface_again m.id m.order one) m.items items twins)

  worlds : p.worlds ≡ map foreign_world (foreign_worlds others) ++ map (own_world m.id m.order ss ws) (worlds_of items)
  worlds = cc (m.worlds, interfaces_there, worlds_there, foreign_worlds_same files others a, twins_make (own_world m.id m.order ss ws) (world_again m.id m.order one ss ws) (worlds_of m.items) (worlds_of items) (twin_worlds m.items items twins))

  pub made_onward : Makes others p
  made_onward =
      let foreign = others_onward files others a p (m.deps, m.dep_spans, m.unknown) in
      record {
        name = ap (option_map package_of) (sym hs.last) ∙ m.name;
        name_span = ap (option_map (λ (h : Header). h.span)) (sym hs.last) ∙ m.name_span;
        docs = m.docs ∙ ap first_docs hs.all;
        deps = foreign.0;
        dep_spans = foreign.1;
        unknown = foreign.2;
        items = items;
        in_order = items_onward files others a m.items m.in_order;
        order = m.order;
        by_address = m.by_address;
        names_in_order = names_onward files others a m.order one m.names_in_order;
        same = m.same;
        gives = m.gives;
        seen = m.seen;
        first = m.first ∙ ap (firsts (λ (x y : Occurrence). m.same x.key y.key)) (occurrences_onward files others a m.items m.in_order m.order one);
        id = m.id;
        places = m.places;
        count = m.count;
        types = λ n o e at_o at_e. entry_again (scope files) (scope others) (owner_at (interface_scopes files m.items) (world_scopes files m.items)) (owner_at ss ws) (scope_alike files others a) owned m.id (take n p.types) o.key o.span o.given e (m.types n o e at_o at_e);
        interfaces = interfaces;
        worlds = worlds;
        required = required_onward files others a (keys m.seen) (flat_map turn_handles (item_turns m.order items)) p.required_resource_types (subst (λ (ts : List Turned). AreRequired files (keys m.seen) (flat_map turn_handles ts) p.required_resource_types) (turns_same m.order one m.items items twins) m.required);
      }

pub joined_packages : (files : List PackageFile) (one : PackageFile) → IsJoined files one → HaveSamePackages files (one ∷ [])
joined_packages files one j p =
    let a = joined_alike files one j in
    let hs = joined_headers files one j in
    (made_onward files (one ∷ []) a hs p, made_onward (one ∷ []) files (alike_back files (one ∷ []) a) (headers_back files (one ∷ []) hs) p)
