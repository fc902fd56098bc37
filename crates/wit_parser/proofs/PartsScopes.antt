-- What occurs in all items of files occurs in an order in which the parts of each come before it.
use Rattle.std.proofs.Common.{◌≡◌, ◌≤◌, ℕ, ◌+◌, zero, suc, Bool, true, false, not, List, [], ◌∷◌, ◌++◌, length, take, Option, Some, None, ◌⊎◌, inl, inr, refl, sym, ap, ◌∙◌, subst, arith, append-nil, cond, Contains}
use Rattle.wit_items.proofs.Common.{Address, AllDiffer, Attribute, Contains, Def, ForeignNamed, Has, InterfaceNamed, IsForeignUse, IsItem, IsLegal, IsOrder, Key, MissingName, Occurrence, OfNothing, Ordered, PackageFile, ScopeName, SideFunction, SideInline, SideItem, SideLink, SourceFunction, Turned, UseName, Used, address, all_declared, all_function_occurrences, all_items, all_scopes, at_contains, bytes_eq, distinct_items, find_at, find_passes, flat_map, flat_map-append, flat_map-map, foreign_use_occurrence, foreign_uses, function_used, functions, in_order, in_order_at, inline_items, interface_turn, interfaces_of, is_foreign, is_world, item_at, item_function, item_index, item_name, item_rows, item_turns, items_within, kept_at, kept_early, kept_has, keys, local_name, map, meaning, missing_at, name_equal, name_exprs, name_occurrences, name_word, named_found, not-true, option_map, ordered_names, own_interface_address, role_names, rows_of, scope, scope_among, scope_item_at, scope_names, side_items, slice_get, slice_get-map, take_all, turn_occurrences, turns_of_world, turns_on_sides, turns_walked, used_before, used_interface, used_name_at, uses_lead, worlds_of, DefinitionPart, Extern, ExternKind, ExternPart, Foreign, ForeignVisit, FunctionPart, Id, Include, IncludePart, InterfaceIncluded, IsVisited, Link, Local, MissingUse, PackageName, Part, Target, UsePath, WorldNamed, WorldUsed, at_back, at_prefix, at_side, contains_at, definition_functions, extern_items, extern_link, extern_paths, extern_visits, flat_map_at, flat_map_has, foreign_at, foreign_at-visited, foreign_interfaces, foreign_items, foreign_worlds, include_path, include_paths, includes, inline_uses, interface_scopes, interface_there, is_world_at, item_link, item_named, item_word, leads, map_at, named_at, needed_before, option_cases, own_interfaces, part_includes, part_items, part_visits, parts, path_among, path_id, path_scope, path_visited, path_visits, paths_of_world, side_has, side_itself, target_scope, use_path, use_paths, visit_listed, visited, walk, world_address, world_scopes, world_there, AreSideItems, Function, TopName, WorldItem, WorldKey, WorldSide, cons_option, entries_on, inline_entry, item_inline, link_item, put_on, role_side, same_side, scope_place, side_entries}
use Rattle.wit_walk.proofs.Common.{Names, OfFunction, Use as WrittenUse}
use Rattle.wit_arena.proofs.Common.{Item}
use Rattle.wit_parser.proofs.PartsTurns.{AllPresent, After, Ready, has_prefix, has_of, ready_append, functions_ready, UsesPresent, NamesPresent, names_seen, names_ready, signature_known, turn_names, turn_ready, one_at, ready_kept}
use Rattle.wit_syntax.specs.Broken.{Use}
use Rattle.wit_arena.proofs.Interfaces.{scope_place-found}
use Rattle.wit_arena.proofs.MadeScopes.{interface_scopes-differ, world_scopes-differ}
use Rattle.wit_tree.specs.declared.tree.ExternKind.TheVariants as extern
use Rattle.wit_model.specs.declared.world.WorldKey.TheVariants as key
use Rattle.wit_model.specs.declared.world.WorldItem.TheVariants as item

-- what is in a list occurs in it
pub has_at : (ms : List Occurrence) (i : ℕ) (m : Occurrence) → slice_get ms i ≡ Some m → Has (keys ms) m.key
has_at [] i m at = absurd (let f : ⊥ = cc in f)
has_at (x ∷ ms) zero m at = (let same : x ≡ m = cc in inl (ap (λ (y : Occurrence). y.key) same))
has_at (x ∷ ms) (suc i) m at = inr (has_at ms i m at)

-- what a name of another package means has no parts
pub no_parts : (files : List PackageFile) (s : Address) (x : ScopeName) (a : Key → Type 0) → is_foreign s ≡ true → Contains (scope files s) x → AllPresent a (name_exprs s x)
no_parts files (ForeignNamed p name) x a foreign among =
    let s = ForeignNamed p name in
    let i = at_contains (scope files s) x among in
    let it = used_name_at files s i.0 x i.1 in
    subst (λ (y : ScopeName). AllPresent a (name_exprs s y)) (sym it.4) tt
no_parts files _ x a foreign among = absurd (let f : ⊥ = cc in f)

-- lists of turns, one after another
turns_ready : {X : Type 0} (names : Address → List ScopeName) (f : X → List Turned) (xs : List X) (a : Key → Type 0) → ((k : ℕ) (x : X) → slice_get xs k ≡ Some x → (b : Key → Type 0) → ((q : Key) → a q → b q) → Ready names b (flat_map turn_occurrences (f x))) → Ready names a (flat_map turn_occurrences (flat_map f xs))
turns_ready names f [] a each = tt
turns_ready names f (x ∷ xs) a each =
    let first = flat_map turn_occurrences (f x) in
    let rest = flat_map turn_occurrences (flat_map f xs) in
    subst (λ l. Ready names a l) (sym (flat_map-append turn_occurrences (f x) (flat_map f xs))) (ready_append names first rest a (each 0 x refl a (λ q p. p)) (turns_ready names f xs (After a first) (λ k y at b wider. each (suc k) y at b (λ q p. wider q (inl p)))))

module _ (files : List PackageFile) (legal : IsLegal files) (order : Item → List ℕ) (orders : ((i : Item) → Contains (all_scopes files) i → IsOrder (rows_of (scope_names i)) (order i))) where
  abbrev names : Address → List ScopeName
  names = scope files

  abbrev all : List Item
  all = all_items files

  differ : AllDiffer (map item_name all)
  differ = distinct_items files (λ f broken. legal f (Names broken))

  -- an item with its order
  abbrev pub own : Item → Ordered
  own i = record { item = i; order = order i }

  pub found_item : (i : Item) → item_at (all_scopes files) (address i) ≡ Some i → IsItem files (own i)
  found_item i found = record { found = found; least = orders i (scope_among files legal (address i) i found) }

  pub with_item : (p j : ℕ) (w i : Item) → slice_get all p ≡ Some w → slice_get (w ∷ inline_items w) j ≡ Some i → IsItem files (own i)
  with_item p j w i at inside = found_item i (scope_item_at all w j i (all_declared files) (named_found all p w differ at) inside)

  pub declared_item : (p : ℕ) (w : Item) → slice_get all p ≡ Some w → IsItem files (own w)
  declared_item p w at = with_item p 0 w w at refl

  -- what occurs in an item, as an interface
  abbrev pub interface_collects : Item → List Occurrence
  interface_collects i = turn_occurrences (interface_turn order i)

  -- a used name is one of the interface that it comes from
  used_name : (o : Ordered) (it : IsItem files o) (from : Address) (attributes : List Attribute) (n : UseName) → Contains (scope_names o.item) (Used from attributes n) → (q : ℕ) (v : Item) → slice_get all q ≡ Some v → is_world v ≡ false → from ≡ InterfaceNamed (item_name v) → (p : ℕ) × (x : ScopeName) × (slice_get (scope_names v) p ≡ Some x) × (Def (address v) (local_name x) ≡ Def from n.name.name.now)
  used_name o it from attributes n among q v at sort is =
      let name = n.name.name.now in
      let here = scope_among files legal (address o.item) o.item it.found in
      let there : address v ≡ from = own_interface_address v (all_declared files q v at) sort ∙ sym is in
      let first = named_found all q v differ at in
      let called = flat_map (λ (fn : SourceFunction). role_names fn.role) (functions v) in
      by_meaning there (meaning (scope_names v) name) refl (λ none. (
      let free : Contains called name → ⊥ = λ h. legal (function_used n.name) (MissingName o.item here from attributes n among v (sym there) first none (OfFunction h refl)) in
      legal (missing_at 12 name_word n.name) (MissingName o.item here from attributes n among v (sym there) first none (OfNothing free refl))))
    where
      by_meaning : address v ≡ from → (m : Option ScopeName) → meaning (scope_names v) n.name.name.now ≡ m → (m ≡ None → ⊥) → (p : ℕ) × (x : ScopeName) × (slice_get (scope_names v) p ≡ Some x) × (Def (address v) (local_name x) ≡ Def from n.name.name.now)
      by_meaning there None is none = absurd (none refl)
      by_meaning there (Some x) is none =
          let test = λ (y : ScopeName). bytes_eq (local_name y) n.name.name.now in
          let p = find_at test (scope_names v) x is in
          let same = name_equal (local_name x) n.name.name.now (find_passes test (scope_names v) x is) in
          (p.0, x, p.1, ap (λ (a : Address). Def a (local_name x)) there ∙ ap (Def from) same)

  abbrev pub in_use : List Occurrence
  in_use = map foreign_use_occurrence (foreign_uses files)

  foreign_known : (from : Address) (n : UseName) → IsForeignUse files from n → Has (keys in_use) (Def from n.name.name.now)
  foreign_known from n u = has_at in_use u.index (foreign_use_occurrence (record { from = from; attributes = u.attributes; id = n.name })) (slice_get-map foreign_use_occurrence (foreign_uses files) u.index ∙ ap (option_map foreign_use_occurrence) u.in_use)

  module _ (places : List ℕ) (least : IsOrder (item_rows files) places) where
    abbrev interface_test : Item → Bool
    interface_test i = not (is_world i)

    abbrev early : ℕ → List Item
    early n = interfaces_of (in_order all (take n places))

    module _ (a : Key → Type 0) (first : (k : Key) → Has (keys in_use) k → a k) where
      before_known : (n p : ℕ) (w : Item) → is_world w ≡ false → slice_get places n ≡ Some p → (at : slice_get all p ≡ Some w) → UsesPresent files legal (own w) (declared_item p w at) (After a (flat_map interface_collects (early n)))
      before_known n p w sort next at from attributes n' among = elim (used_before files (uses_lead files legal) differ places least n p w from attributes n' sort next at among) [
        | inl u ↦ (
            let v = u.own.item in
            let q = used_name (own w) (declared_item p w at) from attributes n' among u.own.place v u.own.at u.own.sort u.own.is in
            let k = kept_early interface_test all places n u.index u.own.place v u.before u.at u.own.at (ap not u.own.sort) in
            let has = turn_names files legal (own v) (declared_item u.own.place v u.own.at) q.0 q.1 q.2 in
            inr (subst (Has (keys (flat_map interface_collects (early n)))) q.3 (has_of interface_collects (early n) k.0 v (Def (address v) (local_name q.1)) k.1 has)))
        | inr u ↦ inl (first (Def from n'.name.name.now) (foreign_known from n' u))
      ]

      interfaces_ready : (n : ℕ) → n ≤ length places → Ready names a (flat_map interface_collects (early n))
      interfaces_ready = ready_kept names interface_collects interface_test all places a (items_within files places least) (λ n p w passes next at. turn_ready files legal (own w) (declared_item p w at) (After a (flat_map interface_collects (early n))) (before_known n p w (not-true (is_world w) passes) next at))

    abbrev pub items : List Item
    items = in_order all places

    -- the original of each used name is taken, or occurs in an interface
    abbrev pub Earlier : Key → Type 0
    Earlier k = Has (keys in_use) k ⊎ Has (keys (flat_map interface_collects (interfaces_of items))) k

    pub uses_known : (o : Ordered) (it : IsItem files o) → UsesPresent files legal o it Earlier
    uses_known o it from attributes n among = elim (used_interface files (uses_lead files legal) o.item from attributes n (scope_among files legal (address o.item) o.item it.found) among) [
      | inl u ↦ (
          let v = u.item in
          let q = used_name o it from attributes n among u.place v u.at u.sort u.is in
          let t = item_index files places least u.place v u.at in
          let k = kept_has interface_test items t.0 v (ap not u.sort) t.2 in
          let has = turn_names files legal (own v) (declared_item u.place v u.at) q.0 q.1 q.2 in
          inr (subst (Has (keys (flat_map interface_collects (interfaces_of items)))) q.3 (has_of interface_collects (interfaces_of items) k.0 v (Def (address v) (local_name q.1)) k.1 has)))
      | inr u ↦ inl (foreign_known from n u)
    ]

    -- so the sides of worlds occur in order, and whole worlds
    sides_ready : (w : Item) (it : IsItem files (own w)) (xs : List SideItem) (is : List Item) (b : Key → Type 0) → ((k : Key) → Earlier k → b k) → NamesPresent files legal (own w) it b → ((k : ℕ) (fn : SourceFunction) → slice_get (flat_map item_function xs) k ≡ Some fn → (q : ℕ) × (slice_get (functions w) q ≡ Some fn)) → ((k : ℕ) (i : Item) → slice_get is k ≡ Some i → IsItem files (own i))
        → Ready names b (flat_map turn_occurrences (turns_on_sides order (address w) xs is))
    sides_ready w it [] is b wider known among inside = tt
    sides_ready w it (SideFunction fn ∷ xs) is b wider known among inside =
        let here = all_function_occurrences (address w) (fn ∷ []) in
        let q = among 0 fn refl in
        ready_append names here (flat_map turn_occurrences (turns_on_sides order (address w) xs is)) b (functions_ready names (address w) (fn ∷ []) b (λ k g at j x there i id is_word. (
        let same = one_at fn g k at in
        signature_known files legal (own w) it b known q.0 g (q.1 ∙ ap Some same) j x there i id is_word))) (sides_ready w it xs is (After b here) (λ k p. inl (wider k p)) (λ p x at. inl (known p x at)) (λ k. among (suc k)) inside)
    sides_ready w it (SideLink link ∷ xs) is b wider known among inside = sides_ready w it xs is b wider known among inside
    sides_ready w it (SideInline x name parts ∷ xs) [] b wider known among inside = sides_ready w it xs [] b wider known among inside
    sides_ready w it (SideInline x name parts ∷ xs) (i ∷ is) b wider known among inside =
        let one = inside 0 i refl in
        ready_append names (interface_collects i) (flat_map turn_occurrences (turns_on_sides order (address w) xs is)) b (turn_ready files legal (own i) one b (λ from attributes n there. wider (Def from n.name.name.now) (uses_known (own i) one from attributes n there))) (sides_ready w it xs is (After b (interface_collects i)) (λ k p. inl (wider k p)) (λ p y at. inl (known p y at)) among (λ k. inside (suc k)))

    world_ready : (p : ℕ) (w : Item) → slice_get all p ≡ Some w → (b : Key → Type 0) → ((k : Key) → Earlier k → b k) → Ready names b (flat_map turn_occurrences (turns_of_world order w))
    world_ready p w at b wider =
        let it = declared_item p w at in
        let s = address w in
        let there = flat_map (name_occurrences s) (ordered_names (own w)) in
        let sides = flat_map turn_occurrences (turns_on_sides order s (side_items w) (inline_items w)) in
        let prefix : Ready names b (there ++ []) = subst (λ l. Ready names b l) (sym (append-nil there)) (names_ready files legal (own w) it b (λ from attributes n among. wider (Def from n.name.name.now) (uses_known (own w) it from attributes n among))) in
        subst (λ ts. Ready names b (flat_map turn_occurrences ts)) (sym (turns_walked w order)) (ready_append names (there ++ []) sides b prefix (sides_ready w it (side_items w) (inline_items w) (After b (there ++ [])) (λ k q. inl (wider k q)) (λ k x is. inr (has_prefix there [] (Def s (local_name x)) (names_seen files legal (own w) it k x is))) (λ k fn is. (k, is)) (λ k i is. with_item p (suc k) w i at is)))

    -- all that occurs in scopes, after what is taken
    pub all_ready : Ready names (Has (keys in_use)) (flat_map turn_occurrences (item_turns order items))
    all_ready =
        let interfaces = flat_map interface_collects (interfaces_of items) in
        let worlds = flat_map turn_occurrences (flat_map (turns_of_world order) (worlds_of items)) in
        let start = Has (keys in_use) in
        let le : length places ≤ length places = omega arith in
        let declared : Ready names start interfaces = subst (λ (l : List ℕ). Ready names start (flat_map interface_collects (interfaces_of (in_order all l)))) (take_all (length places) places le) (interfaces_ready start (λ k h. h) (length places) le) in
        let rest_after : Ready names (After start interfaces) worlds = turns_ready names (turns_of_world order) (worlds_of items) (After start interfaces) (λ k w at b wider. (
        let q = kept_at is_world items k w at in
        let p = in_order_at all places q.0 w (items_within files places least) q.1 in
        world_ready p.0 w p.2 b (λ x h. wider x (elim h [ inl prefix ↦ inl prefix | inr own_one ↦ inr own_one ])))) in
        let split : flat_map turn_occurrences (item_turns order items) ≡ interfaces ++ worlds = flat_map-append turn_occurrences (map (interface_turn order) (interfaces_of items)) (flat_map (turns_of_world order) (worlds_of items)) ∙ ap (λ l. l ++ worlds) (flat_map-map turn_occurrences (interface_turn order) (interfaces_of items)) in
        subst (λ l. Ready names start l) (sym split) (ready_append names interfaces worlds start declared rest_after)

-- What is stated of a side of a world is there, where each interface that is named there has a place.
-- what is kept of what is stated with its side is put on that side
kept_put : (side own : WorldSide) (x : (WorldKey × WorldItem)) (xs : List (WorldKey × WorldItem)) → cons_option (cond (same_side side own) (Some x) None) xs ≡ put_on side own x xs
kept_put side own x xs = elim (same_side side own) as (λ b. cons_option (cond b (Some x) None) xs ≡ cond b (x ∷ xs) xs) [ true ↦ refl | false ↦ refl ]

-- a scope is where it is stated to
abbrev pub HasPlace : List Address → Address → Type 0
HasPlace ss s = slice_get ss (scope_place ss s) ≡ Some s

-- each scope that a world names has its place, where the interfaces have these scopes and the worlds those
pub record HasPlaces (ss ws : List Address) (w : Item) : Type 0 where
  pub links : (k : ℕ) (link : Link) → slice_get (flat_map item_link (side_items w)) k ≡ Some link → HasPlace ss (path_scope w.top link.path)
  pub inside : (k : ℕ) (v : Item) → slice_get (inline_items w) k ≡ Some v → HasPlace ss (address v)
  pub included : (k : ℕ) (n : Include) → slice_get (includes w) k ≡ Some n → HasPlace ws (target_scope WorldNamed (leads w.top n.from))

module _ (ss : List Address) (function : SourceFunction → Function) (named : (fn : SourceFunction) → (function fn).name ≡ fn.name) (top : List TopName) (side : WorldSide) where
  pub side_entries-are : (written : List SideItem) (is : List Item) → length (flat_map item_inline written) ≡ length is → ((k : ℕ) (link : Link) → slice_get (flat_map item_link written) k ≡ Some link → HasPlace ss (path_scope top link.path)) → ((k : ℕ) (i : Item) → slice_get is k ≡ Some i → HasPlace ss (address i))
      → AreSideItems ss top side written (map function (flat_map item_function written)) (map address is) (entries_on side (side_entries function ss top written is))
  side_entries-are [] is count links inside = refl
  side_entries-are (SideFunction fn ∷ written) is count links inside =
      let rest = entries_on side (side_entries function ss top written is) in (
        rest,
        kept_put side (role_side fn.role) (key.Name fn.name, item.Function (function fn)) rest ∙ ap (λ (n : List ℕ). put_on side (role_side fn.role) (key.Name n, item.Function (function fn)) rest) (sym (named fn)),
        side_entries-are written is count links inside,
      )
  side_entries-are (SideLink link ∷ written) is count links inside =
      let rest = entries_on side (side_entries function ss top written is) in
      let place = scope_place ss (path_scope top link.path) in
      (place, rest, links 0 link refl, kept_put side link.side (link_item link place) rest, side_entries-are written is count (λ k. links (suc k)) inside)
  side_entries-are (SideInline x name items ∷ written) [] count links inside = absurd (let f : ⊥ = omega (arith, count) in f)
  side_entries-are (SideInline x name items ∷ written) (i ∷ is) count links inside =
      let rest = entries_on side (side_entries function ss top written is) in
      let place = scope_place ss (address i) in
      (place, rest, inside 0 i refl, kept_put side x.side (inline_entry x name place) rest, side_entries-are written is (omega (arith, count)) links (λ k. inside (suc k)))

-- Of a world of files that break no rule, the scope of each interface that is linked there, or written there, has its place among those of interfaces,
-- and the scope of each include among those of worlds.
-- what is among such as differ has its place
present_placed : (ss : List Address) (i : ℕ) (s : Address) → AllDiffer ss → slice_get ss i ≡ Some s → HasPlace ss s
present_placed ss i s differ at = ap (slice_get ss) (scope_place-found ss s i differ at) ∙ at

one_or_other : (a b : Bool) → (a ≡ b) ⊎ (a ≡ not b)
one_or_other true false = inr refl
one_or_other false true = inr refl
one_or_other _ _ = inl refl

-- a path is that of what a world imports or exports
record IsCrossed (w : Item) (path : UsePath) : Type 0 where
  pub place : ℕ
  pub x : Extern
  pub part : slice_get (parts w) place ≡ Some (ExternPart x)
  pub index : ℕ
  pub at : slice_get (extern_paths x.kind) index ≡ Some path

kind_path : (x : Extern) (kind : ExternKind) (j : ℕ) (link : Link) → slice_get (extern_items x kind) j ≡ Some (SideLink link) → slice_get (extern_paths kind) 0 ≡ Some link.path
kind_path x (extern.Path own) zero link at = (let same : extern_link x None own ≡ link = cc in ap (λ (l : Link). Some l.path) same)
kind_path x (extern.NamedPath name own) zero link at = (let same : extern_link x (Some name) own ≡ link = cc in ap (λ (l : Link). Some l.path) same)
kind_path x (extern.Interface name items) zero link at = cc
kind_path x (extern.Func name g) zero link at = cc
kind_path x _ j link at = cc

part_crossed : (w : Item) (m : ℕ) (p : Part) (j : ℕ) (link : Link) → slice_get (parts w) m ≡ Some p → slice_get (part_items p) j ≡ Some (SideLink link) → IsCrossed w link.path
part_crossed w m (DefinitionPart d) j link there at = (let it = map_at SideFunction (definition_functions d.name d.body) j (SideLink link) at in cc it.2)
part_crossed w m (ExternPart x) j link there at = record { place = m; x = x; part = there; index = 0; at = kind_path x x.kind j link at }
part_crossed w m (FunctionPart g) zero link there at = cc
part_crossed w m _ j link there at = cc

link_written : (w : Item) (k : ℕ) (link : Link) → slice_get (flat_map item_link (side_items w)) k ≡ Some link → (i : ℕ) × (slice_get (side_items w) i ≡ Some (SideLink link))
link_written w k link at =
    let it = flat_map_at item_link (side_items w) k link at in
    (it.0, it.2 ∙ ap Some (of_item it.1 it.3.0 it.3.1))
  where
    of_item : (y : SideItem) (j : ℕ) → slice_get (item_link y) j ≡ Some link → y ≡ SideLink link
    of_item (SideLink own) zero is = (let same : own ≡ link = cc in ap SideLink same)
    of_item _ j is = absurd (let f : ⊥ = cc in f)

-- so it is one of the item's to interfaces
crossed_path : (w : Item) (path : UsePath) → IsCrossed w path → Contains (use_paths w) path
crossed_path w path c =
    let before = map (λ (u : WrittenUse). u.from) (inline_uses c.x.kind) in
    let own = at_back before (extern_paths c.x.kind) c.index path c.at in
    let n = flat_map_has use_path (parts w) c.place (length before + c.index) (ExternPart c.x) path c.part own in
    contains_at (use_paths w) n.0 path n.1

-- and where it names a package, its visit is one of the item's
crossed_visit : (w : Item) (path : UsePath) (c : IsCrossed w path) (v : ForeignVisit) → slice_get (path_visits c.x.attributes.items false path) 0 ≡ Some v → (n : ℕ) × (slice_get (walk part_visits extern_visits (parts w)) n ≡ Some v)
crossed_visit w path c v first =
    let visits = path_visits c.x.attributes.items false in
    let uses = flat_map (λ (u : WrittenUse). path_visits u.attributes.items false u.from) (inline_uses c.x.kind) in
    let own = flat_map_has visits (extern_paths c.x.kind) c.index 0 path v c.at first in
    let there = at_back uses (flat_map visits (extern_paths c.x.kind)) own.0 v own.1 in
    let j = length uses + own.0 in
    let here : slice_get (at_side extern_visits c.x.side (ExternPart c.x)) j ≡ Some v = ap (λ (b : Bool). slice_get (cond b (extern_visits c.x) []) j) (side_itself c.x.side) ∙ there in
    let on_side = flat_map_has (at_side extern_visits c.x.side) (parts w) c.place j (ExternPart c.x) v c.part here in
    side_has (flat_map part_visits (parts w)) (λ side. flat_map (at_side extern_visits side) (parts w)) c.x.side on_side.0 v on_side.1

-- an include of an item is among its parts
record IsIncluded (w : Item) (n : Include) : Type 0 where
  pub place : ℕ
  pub part : slice_get (parts w) place ≡ Some (IncludePart n)

include_part : (w : Item) (k : ℕ) (n : Include) → slice_get (includes w) k ≡ Some n → IsIncluded w n
include_part w k n at =
    let it = flat_map_at part_includes (parts w) k n at in
    of_part it.0 it.1 it.3.0 it.2 it.3.1
  where
    of_part : (m : ℕ) (p : Part) (j : ℕ) → slice_get (parts w) m ≡ Some p → slice_get (part_includes p) j ≡ Some n → IsIncluded w n
    of_part m (IncludePart own) zero there is = (let same : own ≡ n = cc in record { place = m; part = there ∙ ap (λ (i : Include). Some (IncludePart i)) same })
    of_part m _ j there is = absurd (let f : ⊥ = cc in f)

included_path : (w : Item) (n : Include) → IsIncluded w n → Contains (include_paths w) n.from
included_path w n i = let it = flat_map_has include_path (parts w) i.place 0 (IncludePart n) n.from i.part refl in contains_at (include_paths w) it.0 n.from it.1

module _ (files : List PackageFile) (legal : IsLegal files) (items : List Item) (ordered : ((places : List ℕ) × IsOrder (item_rows files) places × (items ≡ in_order (all_items files) places))) where
  -- the scopes of worlds, or of interfaces, and that of a name among them
  abbrev scopes : Bool → List Address
  scopes world = cond world (world_scopes files items) (interface_scopes files items)

  abbrev called : Bool → List ℕ → Address
  called world = cond world WorldNamed InterfaceNamed

  own_placed : (k : ℕ) (i : Item) → slice_get (own_interfaces items) k ≡ Some i → HasPlace (interface_scopes files items) (address i)
  own_placed k i at = present_placed (interface_scopes files items) (length (map visited (foreign_interfaces files)) + k) (address i) (interface_scopes-differ files legal items ordered) (at_back (map visited (foreign_interfaces files)) (map address (own_interfaces items)) k (address i) (slice_get-map address (own_interfaces items) k ∙ ap (option_map address) at))

  world_placed : (k : ℕ) (w : Item) → slice_get (worlds_of items) k ≡ Some w → HasPlace (world_scopes files items) (address w)
  world_placed k w at = present_placed (world_scopes files items) (length (map visited (foreign_worlds files)) + k) (address w) (world_scopes-differ files legal items ordered) (at_back (map visited (foreign_worlds files)) (map address (worlds_of items)) k (address w) (slice_get-map address (worlds_of items) k ∙ ap (option_map address) at))

  -- each item has its place
  item_placed : (world : Bool) (p : ℕ) (v : Item) → slice_get (all_items files) p ≡ Some v → is_world v ≡ world → HasPlace (scopes world) (called world (item_name v))
  item_placed true p v at sort =
      let t = item_index files ordered.0 ordered.1 p v at in
      let k = kept_has is_world items t.0 v sort (ap (λ (l : List Item). slice_get l t.0) ordered.2 ∙ t.2) in
      subst (HasPlace (world_scopes files items)) (world_address v sort) (world_placed k.0 v k.1)
  item_placed false p v at sort =
      let t = item_index files ordered.0 ordered.1 p v at in
      let k = kept_has (λ (i : Item). not (is_world i)) items t.0 v (ap not sort) (ap (λ (l : List Item). slice_get l t.0) ordered.2 ∙ t.2) in
      subst (HasPlace (interface_scopes files items)) (own_interface_address v (all_declared files p v at) sort) (own_placed k.0 v (at_prefix (interfaces_of items) (flat_map inline_items (worlds_of items)) k.0 v k.1))

  -- and so has each item of another package
  visit_placed : (world : Bool) (p : ℕ) (v : ForeignVisit) → slice_get (foreign_items files) p ≡ Some v → v.wants_world ≡ world → HasPlace (scopes world) (visited v)
  visit_placed true p v at wants =
      let k = kept_has (λ (u : ForeignVisit). u.wants_world) (foreign_items files) p v wants at in
      present_placed (world_scopes files items) k.0 (visited v) (world_scopes-differ files legal items ordered) (at_prefix (map visited (foreign_worlds files)) (map address (worlds_of items)) k.0 (visited v) (slice_get-map visited (foreign_worlds files) k.0 ∙ ap (option_map visited) k.1))
  visit_placed false p v at wants =
      let k = kept_has (λ (u : ForeignVisit). not u.wants_world) (foreign_items files) p v (ap not wants) at in
      present_placed (interface_scopes files items) k.0 (visited v) (interface_scopes-differ files legal items ordered) (at_prefix (map visited (foreign_interfaces files)) (map address (own_interfaces items)) k.0 (visited v) (slice_get-map visited (foreign_interfaces files) k.0 ∙ ap (option_map visited) k.1))

  -- so where a path leads to an item, of the right sort, its scope has its place
  abbrev pub LeadsTo : Bool → Target → Type 0
  LeadsTo world t = HasPlace (scopes world) (target_scope (called world) t) × (is_world_at files t ≡ Some world)

  target_placed : (world : Bool) (t : Target) → ((id : Id) → t ≡ Local id → item_named (all_items files) id.name.now ≡ None → ⊥) → (is_world_at files t ≡ Some (not world) → ⊥) → ((p : PackageName) (id : Id) → t ≡ Foreign p id → IsVisited files p id) → LeadsTo world t
  target_placed world (Local id) missing wrong visits =
      let test = λ (x : Item). bytes_eq (item_name x) id.name.now in
      option_cases (item_named (all_items files) id.name.now) (LeadsTo world (Local id)) (λ v found. (
      let p = find_at test (all_items files) v found in
      let name = name_equal (item_name v) id.name.now (find_passes test (all_items files) v found) in
      elim (one_or_other (is_world v) world) [
        | inl same ↦ (subst (λ (n : List ℕ). HasPlace (scopes world) (called world n)) name (item_placed world p.0 v p.1 same), ap (option_map is_world) found ∙ ap Some same)
        | inr other ↦ absurd (wrong (ap (option_map is_world) found ∙ ap Some other))
      ]))
      (λ none. absurd (missing id refl none))
  target_placed world (Foreign p id) missing wrong visits =
      let here = visits p id refl in
      let it = visit_listed files here.place here.v here.at in
      let v = it.1 in
      let is = it.3 ∙ here.is in
      let found : is_world_at files (Foreign p id) ≡ Some v.wants_world = ap (λ (s : Address). option_map (λ (u : ForeignVisit). u.wants_world) (foreign_at files s)) (sym is) ∙ ap (option_map (λ (u : ForeignVisit). u.wants_world)) (foreign_at-visited files it.0 v it.2) in
      elim (one_or_other v.wants_world world) [
        | inl same ↦ (subst (HasPlace (scopes world)) is (visit_placed world it.0 v it.2 same), found ∙ ap Some same)
        | inr other ↦ absurd (wrong (found ∙ ap Some other))
      ]

  module _ (t : ℕ) (w : Item) (at : slice_get (worlds_of items) t ≡ Some w) where
    -- where the world is among the items of files
    spot : (k : ℕ) × (p : ℕ) × (slice_get ordered.0 k ≡ Some p) × (slice_get (all_items files) p ≡ Some w) × (is_world w ≡ true)
    spot =
        let k = kept_at is_world items t w at in
        let p = in_order_at (all_items files) ordered.0 k.0 w (items_within files ordered.0 ordered.1) (ap (λ (l : List Item). slice_get l k.0) (sym ordered.2) ∙ k.1) in
        (k.0, p.0, p.1, p.2, k.2)

    among : Contains (all_items files) w
    among = contains_at (all_items files) spot.1 w spot.3

    -- each interface that is written in it has its place
    inside_placed : (k : ℕ) (v : Item) → slice_get (inline_items w) k ≡ Some v → HasPlace (interface_scopes files items) (address v)
    inside_placed k v inside =
        let n = flat_map_has inline_items (worlds_of items) t k w v at inside in
        own_placed (length (interfaces_of items) + n.0) v (at_back (interfaces_of items) (flat_map inline_items (worlds_of items)) n.0 v n.1)

    -- and so has each that it imports or exports by its path
    pub link_leads : (i : ℕ) (link : Link) → slice_get (side_items w) i ≡ Some (SideLink link) → LeadsTo false (leads w.top link.path)
    link_leads i link there =
        let path = link.path in
        let c = (let p = flat_map_at part_items (parts w) i (SideLink link) there in part_crossed w p.0 p.1 p.3.0 link p.2 p.3.1) in
        let listed = crossed_path w path c in
        target_placed false (leads w.top path)
        (λ id lead none. legal (missing_at 7 item_word id) (Use w among (MissingUse path id listed lead none refl)))
        (λ world. legal (world_there (path_id path)) (Use w among (WorldUsed path listed world refl)))
        (λ p id lead. path_among files spot.1 w c.x.attributes.items false path p id spot.3 (crossed_visit w path c) lead)

    links_placed : (k : ℕ) (link : Link) → slice_get (flat_map item_link (side_items w)) k ≡ Some link → HasPlace (interface_scopes files items) (path_scope w.top link.path)
    links_placed k link there = (let it = link_written w k link there in (link_leads it.0 link it.1).0)

    -- and each world that it includes, among worlds
    includes_placed : (k : ℕ) (n : Include) → slice_get (includes w) k ≡ Some n → HasPlace (world_scopes files items) (target_scope WorldNamed (leads w.top n.from))
    includes_placed k n there =
        let i = include_part w k n there in
        let listed = included_path w n i in
        let differ : AllDiffer (map item_name (all_items files)) = distinct_items files (λ f broken. legal f (Names broken)) in
        (target_placed true (leads w.top n.from)
        (λ id lead none. (
        let v = needed_before files ordered.0 ordered.1 spot.0 spot.1 w n.from id spot.2 spot.3 (subst (λ (l : List UsePath). Contains l n.from) (sym (paths_of_world w spot.4)) listed) lead in
        cc (sym (named_at files differ id.name.now v.1 v.2 v.5 v.6) ∙ none)))
        (λ interface. legal (interface_there (path_id n.from)) (InterfaceIncluded w among n.from listed interface refl))
        (λ p id lead. path_visited files spot.1 w i.place (IncludePart n) n.attributes.items true n.from p id spot.3 i.part refl lead)).0

    pub has_places : HasPlaces (interface_scopes files items) (world_scopes files items) w
    has_places = record { links = links_placed; inside = inside_placed; included = includes_placed }
