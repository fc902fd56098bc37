-- All that an item names occurs, and all that is taken from another package.
use Rattle.std.proofs.Common.{◌≡◌, ℕ, zero, Some, refl, subst, suc, ◌+◌, List, [], ◌∷◌, length, inl, inr, sym, ap, ◌∙◌, arith, not, map, ◌++◌}
use Rattle.wit_items.proofs.Common.{Address, Def, Defined, DefinitionPart, ExternPart, ForeignVisit, FunctionPart, Has, Id, IsItem, IsLegal, IsSeen, Key, Makes, PackageFile, Part, ResourceFunc, ScopeName, Shape, SideFunction, SideInline, SideItem, SideLink, SourceFunction, Turned, TypeBody, Unknown, UnresolvedPackage, Whole, Word, address, all_function_occurrences, all_occurrences, at_back, at_part, at_prefix, definition_functions, expr_of, exprs_of, extern_at, firsts_at, flat_map, flat_map_at, flat_map_has, foreign_use_occurrence, foreign_uses, free_function, function_turn as turn_of_function, functions, inline_items, interface_turn, interfaces_of, item_function, item_inline, item_turns, keys, length-inline_after, local_name, map, map_at, name_occurrences, names_in_turn, names_turn, option_map, own_interfaces, part_functions, part_names, parts, resource_function, same_foreign_use, scope, scope_names, shape_occurrences, shapes_occurrences, side_items, signature, slice_get, slice_get-map, turn_occurrences, turns_of_world, turns_on_sides, turns_walked, walked_turns, used_name_at, visited, words, worlds_of, AreAddresses, AreItems, Ordered, all_addresses, are_items, distinct_items, foreign_interfaces, foreign_worlds, inline_scopes, interface_scopes, interfaces_sort, is_world, item_scopes, items_kept, world_scopes, worlds_sort, AreSideItems, Exported, HasSides, HasTypes, Imported, Type_, World, WorldItem, WorldKey, WorldSide, entries_on, entries_walked, function_in, import_types, includes, local_id, map_map, name_imports, name_places, own_types, own_world, settled, settled_none, settled_types, type_imports, world_entries, world_types, part_of_function}
use Rattle.wit_arena.proofs.Common.{Item}
use Rattle.wit_walk.proofs.Common.{Of, Prim, Names}
use Rattle.wit_parser.proofs.PartsTurns.{IsPresent, RolePresent, FunctionPresent, has_last, has_of, has_back, has_prefix, NamesPresent, name_has, names_seen, signature_known, functions_in-are, name_places-are}
use Rattle.wit_parser.proofs.PartsScopes.{has_at, found_item, has_places, HasPlaces, side_entries-are}
use Rattle.wit_parser.proofs.PartsSeen.{collects, collects_has, made_places}
use Rattle.wit_parser.proofs.Images.{second_at}
use Rattle.wit_arena.proofs.MadeSides.{entries_types}
use Rattle.wit_type_tree.specs.declared.types.TypeBody.TheVariants as body
use Rattle.wit_type_tree.specs.declared.types.ResourceFunc.TheVariants as resource
use Rattle.wit_model.specs.declared.world.WorldKey.TheVariants as key

-- The items of the package that files make: each is at its address, and no two are at one.
module _ (files : List PackageFile) (p : UnresolvedPackage) (legal : IsLegal files) (m : Makes files p) where
  -- an item with its order
  abbrev pub ord : Item → Ordered
  ord i = record { item = i; order = m.order i }

  are_all : AreItems files m.items
  are_all = subst (AreItems files) (sym m.in_order.2) (are_items files m.in_order.0 m.in_order.1 (distinct_items files (λ f broken. legal f (Names broken))))

  pub are_interfaces : AreItems files (interfaces_of m.items)
  are_interfaces = items_kept files (λ (i : Item). not (is_world i)) m.items are_all

  pub are_worlds : AreItems files (worlds_of m.items)
  are_worlds = items_kept files is_world m.items are_all

  pub no_two : AreAddresses (interface_scopes files m.items) (world_scopes files m.items)
  no_two = all_addresses files (interfaces_of m.items) (worlds_of m.items) (interfaces_sort m.items) (worlds_sort m.items) are_interfaces are_worlds

  -- each of them is an item
  pub declared_item : (k : ℕ) (i : Item) → slice_get (interfaces_of m.items) k ≡ Some i → IsItem files (ord i)
  declared_item k i at = found_item files legal m.order m.names_in_order i ((item_scopes files (interfaces_of m.items) are_interfaces).found k i at)

  pub inline_item : (k : ℕ) (i : Item) → slice_get (flat_map inline_items (worlds_of m.items)) k ≡ Some i → IsItem files (ord i)
  inline_item k i at = found_item files legal m.order m.names_in_order i ((inline_scopes files (worlds_of m.items) are_worlds).found k i at)

  pub interface_item : (k : ℕ) (i : Item) → slice_get (own_interfaces m.items) k ≡ Some i → IsItem files (ord i)
  interface_item k i at = elim (at_part (interfaces_of m.items) (flat_map inline_items (worlds_of m.items)) k i at) [ inl h ↦ declared_item h.0 i h.1 | inr h ↦ inline_item h.0 i h.1 ]

  pub world_item : (k : ℕ) (w : Item) → slice_get (worlds_of m.items) k ≡ Some w → IsItem files (ord w)
  world_item k w at = found_item files legal m.order m.names_in_order w ((item_scopes files (worlds_of m.items) are_worlds).found k w at)

  -- their scopes come after those of other packages
  pub interface_listed : (k : ℕ) (i : Item) → slice_get (own_interfaces m.items) k ≡ Some i → slice_get (interface_scopes files m.items) (length (map visited (foreign_interfaces files)) + k) ≡ Some (address i)
  interface_listed = second_at visited address (foreign_interfaces files) (own_interfaces m.items) (interface_scopes files m.items) refl visited

  pub world_listed : (k : ℕ) (w : Item) → slice_get (worlds_of m.items) k ≡ Some w → slice_get (world_scopes files m.items) (length (map visited (foreign_worlds files)) + k) ≡ Some (address w)
  world_listed = second_at visited address (foreign_worlds files) (worlds_of m.items) (world_scopes files m.items) refl visited

module _ (i : Item) (s : Address) (a : Key → Type 0) (known : (p : ℕ) (x : ScopeName) → slice_get (scope_names i) p ≡ Some x → a (Def s (local_name x))) where
  of_resource : (r : Id) → a (Def s r.name.now) → (f : ResourceFunc) → RolePresent a s (resource_function r f).role
  of_resource r h (resource.Method f) = h
  of_resource r h _ = h

  of_body : (r : Id) → a (Def s r.name.now) → (b : TypeBody) (j : ℕ) (fn : SourceFunction) → slice_get (definition_functions r b) j ≡ Some fn → RolePresent a s fn.role
  of_body r h (body.Resource funcs) j fn at = let f = map_at (resource_function r) funcs.items j fn at in subst (λ (g : SourceFunction). RolePresent a s g.role) f.2 (of_resource r h f.0)
  of_body r h _ j fn at = absurd (let f : ⊥ = cc in f)

  of_part : (m : ℕ) (p : Part) → slice_get (parts i) m ≡ Some p → (j : ℕ) (fn : SourceFunction) → slice_get (part_functions p) j ≡ Some fn → RolePresent a s fn.role
  of_part m (DefinitionPart d) there j fn at =
      let p = flat_map_has (part_names i.top) (parts i) m 0 (DefinitionPart d) (Defined d) there refl in
      of_body d.name (known p.0 (Defined d) p.1) d.body j fn at
  of_part m (FunctionPart g) there zero fn at = (let same : free_function g ≡ fn = cc in subst (λ (f : SourceFunction). RolePresent a s f.role) same tt)
  of_part m (ExternPart x) there j fn at = (let it = extern_at x x.kind j fn at in subst (λ (g : SourceFunction). RolePresent a s g.role) it.2 tt)
  of_part m _ there j fn at = absurd (let f : ⊥ = cc in f)

  -- the resource of a function is a name of its item
  pub role_present : (k : ℕ) (fn : SourceFunction) → slice_get (functions i) k ≡ Some fn → RolePresent a s fn.role
  role_present k fn at = let it = part_of_function i k fn at in of_part it.0 it.1 it.2 it.3.0 fn it.3.1

-- a type that is written occurs in its occurrences, where its words are known
shape_has : (s : Address) (x : Shape) (a : Key → Type 0) → ((k : ℕ) (id : Id) → slice_get (words x) k ≡ Some id → a (Def s id.name.now)) → ((k : Key) → Has (keys (shape_occurrences s Unknown x)) k → a k) → IsPresent a (expr_of s x)
shape_has s (Prim p) a known seen = tt
shape_has s (Word id) a known seen = known 0 id refl
shape_has s (Of span form parts) a known seen = seen (Whole form (exprs_of s parts)) (has_last (shapes_occurrences s Unknown parts) (record { key = Whole form (exprs_of s parts); span = span; given = Unknown }))

-- and so are those of a function
pub signature_present : (s : Address) (fn : SourceFunction) (a : Key → Type 0) → ((j : ℕ) (x : Shape) → slice_get (signature fn) j ≡ Some x → (k : ℕ) (id : Id) → slice_get (words x) k ≡ Some id → a (Def s id.name.now)) → ((k : Key) → Has (keys (flat_map (shape_occurrences s Unknown) (signature fn))) k → a k) → (j : ℕ) (x : Shape) → slice_get (signature fn) j ≡ Some x → IsPresent a (expr_of s x)
signature_present s fn a known seen j x at = shape_has s x a (known j x at) (λ k has. seen k (has_of (shape_occurrences s Unknown) (signature fn) j x k at has))

-- among some are the names of a scope in turn, and all that its functions name
pub record ItemPresent (a : Key → Type 0) (order : Item → List ℕ) (i : Item) : Type 0 where
  pub names : (k : ℕ) (x : ScopeName) → slice_get (names_in_turn order i) k ≡ Some x → a (Def (address i) (local_name x))
  pub functions : (k : ℕ) (fn : SourceFunction) → slice_get (functions i) k ≡ Some fn → FunctionPresent a (address i) fn

module _ (order : Item → List ℕ) (s : Address) where
  -- a function of the sides of a world has a turn there
  function_turn : (xs : List SideItem) (is : List Item) (k : ℕ) (fn : SourceFunction) → slice_get (flat_map item_function xs) k ≡ Some fn → (j : ℕ) × (slice_get (turns_on_sides order s xs is) j ≡ Some (record { address = s; names = []; functions = fn ∷ [] }))
  function_turn [] is k fn at = absurd (let f : ⊥ = cc in f)
  function_turn (SideFunction g ∷ xs) is zero fn at = (let same : g ≡ fn = cc in (0, ap (λ (h : SourceFunction). Some (record { address = s; names = []; functions = h ∷ [] })) same))
  function_turn (SideFunction g ∷ xs) is (suc k) fn at = (let it = function_turn xs is k fn at in (suc it.0, it.1))
  function_turn (SideLink link ∷ xs) is k fn at = function_turn xs is k fn at
  function_turn (SideInline x name items ∷ xs) [] k fn at = function_turn xs [] k fn at
  function_turn (SideInline x name items ∷ xs) (i ∷ is) k fn at = (let it = function_turn xs is k fn at in (suc it.0, it.1))

  -- and so has an interface that is written there
  inline_turn : (xs : List SideItem) (is : List Item) → length (flat_map item_inline xs) ≡ length is → (k : ℕ) (i : Item) → slice_get is k ≡ Some i → (j : ℕ) × (slice_get (turns_on_sides order s xs is) j ≡ Some (interface_turn order i))
  inline_turn [] [] count k i at = absurd (let f : ⊥ = cc in f)
  inline_turn (SideFunction g ∷ xs) is count k i at = (let it = inline_turn xs is count k i at in (suc it.0, it.1))
  inline_turn (SideLink link ∷ xs) is count k i at = inline_turn xs is count k i at
  inline_turn (SideInline x name items ∷ xs) (v ∷ is) count zero i at = (let same : v ≡ i = cc in (0, ap (λ (w : Item). Some (interface_turn order w)) same))
  inline_turn (SideInline x name items ∷ xs) (v ∷ is) count (suc k) i at = (let it = inline_turn xs is (omega (arith, count)) k i at in (suc it.0, it.1))
  inline_turn _ is count k i at = absurd (let f : ⊥ = omega (arith, count) in f)

-- each name of another package's interface is taken
pub used_present : (files : List PackageFile) (a : Key → Type 0) → ((k : Key) → Has (keys (map foreign_use_occurrence (foreign_uses files))) k → a k) → (v : ForeignVisit) (k : ℕ) (x : ScopeName) → slice_get (scope files (visited v)) k ≡ Some x → a (Def (visited v) (local_name x))
used_present files a first v k x at =
    let s = visited v in
    let it = used_name_at files s k x at in
    let t = it.1 in
    let p = firsts_at same_foreign_use (foreign_uses files) it.0 t it.2 in
    let has = has_at (map foreign_use_occurrence (foreign_uses files)) p.0 (foreign_use_occurrence t) (slice_get-map foreign_use_occurrence (foreign_uses files) p.0 ∙ ap (option_map foreign_use_occurrence) p.1) in
    let key : Def t.from t.id.name.now ≡ Def s (local_name x) = cc (it.3, ap local_name it.4) in
    subst a key (first (Def t.from t.id.name.now) has)

-- so all occurs that an item of the package that files make names
module _ (files : List PackageFile) (p : UnresolvedPackage) (legal : IsLegal files) (m : Makes files p) where
  abbrev ks : List Key
  ks = keys m.seen

  abbrev turns : List Turned
  turns = item_turns m.order m.items

  -- what occurs in a turn
  turn_seen : (j : ℕ) (t : Turned) → slice_get turns j ≡ Some t → (k : Key) → Has (keys (turn_occurrences t)) k → IsSeen ks k
  turn_seen j t at k has = collects_has (all_occurrences files turns) [] m.seen (collects files p legal m) k (has_back (map foreign_use_occurrence (foreign_uses files)) (flat_map turn_occurrences turns) k (has_of turn_occurrences turns j t k at has))

  -- an item is, where its names and the types of its functions occur
  item_seen : (i : Item) → IsItem files (ord files p legal m i) → ((k : Key) → Has (keys (flat_map (name_occurrences (address i)) (names_in_turn m.order i))) k → IsSeen ks k)
      → ((j : ℕ) (fn : SourceFunction) → slice_get (functions i) j ≡ Some fn → (k : Key) → Has (keys (flat_map (shape_occurrences (address i) Unknown) (signature fn))) k → IsSeen ks k) → ItemPresent (IsSeen ks) m.order i
  item_seen i it own types =
      let o = ord files p legal m i in
      let known : NamesPresent files legal o it (IsSeen ks) = λ p x at. own (Def (address i) (local_name x)) (names_seen files legal o it p x at) in
      record {
        names = λ k x at. own (Def (address i) (local_name x)) (name_has (address i) (names_in_turn m.order i) k x at);
        functions = λ k fn at. record {
          role = role_present i (address i) (IsSeen ks) known k fn at;
          types = signature_present (address i) fn (IsSeen ks) (λ j x there. signature_known files legal o it (IsSeen ks) known k fn at j x there) (types k fn at);
        };
      }

  -- so does an interface, whose turn is whole
  whole_seen : (i : Item) → IsItem files (ord files p legal m i) → (j : ℕ) → slice_get turns j ≡ Some (interface_turn m.order i) → ItemPresent (IsSeen ks) m.order i
  whole_seen i it j at =
      let s = address i in
      let names = flat_map (name_occurrences s) (names_in_turn m.order i) in
      let types = all_function_occurrences s (functions i) in
      let seen = turn_seen j (interface_turn m.order i) at in
      item_seen i it (λ k has. seen k (has_prefix names types k has)) (λ n fn there k has. seen k (has_back names types k (has_of (λ (g : SourceFunction). flat_map (shape_occurrences s Unknown) (signature g)) (functions i) n fn k there has)))

  -- where a turn of a world is among all
  world_turn : (n j : ℕ) (w : Item) (t : Turned) → slice_get (worlds_of m.items) n ≡ Some w → slice_get (walked_turns m.order w) j ≡ Some t → (k : ℕ) × (slice_get turns k ≡ Some t)
  world_turn n j w t at there =
      let it = flat_map_has (turns_of_world m.order) (worlds_of m.items) n j w t at (ap (λ (l : List Turned). slice_get l j) (turns_walked w m.order) ∙ there) in
      (length (map (interface_turn m.order) (interfaces_of m.items)) + it.0, at_back (map (interface_turn m.order) (interfaces_of m.items)) (flat_map (turns_of_world m.order) (worlds_of m.items)) it.0 t it.1)

  declared_seen : (n : ℕ) (i : Item) → slice_get (interfaces_of m.items) n ≡ Some i → ItemPresent (IsSeen ks) m.order i
  declared_seen n i at = whole_seen i (declared_item files p legal m n i at) n (at_prefix (map (interface_turn m.order) (interfaces_of m.items)) (flat_map (turns_of_world m.order) (worlds_of m.items)) n (interface_turn m.order i) (slice_get-map (interface_turn m.order) (interfaces_of m.items) n ∙ ap (option_map (interface_turn m.order)) at))

  inline_seen : (n : ℕ) (i : Item) → slice_get (flat_map inline_items (worlds_of m.items)) n ≡ Some i → ItemPresent (IsSeen ks) m.order i
  inline_seen n i at =
      let w = flat_map_at inline_items (worlds_of m.items) n i at in
      let j = inline_turn m.order (address w.1) (side_items w.1) (inline_items w.1) (sym (length-inline_after w.1 [] (side_items w.1))) w.3.0 i w.3.1 in
      let k = world_turn w.0 (suc j.0) w.1 (interface_turn m.order i) w.2 j.1 in
      whole_seen i (inline_item files p legal m n i at) k.0 k.1

  -- so all interfaces are, all worlds, and what is taken from other packages
  pub interface_seen : (n : ℕ) (i : Item) → slice_get (own_interfaces m.items) n ≡ Some i → ItemPresent (IsSeen ks) m.order i
  interface_seen n i at = elim (at_part (interfaces_of m.items) (flat_map inline_items (worlds_of m.items)) n i at) [ inl h ↦ declared_seen h.0 i h.1 | inr h ↦ inline_seen h.0 i h.1 ]

  pub world_seen : (n : ℕ) (w : Item) → slice_get (worlds_of m.items) n ≡ Some w → ItemPresent (IsSeen ks) m.order w
  world_seen n w at =
      let s = address w in
      let names = names_turn s (names_in_turn m.order w) in
      let first = world_turn n 0 w names at refl in
      item_seen w (world_item files p legal m n w at) (λ k has. turn_seen first.0 names first.1 k (has_prefix (flat_map (name_occurrences s) (names_in_turn m.order w)) [] k has)) (λ j fn there k has. (
      let it = function_turn m.order s (side_items w) (inline_items w) j fn there in
      let one = world_turn n (suc it.0) w (turn_of_function s fn) at it.1 in
      turn_seen one.0 (turn_of_function s fn) one.1 k (has_prefix (flat_map (shape_occurrences s Unknown) (signature fn)) [] k has)))

  pub foreign_seen : (v : ForeignVisit) (k : ℕ) (x : ScopeName) → slice_get (scope files (visited v)) k ≡ Some x → IsSeen ks (Def (visited v) (local_name x))
  foreign_seen v = used_present files (IsSeen ks) (λ k has. (collects_has (all_occurrences files turns) [] m.seen (collects files p legal m) k (has_prefix (map foreign_use_occurrence (foreign_uses files)) (flat_map turn_occurrences turns) k has))) v

-- A world of the package that files make has on its sides what is written there.
imports_named : (id : Key → ℕ) (s : Address) (xs : List ScopeName) → name_imports id s xs ≡ type_imports xs (name_places id s xs)
imports_named id s [] = refl
imports_named id s (x ∷ xs) = ap (λ (l : List (WorldKey × WorldItem)). (key.Name (local_name x), Type_ (id (Def s (local_name x))) (local_id x).span) ∷ l) (imports_named id s xs)

module _ (files : List PackageFile) (p : UnresolvedPackage) (legal : IsLegal files) (m : Makes files p) (k : ℕ) (i : Item) (at : slice_get (worlds_of m.items) k ≡ Some i) where
  abbrev ss : List Address
  ss = interface_scopes files m.items

  abbrev w : World
  w = own_world m.id m.order ss (world_scopes files m.items) i

  side_is : (side : WorldSide) → AreSideItems ss i.top side (side_items i) (map (function_in m.id (address i)) (functions i)) (map address (inline_items i)) (entries_on side (world_entries m.id ss i))
  side_is side =
      let placed : HasPlaces ss (world_scopes files m.items) i = has_places files legal m.items m.in_order k i at in
      subst (λ es. AreSideItems ss i.top side (side_items i) (map (function_in m.id (address i)) (functions i)) (map address (inline_items i)) (entries_on side es)) (sym (entries_walked i m.id ss))
      (side_entries-are ss (function_in m.id (address i)) (λ fn. refl) i.top side (side_items i) (inline_items i) (sym (length-inline_after i [] (side_items i))) placed.links placed.inside)

  abbrev types : List (List ℕ × ℕ)
  types = name_places m.id (address i) (names_in_turn m.order i)

  abbrev on : List (WorldKey × WorldItem)
  on = entries_on Imported (world_entries m.id ss i)

  imports_are : w.imports ≡ settled (includes i) (type_imports (names_in_turn m.order i) types ++ on)
  imports_are = ap (λ (l : List (WorldKey × WorldItem)). settled (includes i) (l ++ on)) (imports_named m.id (address i) (names_in_turn m.order i))

  types_are : world_types w ≡ types
  types_are =
      let none = settled_none import_types (includes i) on (ap (λ (l : List (WorldSide × (WorldKey × WorldItem))). flat_map import_types (entries_on Imported l)) (entries_walked i m.id ss) ∙ entries_types (function_in m.id (address i)) ss i.top Imported (side_items i) (inline_items i)) in
      own_types (names_in_turn m.order i) types (settled (includes i) on) w (map_map (λ (n : List ℕ × ℕ). n.0) (λ (x : ScopeName). (local_name x, m.id (Def (address i) (local_name x)))) (names_in_turn m.order i)) (imports_are ∙ settled_types (includes i) (names_in_turn m.order i) types on) none

  pub world_typed : HasTypes (keys m.seen) (interface_turn m.order i) (world_types w)
  world_typed = subst (HasTypes (keys m.seen) (interface_turn m.order i)) (sym types_are) (name_places-are m.id (keys m.seen) (made_places files p legal m) (interface_turn m.order i) (world_seen files p legal m k i at).names)

  pub world_sides : HasSides (keys m.seen) ss (map address (inline_items i)) (ord files p legal m i) w
  world_sides = record {
    functions = (map (function_in m.id (address i)) (functions i));
    are = functions_in-are m.id (keys m.seen) (made_places files p legal m) (address i) (functions i) (world_seen files p legal m k i at).functions;
    imports = (on, side_is Imported, imports_are ∙ ap (λ (l : List (List ℕ × ℕ)). settled (includes i) (type_imports (names_in_turn m.order i) l ++ on)) (sym types_are));
    exports = (entries_on Exported (world_entries m.id ss i), side_is Exported, refl);
  }
