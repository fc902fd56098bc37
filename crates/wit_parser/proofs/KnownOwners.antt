-- At each address of a package is a scope that it knows by its place.
use Rattle.std.proofs.Common.{◌≡◌, ℕ, ◌+◌, List, length, Some, None, inl, inr, refl, sym, ap, ◌∙◌, eqb-true, eq-eqb, [], Option, subst, arith, zero, suc, ◌∷◌, ◌++◌}
use Rattle.wit_items.proofs.Common.{Address, InlineAt, IsLegal, Makes, PackageFile, SourceFunction, TypeOwner, UnresolvedPackage, World, WorldSide, about, address, at_back, at_prefix, at_split, declared_called, find_at, find_passes, find_some, flat_map, flat_map_at, flat_map_has, foreign_interface, foreign_interface-none, foreign_interfaces, foreign_world, foreign_worlds, functions_apart, functions_are, includes, inline_inside, inline_interface, inline_items, inline_items_at, inline_owner, interface_address, interface_scope, interface_scopes, interfaces_of, interfaces_on, interfaces_sort, is_inside, item_name, keys, laid_scope, length-map, map, names_in_turn, nat_eq, option_map, option_map_or, option_or, own_interface, own_interfaces, own_world, same_some, side_items, slice_get, take, turn_is, turns_walked, visited, world_address, world_functions, world_interfaces, world_owner_at, world_scope, world_scopes, world_types, worlds_of, worlds_sort, DoneScope, IsItem, ScopeName, SideFunction, SideInline, SideItem, SideLink, Turned, after_one, at_part, function_turn, functions, functions_at, interface_turn, item_function, item_turns, map_at, names_turn, scope, turns_of_world, turns_on_sides}
use Rattle.wit_arena.proofs.Common.{Item}
use Rattle.wit_arena.proofs.InlineOwners.{IsInlineEntry, world_entries, world_entry}
use Rattle.wit_parser.proofs.Images.{images_at}
use Rattle.wit_parser.proofs.KnownScopes.{own_world_at, HasScope, named_world-label, interface_owner, world_owner, own_interface_at, foreign_interface_known, foreign_world_known, own_interface_known, IsKnown}
use Rattle.wit_parser.proofs.PartsOrders.{no_two, are_interfaces, interface_listed, ord, world_item, world_listed, interface_item, world_sides, world_typed}
use Rattle.wit_arena.proofs.Settled.{stated_settled}
use Rattle.wit_arena.proofs.Faithful.{IsOwnerOf}
use Rattle.wit_types.specs.declared.types.TypeOwner.TheVariants as owner

-- it is written in a world at a place, and has no name
pub record IsWrittenAt (w i : Item) : Type 0 where
  pub side : WorldSide
  pub place : ℕ
  pub present : address i ≡ InlineAt (item_name w) side place
  pub unnamed : (about i.declared).called ≡ None

pub written_at : (w : Item) (k : ℕ) (i : Item) → slice_get (inline_items w) k ≡ Some i → IsWrittenAt w i
written_at w k i at =
    let it = inline_items_at w k i at in
    record {
      side = it.x.side;
      place = length (interfaces_on it.x.side (take it.place (side_items w)));
      present = ap address (sym it.is);
      unnamed = ap (λ (v : Item). (about v.declared).called) (sym it.is);
    }

module _ (files : List PackageFile) (p : UnresolvedPackage) (legal : IsLegal files) (m : Makes files p) where
  abbrev interfaces : List Address
  interfaces = interface_scopes files m.items

  abbrev made_world : Item → World
  made_world w = own_world m.id m.order interfaces (world_scopes files m.items) w

  -- each entry of an interface on a side means it, or for one that is written in no world
  of_world : (k : ℕ) (w : Item) → slice_get (worlds_of m.items) k ≡ Some w → (j : ℕ) (e : ℕ × Address) → slice_get (world_interfaces (made_world w)) j ≡ Some e → IsInlineEntry interfaces e
  of_world k w at j e there =
      let s = world_sides files p legal m k w at in
      world_entries interfaces w (made_world w) refl (names_in_turn m.order w) (world_types (made_world w)) (includes w) s.imports.0 s.exports.0 s.imports.2 s.exports.2 s.functions s.imports.1 s.exports.1 j e there

  all_listed : (j : ℕ) (e : ℕ × Address) → slice_get (flat_map world_interfaces p.worlds) j ≡ Some e → IsInlineEntry interfaces e
  all_listed j e at =
      let it = flat_map_at world_interfaces p.worlds j e at in
      images_at foreign_world made_world (foreign_worlds files) (worlds_of m.items) p.worlds m.worlds (λ (k : ℕ) (w : World). slice_get (world_interfaces w) it.3.0 ≡ Some e → IsInlineEntry interfaces e) (λ k v v_at some. cc some) (λ k w w_at. of_world k w w_at it.3.0 e) it.0 it.1 it.2 it.3.1

  -- each that is written in a world has one
  has_listed : (k : ℕ) (w : Item) (n : ℕ) (i : Item) → slice_get (worlds_of m.items) k ≡ Some w → slice_get (inline_items w) n ≡ Some i → (j : ℕ) × (place : ℕ) × (slice_get (flat_map world_interfaces p.worlds) j ≡ Some (place, address i)) × (slice_get interfaces place ≡ Some (address i))
  has_listed k w n i at inside =
      let s = world_sides files p legal m k w at in
      let spot = written_at w n i inside in
      let it = world_entry interfaces w (made_world w) refl (names_in_turn m.order w) (world_types (made_world w)) (includes w) s.imports.0 s.exports.0 s.imports.2 s.exports.2 s.functions s.imports.1 s.exports.1 n i spot.side spot.place inside spot.present in
      let q = flat_map_has world_interfaces p.worlds (length (map visited (foreign_worlds files)) + k) it.0 (made_world w) (it.1, address i) (own_world_at files p legal m k w at) it.2 in
      (q.0, it.1, q.1, it.3)

  -- so the package knows it by its place
  pub inline_known : (k : ℕ) (w : Item) (n : ℕ) (i : Item) (place : ℕ) → slice_get (worlds_of m.items) k ≡ Some w → slice_get (inline_items w) n ≡ Some i → slice_get interfaces place ≡ Some (address i) → inline_owner p place ≡ Some (address i)
  inline_known k w n i place at inside present =
      let test = λ (e : ℕ × Address). nat_eq e.0 place in
      let it = has_listed k w n i at inside in
      let same : it.1 ≡ place = (no_two files p legal m).interfaces.differ it.1 place (address i) it.3 present in
      let found = find_some test (flat_map world_interfaces p.worlds) it.0 (it.1, address i) it.2 (eq-eqb it.1 place same) in
      let there = find_at test (flat_map world_interfaces p.worlds) found.0 found.1 in
      let here : found.0.0 ≡ place = eqb-true found.0.0 place (find_passes test (flat_map world_interfaces p.worlds) found.0 found.1) in
      elim (all_listed there.0 found.0 there.1) [
        | inl own ↦ ap (option_map (λ (x : ℕ × Address). x.1)) found.1 ∙ sym own ∙ ap (slice_get interfaces) here ∙ present
        | inr other ↦ cc (sym other.2 ∙ ap is_inside (same_some (sym other.1 ∙ ap (slice_get interfaces) here ∙ present)) ∙ inline_inside w n i inside)
      ]

module _ (files : List PackageFile) (p : UnresolvedPackage) (legal : IsLegal files) (m : Makes files p) where
  abbrev ss : List Address
  ss = map visited (foreign_interfaces files)

  abbrev Has : TypeOwner → Address → Type 0
  Has o s = HasScope files p (keys m.seen) (interface_scopes files m.items) (world_scopes files m.items) o s

  -- a declared interface goes by its name
  declared : (k : ℕ) (i : Item) → slice_get (interfaces_of m.items) k ≡ Some i → Has (owner.Interface (length ss + k)) (address i)
  declared k i at =
      let items = are_interfaces files p legal m in
      let sort = (interfaces_sort m.items).each k i at in
      let whole = at_prefix (interfaces_of m.items) (flat_map inline_items (worlds_of m.items)) k i at in
      let name = declared_called files (interfaces_of m.items) items k i at in
      let called = interface_owner p (length ss + k) (own_interface m.id m.order i) (Some (item_name i)) (own_interface_at files p legal m k i whole) name ∙ ap (λ (s : Address). Some s) (sym (interface_address files (interfaces_of m.items) items k i at sort)) in
      own_interface_known files p legal m k i whole sort called

  -- one that is written in a world goes by its place there
  written : (k : ℕ) (i : Item) → slice_get (flat_map inline_items (worlds_of m.items)) k ≡ Some i → Has (owner.Interface (length ss + (length (interfaces_of m.items) + k))) (address i)
  written k i at =
      let n = length (interfaces_of m.items) + k in
      let place = length ss + n in
      let w = flat_map_at inline_items (worlds_of m.items) k i at in
      let whole = at_back (interfaces_of m.items) (flat_map inline_items (worlds_of m.items)) k i at in
      let name = (written_at w.1 w.3.0 i w.3.1).unnamed in
      let past = foreign_interface-none files p m.deps place (let long = length-map (foreign_interfaces files) visited in omega (arith, long)) in
      let known = inline_known files p legal m w.0 w.1 w.3.0 i place w.2 w.3.1 (interface_listed files p legal m n i whole) in
      let called = interface_owner p place (own_interface m.id m.order i) None (own_interface_at files p legal m n i whole) name ∙ ap (λ (x : Option Address). option_or x (inline_owner p place)) past ∙ known in
      own_interface_known files p legal m n i whole (inline_interface w.1 w.3.0 i w.3.1) called

  -- so each interface is known by its place
  own_has : (k : ℕ) (i : Item) → slice_get (own_interfaces m.items) k ≡ Some i → Has (owner.Interface (length ss + k)) (address i)
  own_has k i at = elim (at_split (interfaces_of m.items) (flat_map inline_items (worlds_of m.items)) k i at) [
    | inl own ↦ declared k i own
    | inr inside ↦ subst (λ (n : ℕ). Has (owner.Interface (length ss + n)) (address i)) (sym inside.1) (written inside.0 i inside.2)
  ]

  pub has_interface : (t : ℕ) (s : Address) → slice_get (interface_scopes files m.items) t ≡ Some s → Has (owner.Interface t) s
  has_interface = images_at visited address (foreign_interfaces files) (own_interfaces m.items) (interface_scopes files m.items) refl (λ t. Has (owner.Interface t)) (λ t v at. record {
    scope = interface_scope files t v (foreign_interface files m.id v);
    address = refl;
    owner = refl;
    known = foreign_interface_known files p legal m t v at;
  }) own_has

  -- and each world
  own_world_known : (k : ℕ) (w : Item) → slice_get (worlds_of m.items) k ≡ Some w → Has (owner.World (length (map visited (foreign_worlds files)) + k)) (address w)
  own_world_known k w at =
      let place = length (map visited (foreign_worlds files)) + k in
      let o = ord files p legal m w in
      let x : World = own_world m.id m.order (interface_scopes files m.items) (world_scopes files m.items) w in
      let it = world_item files p legal m k w at in
      let typed = world_typed files p legal m k w at in
      let s = world_sides files p legal m k w at in
      let here = own_world_at files p legal m k w at in
      let id = (about w.declared).id in
      let sort = (worlds_sort m.items).each k w at in
      let stated = stated_settled (interface_scopes files m.items) w.top (names_in_turn m.order w) (world_types x) (side_items w) s.functions (map address (inline_items w)) (includes w) s.imports.0 s.exports.0 x s.imports.2 s.exports.2 s.imports.1 s.exports.1 in
      record {
        scope = laid_scope (owner.World place) o (world_types x) s.functions (world_functions x) [];
        address = refl;
        owner = refl;
        known = record {
          done = record { turn = turn_is files legal o it; listed = typed.names; functions = sym (functions_are files legal o it); stated = stated };
          whose = world_owner_at (interface_scopes files m.items) (world_scopes files m.items) (no_two files p legal m) place (address w) (world_listed files p legal m k w at);
          types = typed;
          made = s.are;
          apart = functions_apart files legal o it;
          called = world_owner p place x id.name.now here refl ∙ named_world-label p place id.name.now id.label ∙ ap (λ (a : Address). Some a) (sym (world_address w sort));
          names = ap (λ (o : Option World). option_map_or world_types o []) here;
          stated = ap (λ (o : Option World). option_map_or world_functions o []) here;
        };
      }

  pub has_world : (t : ℕ) (s : Address) → slice_get (world_scopes files m.items) t ≡ Some s → Has (owner.World t) s
  has_world = images_at visited address (foreign_worlds files) (worlds_of m.items) (world_scopes files m.items) refl (λ t. Has (owner.World t)) (λ t v at. record { scope = world_scope t v; address = refl; owner = refl; known = foreign_world_known files p legal m t v at }) own_world_known

-- The scopes of a package are those that its interfaces and worlds are resolved as, one after another.
-- an element for each of a list, so that this holds of the two and of their place
pub record AreChosen {X Y : Type 0} (P : ℕ → X → Y → Type 0) (xs : List X) : Type 0 where
  pub all : List Y
  pub at : (k : ℕ) (y : Y) → slice_get all k ≡ Some y → (x : X) × P k x y
  pub has : (k : ℕ) (x : X) → slice_get xs k ≡ Some x → (y : Y) × (slice_get all k ≡ Some y) × P k x y

-- one more in front
chosen_more : {X Y : Type 0} (P : ℕ → X → Y → Type 0) (x : X) (xs : List X) (first : Y) → P 0 x first → AreChosen (λ k. P (suc k)) xs → AreChosen P (x ∷ xs)
chosen_more {X} {Y} P x xs first holds rest = record { all = first ∷ rest.all; at = at; has = has }
  where
    at : (k : ℕ) (y : Y) → slice_get (first ∷ rest.all) k ≡ Some y → (z : X) × P k z y
    at zero y is = (x, subst (P 0 x) (let same : first ≡ y = cc in same) holds)
    at (suc k) y is = rest.at k y is

    has : (k : ℕ) (z : X) → slice_get (x ∷ xs) k ≡ Some z → (y : Y) × (slice_get (first ∷ rest.all) k ≡ Some y) × P k z y
    has zero z is = (first, refl, subst (λ (v : X). P 0 v first) (let same : x ≡ z = cc in same) holds)
    has (suc k) z is = rest.has k z is

chosen : {X Y : Type 0} (P : ℕ → X → Y → Type 0) (xs : List X) → ((k : ℕ) (x : X) → slice_get xs k ≡ Some x → (y : Y) × P k x y) → AreChosen P xs
chosen P [] each = record { all = []; at = λ k y at. absurd (let f : ⊥ = cc in f); has = λ k x at. absurd (let f : ⊥ = cc in f) }
chosen P (x ∷ xs) each = (let first = each 0 x refl in chosen_more P x xs first.0 first.1 (chosen (λ k. P (suc k)) xs (λ k. each (suc k))))

-- a scope that is resolved has the address, some of the names and some of the functions of one of these
pub record IsPartOf (cs : List DoneScope) (t : Turned) : Type 0 where
  pub place : ℕ
  pub resolved_scope : DoneScope
  pub at : slice_get cs place ≡ Some resolved_scope
  pub scope : resolved_scope.address ≡ t.address
  pub names : (k : ℕ) (x : ScopeName) → slice_get t.names k ≡ Some x → (j : ℕ) × (slice_get resolved_scope.names j ≡ Some x)
  pub functions : (k : ℕ) (fn : SourceFunction) → slice_get t.functions k ≡ Some fn → (j : ℕ) × (slice_get resolved_scope.functions j ≡ Some fn)

-- its names alone, and one of its functions alone
names_part : (cs : List DoneScope) (t : Turned) → IsPartOf cs t → IsPartOf cs (names_turn t.address t.names)
names_part cs t h = record { place = h.place; resolved_scope = h.resolved_scope; at = h.at; scope = h.scope; names = h.names; functions = λ k fn at. absurd (let f : ⊥ = cc in f) }

function_part : (cs : List DoneScope) (t : Turned) (j : ℕ) (g : SourceFunction) → slice_get t.functions j ≡ Some g → IsPartOf cs t → IsPartOf cs (function_turn t.address g)
function_part cs t j g there h = record { place = h.place; resolved_scope = h.resolved_scope; at = h.at; scope = h.scope; names = λ k x at. absurd (let f : ⊥ = cc in f); functions = only }
  where
    only : (k : ℕ) (fn : SourceFunction) → slice_get (g ∷ []) k ≡ Some fn → (i : ℕ) × (slice_get h.resolved_scope.functions i ≡ Some fn)
    only zero fn at = h.functions j fn (there ∙ at)
    only (suc k) fn at = absurd (let f : ⊥ = cc in f)

-- what holds of functions and of interfaces that are written in a world holds of all that is on its sides
side_parts : (P : Turned → Type 0) (order : Item → List ℕ) (s : Address) (xs : List SideItem) (is : List Item) → ((k : ℕ) (fn : SourceFunction) → slice_get (flat_map item_function xs) k ≡ Some fn → P (function_turn s fn)) → ((k : ℕ) (i : Item) → slice_get is k ≡ Some i → P (interface_turn order i)) → (k : ℕ) (t : Turned) → slice_get (turns_on_sides order s xs is) k ≡ Some t → P t
side_parts P order s [] is fns inner k t at = absurd (let f : ⊥ = cc in f)
side_parts P order s (SideFunction fn ∷ xs) is fns inner zero t at = subst P (let same : function_turn s fn ≡ t = cc in same) (fns 0 fn refl)
side_parts P order s (SideFunction fn ∷ xs) is fns inner (suc k) t at = side_parts P order s xs is (λ j. fns (suc j)) inner k t at
side_parts P order s (SideLink link ∷ xs) is fns inner k t at = side_parts P order s xs is fns inner k t at
side_parts P order s (SideInline x name items ∷ xs) [] fns inner k t at = side_parts P order s xs [] fns inner k t at
side_parts P order s (SideInline x name items ∷ xs) (i ∷ is) fns inner zero t at = subst P (let same : interface_turn order i ≡ t = cc in same) (inner 0 i refl)
side_parts P order s (SideInline x name items ∷ xs) (i ∷ is) fns inner (suc k) t at = side_parts P order s xs is fns (λ j. inner (suc j)) k t at

module _ (files : List PackageFile) (p : UnresolvedPackage) (legal : IsLegal files) (m : Makes files p) where
  abbrev pub Known : DoneScope → Type 0
  Known c = IsKnown files p (keys m.seen) (interface_scopes files m.items) (world_scopes files m.items) c

  abbrev pub KnownAs : (ℕ → TypeOwner) → ℕ → Address → DoneScope → Type 0
  KnownAs of k s c = (c.address ≡ s) × (c.owner ≡ of k) × Known c

  -- the scopes at the addresses of interfaces, and at those of worlds
  pub of_interfaces : AreChosen (KnownAs owner.Interface) (interface_scopes files m.items)
  of_interfaces = chosen (KnownAs owner.Interface) (interface_scopes files m.items) (λ k s at. (let it = has_interface files p legal m k s at in (it.scope, (it.address, it.owner, it.known))))

  pub of_worlds : AreChosen (KnownAs owner.World) (world_scopes files m.items)
  of_worlds = chosen (KnownAs owner.World) (world_scopes files m.items) (λ k s at. (let it = has_world files p legal m k s at in (it.scope, (it.address, it.owner, it.known))))

  abbrev pub scopes : List DoneScope
  scopes = of_interfaces.all ++ of_worlds.all

  pub known_at : (t : ℕ) (c : DoneScope) → slice_get scopes t ≡ Some c → Known c
  known_at t c at = elim (at_part of_interfaces.all of_worlds.all t c at) [
    | inl a ↦ (of_interfaces.at a.0 c a.1).1.2
    | inr b ↦ (of_worlds.at b.0 c b.1).1.2
  ]

  pub interface_resolved_scope : (t : ℕ) (s : Address) → slice_get (interface_scopes files m.items) t ≡ Some s → IsOwnerOf scopes (owner.Interface t) s
  interface_resolved_scope t s at = let c = of_interfaces.has t s at in record { place = t; resolved_scope = c.0; at = at_prefix of_interfaces.all of_worlds.all t c.0 c.1; whose = c.2.1; scope = c.2.0 }

  pub world_resolved_scope : (t : ℕ) (s : Address) → slice_get (world_scopes files m.items) t ≡ Some s → IsOwnerOf scopes (owner.World t) s
  world_resolved_scope t s at = let c = of_worlds.has t s at in record { place = length of_interfaces.all + t; resolved_scope = c.0; at = at_back of_interfaces.all of_worlds.all t c.0 c.1; whose = c.2.1; scope = c.2.0 }

  -- an item is resolved as the scope at its address
  item_part : (i : Item) (whose : TypeOwner) → IsItem files (ord files p legal m i) → IsOwnerOf scopes whose (address i) → IsPartOf scopes (interface_turn m.order i)
  item_part i whose it c =
      let o = ord files p legal m i in
      let done = (known_at c.place c.resolved_scope c.at).done in
      let turn = turn_is files legal o it in
      let same : c.resolved_scope.functions ≡ functions i = done.functions ∙ ap (functions_at files) c.scope ∙ functions_are files legal o it in
      record {
        place = c.place;
        resolved_scope = c.resolved_scope;
        at = c.at;
        scope = c.scope;
        names = λ k x at. (let q = turn.among k x at in done.turn.has q.0 x (ap (λ (s : Address). slice_get (scope files s) q.0) c.scope ∙ q.1));
        functions = λ k fn at. (k, ap (λ (l : List SourceFunction). slice_get l k) same ∙ at);
      }

  interface_part : (k : ℕ) (i : Item) → slice_get (own_interfaces m.items) k ≡ Some i → IsPartOf scopes (interface_turn m.order i)
  interface_part k i at =
      let place = length (map visited (foreign_interfaces files)) + k in
      item_part i (owner.Interface place) (interface_item files p legal m k i at) (interface_resolved_scope place (address i) (interface_listed files p legal m k i at))

  world_part : (k : ℕ) (w : Item) → slice_get (worlds_of m.items) k ≡ Some w → IsPartOf scopes (interface_turn m.order w)
  world_part k w at =
      let place = length (map visited (foreign_worlds files)) + k in
      item_part w (owner.World place) (world_item files p legal m k w at) (world_resolved_scope place (address w) (world_listed files p legal m k w at))

  -- what is on the sides of a world
  on_sides : (k : ℕ) (w : Item) → slice_get (worlds_of m.items) k ≡ Some w → (j : ℕ) (turn : Turned) → slice_get (turns_on_sides m.order (address w) (side_items w) (inline_items w)) j ≡ Some turn → IsPartOf scopes turn
  on_sides k w at = side_parts (IsPartOf scopes) m.order (address w) (side_items w) (inline_items w) (λ j fn fn_at. function_part scopes (interface_turn m.order w) j fn fn_at (world_part k w at)) (λ j i i_at. (
      let n = flat_map_has inline_items (worlds_of m.items) k j w i at i_at in
      interface_part (length (interfaces_of m.items) + n.0) i (at_back (interfaces_of m.items) (flat_map inline_items (worlds_of m.items)) n.0 i n.1)))

  -- each scope that is resolved is part of one of these
  pub turn_part : (k : ℕ) (t : Turned) → slice_get (item_turns m.order m.items) k ≡ Some t → IsPartOf scopes t
  turn_part k t at = elim (at_part (map (interface_turn m.order) (interfaces_of m.items)) (flat_map (turns_of_world m.order) (worlds_of m.items)) k t at) [
    | inl own ↦ (
        let i = map_at (interface_turn m.order) (interfaces_of m.items) own.0 t own.1 in
        subst (IsPartOf scopes) i.2 (interface_part own.0 i.0 (at_prefix (interfaces_of m.items) (flat_map inline_items (worlds_of m.items)) own.0 i.0 i.1)))
    | inr far ↦ (
        let w = flat_map_at (turns_of_world m.order) (worlds_of m.items) far.0 t far.1 in
        elim (after_one (names_turn (address w.1) (names_in_turn m.order w.1)) (turns_on_sides m.order (address w.1) (side_items w.1) (inline_items w.1)) w.3.0 t (ap (λ (l : List Turned). slice_get l w.3.0) (sym (turns_walked w.1 m.order)) ∙ w.3.1)) [
          | inl names ↦ subst (IsPartOf scopes) names (names_part scopes (interface_turn m.order w.1) (world_part w.0 w.1 w.2))
          | inr side ↦ on_sides w.0 w.1 w.2 side.0 t side.1
        ])
  ]
