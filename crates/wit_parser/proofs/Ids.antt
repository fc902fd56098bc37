-- The ids of a package that legal files make are places of entries of its arenas.
use Rattle.std.proofs.Common.{◌≡◌, ◌<◌, ◌≤◌, ℕ, ◌+◌, List, ◌++◌, length, map, take, Option, Some, None, refl, sym, ap, ◌∙◌, subst, arith, inl, inr, length-append, zero, suc, [], ◌∷◌}
use Rattle.wit_items.proofs.Common.{Address, AstItem, Def, Extern, ForeignVisit, GivesPlaces, Id, IsEntry, IsKeyed, IsLegal, IsSeen, Key, Link, Makes, Occurrence, PackageFile, PackageName, SourceFunction, Stability, TypeDef, UnresolvedPackage, Whole, WorldInclude, WorldNamed, address, all_at_untaken, declarations, dep, dep_item, entry_of_interface, entry_of_world, filter, flat_map, foreign_entry, foreign_interface, foreign_interfaces, foreign_items, foreign_packages, foreign_turned, foreign_world, foreign_worlds, function_in, functions, include_in, includes, inline_entry, inline_items, interface_scopes, interface_turn, item_link, item_sort, item_turns, kept_at, keys, kind_of, leads, length-map, link_item, link_key, local_name, map_at, name_exprs, names_in_turn, option_map, option_or, own_interface, own_interfaces, own_world, package_of, path_scope, place_at, position-Some, same_address, same_package, scope_place, side_items, slice_get, slice_get_within, target_scope, turn_handles, unwrap_or, visited, world_scopes, worlds_of, AllZip, AreAt, AreRequired, Constructor, End, Expr, Exprs, Freestanding, FuncForm, Function, HandleRequires, HasTypes, IsAt, IsBelow, Method, More, Of, OnSide, Prim, Role, Span, Static, Turned, Use, expr_of, filter_map, freestanding_kind, method_kind, same_some, static_kind, role_kind}
use Rattle.wit_arena.proofs.Common.{Item}
use Rattle.wit_arena.proofs.LegalScopes.{scope_differs}
use Rattle.wit_arena.proofs.Placing.{keyed_by}
use Rattle.wit_arena.proofs.Shape.{key_of}
use Rattle.wit_parser.proofs.EachMade.{Entry, exports_each, imports_each, members_each}
use Rattle.wit_parser.proofs.Images.{images_at}
use Rattle.wit_parser.proofs.PartsSeen.{entries_made, made_places}
use Rattle.wit_parser.proofs.PartsOrders.{ItemPresent, interface_seen, world_seen, foreign_seen}
use Rattle.wit_parser.proofs.PartsTurns.{FunctionPresent, RolePresent, name_places-are, seen_at, signature_at}
use Rattle.wit_parser.proofs.PartsScopes.{has_places, HasPlaces}
use Rattle.wit_parser.specs.Ids.{IsFunctionWithin, IsKeyWithin, IsItemWithin, IsOwnerWithin, IsTypeWithin, IsInterfaceWithin, IsWorldWithin, IsForeignWithin, AreIdsWithin}
use Rattle.wit_types.specs.declared.types.«Type».{«Type» as Ty}
use Rattle.wit_functions.specs.FunctionKinds.{resource_of}
use Rattle.wit_arena.proofs.OneKind.{primitive_below}
use Rattle.wit_types.specs.declared.types.TypeOwner.TheVariants as owner
use Rattle.wit_model.specs.declared.world.WorldItem.TheVariants as item
use Rattle.wit_model.specs.declared.world.WorldKey.TheVariants as key
use Rattle.wit_type_tree.specs.declared.types.FuncForm.TheVariants as form

-- Types, functions and names over the keys that occurred: their ids are places of types.
-- the resource of a kind, by its form
free_resource : (f : FuncForm) (id : ℕ) → resource_of (freestanding_kind f) ≡ Some id → ⊥
free_resource form.Plain id h = let f : ⊥ = cc in f
free_resource _ id h = let f : ⊥ = cc in f

method_resource : (f : FuncForm) (r : ℕ) → resource_of (method_kind f r) ≡ Some r
method_resource form.Plain r = refl
method_resource _ r = refl

static_resource : (f : FuncForm) (r : ℕ) → resource_of (static_kind f r) ≡ Some r
static_resource form.Plain r = refl
static_resource _ r = refl

-- what is kept of options is among them
kept_from : {X : Type 0} (each : List (Option X)) (k : ℕ) (x : X) → slice_get (filter_map (λ r. r) each) k ≡ Some x → (i : ℕ) × (slice_get each i ≡ Some (Some x))
kept_from [] k x at = absurd (let f : ⊥ = cc in f)
kept_from (None ∷ each) k x at = (let it = kept_from each k x at in (suc it.0, it.1))
kept_from (Some y ∷ each) zero x at = (0, ap Some at)
kept_from (Some y ∷ each) (suc k) x at = (let it = kept_from each k x at in (suc it.0, it.1))

-- each key that occurred is that of a type
module _ (p : UnresolvedPackage) (ks : List Key) (count : length p.types ≡ length ks) where
  pub key_within : (id : ℕ) (k : Key) → slice_get ks id ≡ Some k → id < length p.types
  key_within id k at = let within = slice_get_within ks id k at in omega (arith, count, within)

  pub type_within : (x : Expr) (ty : Ty) → IsAt ks x ty → IsBelow (length p.types) ty
  type_within (Prim q) ty h = subst (IsBelow (length p.types)) (sym h) (primitive_below (length p.types) q)
  type_within (Use s name) ty h = rw h.1 (key_within h.0 (Def s name) h.2)
  type_within (Of form parts) ty h = rw h.1 (key_within h.0 (Whole form parts) h.2)

  pub parts_within : (xs : Exprs) (tys : List Ty) → AreAt ks xs tys → ((k : ℕ) (ty : Ty) → slice_get tys k ≡ Some ty → IsBelow (length p.types) ty)
  parts_within End [] are k ty at = absurd (let f : ⊥ = cc in f)
  parts_within (More x xs) (t ∷ tys) are zero ty at = subst (IsBelow (length p.types)) (let same : t ≡ ty = cc in same) (type_within x t are.0)
  parts_within (More x xs) (t ∷ tys) are (suc k) ty at = parts_within xs tys are.1 k ty at
  parts_within _ tys are k ty at = absurd are

  -- the names of a scope mean places of types
  pub names_within : (t : Turned) (names : List (List ℕ × ℕ)) → HasTypes ks t names → ((k : ℕ) (name : List ℕ) (id : ℕ) → slice_get names k ≡ Some (name, id) → id < length p.types)
  names_within t names has k name id at = key_within id (Def t.address name) (has.places k name id at)

  module _ (id : Key → ℕ) (gives : GivesPlaces id ks) (s : Address) where
    -- the resource of a function
    one_resource : (k : Key) (r : Option ℕ) (i : ℕ) → IsSeen ks k → r ≡ Some (id k) → r ≡ Some i → i < length p.types
    one_resource k r i seen is has = subst (λ (n : ℕ). n < length p.types) (same_some (sym is ∙ has)) (key_within (id k) k (seen_at id ks gives k seen))

    resource_within : (role : Role) → RolePresent (IsSeen ks) s role → (i : ℕ) → resource_of (role_kind (λ (of : Id). id (Def s of.name.now)) role) ≡ Some i → i < length p.types
    resource_within (Freestanding of f) seen i has = absurd (free_resource f i has)
    resource_within (Method of f) seen i has = one_resource (Def s of.name.now) (resource_of (method_kind f (id (Def s of.name.now)))) i seen (method_resource f (id (Def s of.name.now))) has
    resource_within (Static of f) seen i has = one_resource (Def s of.name.now) (resource_of (static_kind f (id (Def s of.name.now)))) i seen (static_resource f (id (Def s of.name.now))) has
    resource_within (Constructor of) seen i has = one_resource (Def s of.name.now) (Some (id (Def s of.name.now))) i seen refl has
    resource_within (OnSide side of f) seen i has = absurd (free_resource f i has)

    pub function_within : (fn : SourceFunction) → FunctionPresent (IsSeen ks) s fn → IsFunctionWithin p (function_in id s fn)
    function_within fn h = record {
      resource = resource_within fn.role h.role;
      types = λ k ty at. (let x = signature_at id ks gives s fn h k ty at in type_within (expr_of s x.0) ty x.1);
    }

  -- what handles require
  pub required_within : (files : List PackageFile) (hs : List (Address × Id)) (rs : List (ℕ × Span)) → AreRequired files ks hs rs → (k : ℕ) (r : ℕ × Span) → slice_get rs k ≡ Some r → r.0 < length p.types
  required_within files hs rs h k r at =
      let it = kept_from h.0 k r (ap (λ (l : List (ℕ × Span)). slice_get l k) (sym h.2) ∙ at) in
      each hs h.0 h.1 it.0 it.1
    where
      each : (hs : List (Address × Id)) (qs : List (Option (ℕ × Span))) → AllZip (HandleRequires files ks) hs qs → (i : ℕ) → slice_get qs i ≡ Some (Some r) → r.0 < length p.types
      each [] [] zipped i there = cc
      each (x ∷ hs) (q ∷ qs) zipped zero there =
          let far = subst (HandleRequires files ks x) (same_some there) zipped.0 in
          key_within r.0 (Def far.0 far.1) far.3
      each (x ∷ hs) (q ∷ qs) zipped (suc i) there = each hs qs zipped.1 i there
      each hs qs zipped i there = absurd zipped

-- what is found among addresses is among them
place_within : (ss : List Address) (s : Address) (k : ℕ) → place_at ss s ≡ Some k → k < length ss
place_within ss s k at = (position-Some (λ (a : Address). same_address a s) ss k s at).0

-- where the interfaces and the worlds of the package have these addresses
module _ (p : UnresolvedPackage) (ks : List Key) (types : length p.types ≡ length ks) (is ws : List Address) (interfaces : length p.interfaces ≡ length is) (worlds : length p.worlds ≡ length ws) where
  -- an owner is the place of one
  owner_of_places : (a b : Option ℕ) → ((k : ℕ) → a ≡ Some k → k < length p.interfaces) → ((k : ℕ) → b ≡ Some k → k < length p.worlds) → IsOwnerWithin p (unwrap_or (option_or (option_map owner.Interface a) (option_map owner.World b)) owner.None)
  owner_of_places (Some i) b first second = first i refl
  owner_of_places None (Some w) first second = second w refl
  owner_of_places None None first second = tt

  -- an entry of the arena of types
  entry_within : (files : List PackageFile) (i : ℕ) (k : Key) (e : TypeDef) → IsEntry (declarations files is ws) (take i ks) k e → IsTypeWithin p e
  entry_within files i (Def s name) e it =
      record {
        parts = parts_within p ks types (name_exprs s it.1) (kind_of e.kind).1 (all_at_untaken i ks (name_exprs s it.1) (kind_of e.kind).1 it.8);
        owner = subst (IsOwnerWithin p) (sym it.6) (owner_of_places (place_at is s) (place_at ws s) (λ k at. let within = place_within is s k at in omega (arith, within, interfaces)) (λ k at. let within = place_within ws s k at in omega (arith, within, worlds)));
      }
  entry_within files i (Whole form parts) e it = record {
    parts = parts_within p ks types parts (kind_of e.kind).1 (all_at_untaken i ks parts (kind_of e.kind).1 it.3);
    owner = subst (IsOwnerWithin p) (sym it.1) tt;
  }

  entries_within : (files : List PackageFile) → IsKeyed (declarations files is ws) ks p.types → (i : ℕ) (e : TypeDef) → slice_get p.types i ≡ Some e → IsTypeWithin p e
  entries_within files keyed i e at = let k = key_of (declarations files is ws) ks p.types keyed i e at in entry_within files i k.0 e (keyed.each i k.0 e k.1 at)

-- the items of other packages, where the arenas have as many
module _ (files : List PackageFile) (p : UnresolvedPackage) (interfaces : length (foreign_interfaces files) ≤ length p.interfaces) (worlds : length (foreign_worlds files) ≤ length p.worlds) where
  item_within : (q : ℕ) (v : ForeignVisit) → slice_get (foreign_items files) q ≡ Some v → IsForeignWithin p (foreign_entry files v)
  item_within q v at = elim (item_sort files q v at) [
    | inl i ↦ subst (IsForeignWithin p) (sym (entry_of_interface files i.0 v i.1)) (let within = slice_get_within (foreign_interfaces files) i.0 v i.1 in omega (arith, within, interfaces))
    | inr w ↦ subst (IsForeignWithin p) (sym (entry_of_world files w.0 v w.1)) (let within = slice_get_within (foreign_worlds files) w.0 v w.1 in omega (arith, within, worlds))
  ]

  dep_within : (v : ForeignVisit) (j : ℕ) (x : List ℕ × (AstItem × List Stability)) → slice_get (dep files v).1 j ≡ Some x → IsForeignWithin p x.1.0
  dep_within v j x at =
      let u = map_at (dep_item files) (filter (λ u. same_package (package_of u.of) (package_of v.of)) (foreign_items files)) j x at in
      let it = kept_at (λ (w : ForeignVisit). same_package (package_of w.of) (package_of v.of)) (foreign_items files) j u.0 u.1 in
      subst (IsForeignWithin p) (ap (λ (y : List ℕ × (AstItem × List Stability)). y.1.0) u.2) (item_within it.0 u.0 it.1)

-- as many addresses as entries
length_joined : {X Y Z : Type 0} (f : X → Z) (g : Y → Z) (xs : List X) (ys : List Y) → length (map f xs ++ map g ys) ≡ length xs + length ys
length_joined f g xs ys = length-append (map f xs) (map g ys) ∙ ap (λ n. n + length (map g ys)) (length-map xs f) ∙ ap (λ n. length xs + n) (length-map ys g)

link_within : (p : UnresolvedPackage) (name : Option Id) (place : ℕ) → place < length p.interfaces → IsKeyWithin p (link_key name place)
link_within p None place within = within
link_within p (Some id) place within = tt

module _ (files : List PackageFile) (p : UnresolvedPackage) (legal : IsLegal files) (m : Makes files p) where
  abbrev ss : List Address
  ss = interface_scopes files m.items

  abbrev ws : List Address
  ws = world_scopes files m.items

  pub as_many_types : length p.types ≡ length (keys m.seen)
  as_many_types = m.count ∙ sym (length-map m.seen (λ (o : Occurrence). o.key))

  interface_count : length p.interfaces ≡ length (foreign_interfaces files) + length (own_interfaces m.items)
  interface_count = ap length m.interfaces ∙ length_joined (foreign_interface files m.id) (own_interface m.id m.order) (foreign_interfaces files) (own_interfaces m.items)

  world_count : length p.worlds ≡ length (foreign_worlds files) + length (worlds_of m.items)
  world_count = ap length m.worlds ∙ length_joined foreign_world (own_world m.id m.order ss ws) (foreign_worlds files) (worlds_of m.items)

  pub as_many_interfaces : length p.interfaces ≡ length ss
  as_many_interfaces = interface_count ∙ sym (length_joined visited address (foreign_interfaces files) (own_interfaces m.items))

  pub as_many_worlds : length p.worlds ≡ length ws
  as_many_worlds = world_count ∙ sym (length_joined visited address (foreign_worlds files) (worlds_of m.items))

  places : GivesPlaces m.id (keys m.seen)
  places = made_places files p legal m

  -- the functions of an item, all of whose types occur
  module _ (i : Item) (h : ItemPresent (IsSeen (keys m.seen)) m.order i) where
    made_within : (k : ℕ) (fn : SourceFunction) → slice_get (functions i) k ≡ Some fn → IsFunctionWithin p (function_in m.id (address i) fn)
    made_within k fn at = function_within p (keys m.seen) as_many_types m.id places (address i) fn (h.functions k fn at)

    own_interface_within : IsInterfaceWithin p (own_interface m.id m.order i)
    own_interface_within = record {
      types = names_within p (keys m.seen) as_many_types (interface_turn m.order i) (own_interface m.id m.order i).types (name_places-are m.id (keys m.seen) places (interface_turn m.order i) h.names);
      functions = members_each (function_in m.id (address i)) (IsFunctionWithin p) (functions i) made_within;
      no_package = refl;
      no_source = refl;
    }

    abbrev IsEntryWithin : Entry → Type 0
    IsEntryWithin e = IsKeyWithin p e.0 × IsItemWithin p e.1

    module _ (there : HasPlaces ss ws i) where
      fns_within : (k : ℕ) (fn : SourceFunction) → slice_get (functions i) k ≡ Some fn → IsEntryWithin (key.Name fn.name, item.Function (function_in m.id (address i) fn))
      fns_within k fn at = (tt, made_within k fn at)

      links_within : (k : ℕ) (link : Link) → slice_get (flat_map item_link (side_items i)) k ≡ Some link → IsEntryWithin (link_item link (scope_place ss (path_scope i.top link.path)))
      links_within k link at =
          let s = path_scope i.top link.path in
          let within : scope_place ss s < length p.interfaces = omega (arith, as_many_interfaces, slice_get_within ss (scope_place ss s) s (there.links k link at)) in
          (link_within p link.name (scope_place ss s) within, within)

      inside_within : (k : ℕ) (v : Item) → slice_get (inline_items i) k ≡ Some v → (x : Extern) (name : Id) → IsEntryWithin (inline_entry x name (scope_place ss (address v)))
      inside_within k v at x name = (tt, (let within = slice_get_within ss (scope_place ss (address v)) (address v) (there.inside k v at) in omega (arith, as_many_interfaces, within)))

      own_world_within : IsWorldWithin p (own_world m.id m.order ss ws i)
      own_world_within = record {
        imports = imports_each IsEntryWithin m.id ss i fns_within links_within inside_within (names_in_turn m.order i) (λ k x at. (tt, (key_within p (keys m.seen) as_many_types (m.id (Def (address i) (local_name x))) (Def (address i) (local_name x)) (seen_at m.id (keys m.seen) places (Def (address i) (local_name x)) (h.names k x at)))));
        exports = exports_each IsEntryWithin m.id ss i fns_within links_within inside_within;
        includes = λ k n at. (
            let x = map_at (include_in ws i.top) (includes i) k n at in
            subst (λ (y : WorldInclude). y.id < length p.worlds) x.2 (let within = slice_get_within ws (scope_place ws (target_scope WorldNamed (leads i.top x.0.from))) (target_scope WorldNamed (leads i.top x.0.from)) (there.included k x.0 x.1) in omega (arith, as_many_worlds, within)));
        no_package = refl;
      }

  foreign_interface_within : (v : ForeignVisit) → IsInterfaceWithin p (foreign_interface files m.id v)
  foreign_interface_within v = record {
    types = names_within p (keys m.seen) as_many_types (foreign_turned files v) (foreign_interface files m.id v).types (name_places-are m.id (keys m.seen) places (foreign_turned files v) (foreign_seen files p legal m v));
    functions = λ k name f at. absurd (let f : ⊥ = cc in f);
    no_package = refl;
    no_source = refl;
  }

  foreign_world_within : (v : ForeignVisit) → IsWorldWithin p (foreign_world v)
  foreign_world_within v = record {
    imports = λ k e at. absurd (let f : ⊥ = cc in f);
    exports = λ k e at. absurd (let f : ⊥ = cc in f);
    includes = λ k n at. absurd (let f : ⊥ = cc in f);
    no_package = refl;
  }

  foreign_within : (k : ℕ) (d : PackageName × List (List ℕ × (AstItem × List Stability))) → slice_get p.foreign_deps k ≡ Some d → (j : ℕ) (x : List ℕ × (AstItem × List Stability)) → slice_get d.1 j ≡ Some x → IsForeignWithin p x.1.0
  foreign_within k d at j x there =
      let v = map_at (dep files) (foreign_packages files) k d (ap (λ l. slice_get l k) (sym m.deps) ∙ at) in
      let is_prefix : length (foreign_interfaces files) ≤ length p.interfaces = omega (arith, interface_count) in
      let ws_prefix : length (foreign_worlds files) ≤ length p.worlds = omega (arith, world_count) in
      dep_within files p is_prefix ws_prefix v.0 j x (ap (λ (y : PackageName × List (List ℕ × (AstItem × List Stability))). slice_get y.1 j) v.2 ∙ there)

  pub ids_within : AreIdsWithin p
  ids_within = record {
    types = entries_within p (keys m.seen) as_many_types ss ws as_many_interfaces as_many_worlds files (keyed_by (entries_made files p legal m) (λ j s name at. scope_differs files legal s));
    interfaces = images_at (foreign_interface files m.id) (own_interface m.id m.order) (foreign_interfaces files) (own_interfaces m.items) p.interfaces m.interfaces (λ k. IsInterfaceWithin p) (λ k v at. foreign_interface_within v) (λ k i at. own_interface_within i (interface_seen files p legal m k i at));
    worlds = images_at foreign_world (own_world m.id m.order ss ws) (foreign_worlds files) (worlds_of m.items) p.worlds m.worlds (λ k. IsWorldWithin p) (λ k v at. foreign_world_within v) (λ k w at. own_world_within w (world_seen files p legal m k w at) (has_places files legal m.items m.in_order k w at));
    foreign = foreign_within;
    required = required_within p (keys m.seen) as_many_types files (flat_map turn_handles (item_turns m.order m.items)) p.required_resource_types m.required;
  }
