-- The scopes of a package: each has its names in turn and its functions, and the package knows it by an owner.
use Rattle.std.proofs.Common.{◌≡◌, ℕ, List, Some, refl, sym, ap, ◌+◌, true, false, [], ◌∷◌, length, Option, None, ◌∙◌}
use Rattle.wit_items.proofs.Common.{Address, AllDiffer, AreFunctions, DoneScope, ForeignVisit, HasTypes, Interface, IsDoneScope, IsForeignInterface, IsLegal, IsResolvedInterface, Key, Makes, PackageFile, TypeOwner, UnresolvedPackage, World, WorldNamed, address, by_name, differ_none, foreign_interface, foreign_interface_owner, foreign_interfaces, foreign_turned, foreign_world, foreign_world_owner, foreign_worlds, function_in, function_key, functions, functions_apart, functions_are, functions_imported, functions_of, inline_owner, interface_functions, interface_owner_at, interface_scope, interface_scopes, is_label, is_world, keys, laid_scope, map, map_map, named_interface, named_world, names_of, no_functions, option_and_then, option_map_or, option_or, own_interface, own_interfaces, own_world, owner_at, owner_of, placed, prefix_interface_done, prefix_world_done, slice_get, turn_is, turn_of, turned, uses_lead, visited, world_functions, world_owner_at, world_scope, world_scopes, world_types, worlds_of}
use Rattle.wit_arena.proofs.Common.{Item}
use Rattle.wit_parser.proofs.PartsOrders.{foreign_seen, interface_seen, ord, interface_item, interface_listed, no_two}
use Rattle.wit_parser.proofs.PartsTurns.{functions_in-are, name_places-are}
use Rattle.wit_parser.proofs.PartsSeen.{made_places}
use Rattle.wit_types.specs.declared.types.TypeOwner.TheVariants as owner
use Rattle.wit_arena.proofs.Settled.{stated_placed}
use Rattle.wit_parser.proofs.Images.{first_at, second_at}

module _ (files : List PackageFile) (p : UnresolvedPackage) (legal : IsLegal files) (m : Makes files p) where
  pub foreign_interface-is : (v : ForeignVisit) → IsForeignInterface files (keys m.seen) v (foreign_interface files m.id v)
  foreign_interface-is v = (refl, name_places-are m.id (keys m.seen) (made_places files p legal m) (foreign_turned files v) (foreign_seen files p legal m v), refl)

  pub own_interface-is : (k : ℕ) (i : Item) → slice_get (own_interfaces m.items) k ≡ Some i → IsResolvedInterface (keys m.seen) (ord files p legal m i) (own_interface m.id m.order i)
  own_interface-is k i at =
      let places = made_places files p legal m in
      let it = interface_seen files p legal m k i at in
      let fns = functions i in
      record {
        says = refl;
        types = name_places-are m.id (keys m.seen) places (turned (ord files p legal m i)) it.names;
        functions = (map (function_in m.id (address i)) fns, functions_in-are m.id (keys m.seen) places (address i) fns it.functions, ap (placed Some) (sym (map_map by_name (function_in m.id (address i)) fns)));
      }

-- a scope that is done, and that the package knows by its owner, where the interfaces have these addresses and the worlds those
pub record IsKnown (files : List PackageFile) (p : UnresolvedPackage) (ks : List Key) (interfaces worlds : List Address) (c : DoneScope) : Type 0 where
  pub done : IsDoneScope files c
  pub whose : owner_at interfaces worlds c.address ≡ c.owner
  pub types : HasTypes ks (turn_of c) c.types
  pub made : AreFunctions ks c.address c.functions c.made
  pub apart : AllDiffer (map function_key c.functions)
  pub called : owner_of p c.owner ≡ Some c.address
  pub names : names_of p c.owner ≡ c.types
  pub stated : functions_of p c.owner ≡ c.stated

-- the scope at an address, which the package knows by this owner
pub record HasScope (files : List PackageFile) (p : UnresolvedPackage) (ks : List Key) (interfaces worlds : List Address) (o : TypeOwner) (s : Address) : Type 0 where
  pub scope : DoneScope
  pub address : scope.address ≡ s
  pub owner : scope.owner ≡ o
  pub known : IsKnown files p ks interfaces worlds scope

-- a name that is a label is a world's own
pub named_world-label : (p : UnresolvedPackage) (place : ℕ) (name : List ℕ) → is_label name ≡ true → named_world p place name ≡ Some (WorldNamed name)
named_world-label p place [] h = absurd (let f : ⊥ = cc in f)
named_world-label p place (c ∷ cs) h = refl

-- an interface of a package, and a world, by its place
module _ (p : UnresolvedPackage) (t : ℕ) where
  pub interface_owner : (i : Interface) (name : Option (List ℕ)) → slice_get p.interfaces t ≡ Some i → i.name ≡ name → owner_of p (owner.Interface t) ≡ named_interface p t name
  interface_owner i name at is = ap (λ (o : Option Interface). option_and_then (λ (x : Interface). named_interface p t x.name) o) at ∙ ap (named_interface p t) is

  pub world_owner : (w : World) (name : List ℕ) → slice_get p.worlds t ≡ Some w → w.name ≡ name → owner_of p (owner.World t) ≡ named_world p t name
  world_owner w name at is = ap (λ (o : Option World). option_and_then (λ (x : World). named_world p t x.name) o) at ∙ ap (named_world p t) is

module _ (files : List PackageFile) (p : UnresolvedPackage) (legal : IsLegal files) (m : Makes files p) where
  abbrev interfaces : List Address
  interfaces = interface_scopes files m.items

  abbrev worlds : List Address
  worlds = world_scopes files m.items

  abbrev ss : List Address
  ss = map visited (foreign_interfaces files)

  abbrev Known : DoneScope → Type 0
  Known c = IsKnown files p (keys m.seen) interfaces worlds c

  abbrev Has : TypeOwner → Address → Type 0
  Has o s = HasScope files p (keys m.seen) interfaces worlds o s

  -- the entries of the files come after those of other packages
  pub own_interface_at : (k : ℕ) (i : Item) → slice_get (own_interfaces m.items) k ≡ Some i → slice_get p.interfaces (length ss + k) ≡ Some (own_interface m.id m.order i)
  own_interface_at = second_at (foreign_interface files m.id) (own_interface m.id m.order) (foreign_interfaces files) (own_interfaces m.items) p.interfaces m.interfaces visited

  pub own_world_at : (k : ℕ) (w : Item) → slice_get (worlds_of m.items) k ≡ Some w → slice_get p.worlds (length (map visited (foreign_worlds files)) + k) ≡ Some (own_world m.id m.order interfaces worlds w)
  own_world_at = second_at foreign_world (own_world m.id m.order interfaces worlds) (foreign_worlds files) (worlds_of m.items) p.worlds m.worlds visited

  -- the scope of an interface of another package, and of a world
  pub foreign_interface_known : (t : ℕ) (v : ForeignVisit) → slice_get (foreign_interfaces files) t ≡ Some v → Known (interface_scope files t v (foreign_interface files m.id v))
  foreign_interface_known t v at =
      let i = foreign_interface files m.id v in
      let is = foreign_interface-is files p legal m v in
      let present = first_at visited address (foreign_interfaces files) (own_interfaces m.items) interfaces refl t v at in
      let here = first_at (foreign_interface files m.id) (own_interface m.id m.order) (foreign_interfaces files) (own_interfaces m.items) p.interfaces m.interfaces t v at in
      record {
        done = prefix_interface_done files (keys m.seen) t v i is;
        whose = interface_owner_at interfaces worlds (no_two files p legal m) t (visited v) present;
        types = is.1;
        made = no_functions (keys m.seen) (visited v);
        apart = differ_none;
        called = interface_owner p t i None here refl ∙ ap (λ (x : Option Address). option_or x (inline_owner p t)) (foreign_interface_owner files p m.deps t v at);
        names = ap (λ (o : Option Interface). option_map_or (λ (x : Interface). x.types) o []) here;
        stated = ap (λ (o : Option Interface). option_map_or interface_functions o []) here;
      }

  pub foreign_world_known : (t : ℕ) (v : ForeignVisit) → slice_get (foreign_worlds files) t ≡ Some v → Known (world_scope t v)
  foreign_world_known t v at =
      let w = foreign_world v in
      let present = first_at visited address (foreign_worlds files) (worlds_of m.items) worlds refl t v at in
      let here = first_at foreign_world (own_world m.id m.order interfaces worlds) (foreign_worlds files) (worlds_of m.items) p.worlds m.worlds t v at in
      record {
        done = prefix_world_done files (uses_lead files legal) t v at;
        whose = world_owner_at interfaces worlds (no_two files p legal m) t (visited v) present;
        types = record { names = refl; places = λ k name id k_at. absurd (let f : ⊥ = cc in f) };
        made = no_functions (keys m.seen) (visited v);
        apart = differ_none;
        called = world_owner p t w [] here refl ∙ foreign_world_owner files p m.deps t v at;
        names = ap (λ (o : Option World). option_map_or world_types o []) here;
        stated = ap (λ (o : Option World). option_map_or world_functions o []) here;
      }

  -- the scope of an interface of the files, where the package calls it by its address
  pub own_interface_known : (k : ℕ) (i : Item) → slice_get (own_interfaces m.items) k ≡ Some i → is_world i ≡ false → owner_of p (owner.Interface (length ss + k)) ≡ Some (address i) → Has (owner.Interface (length ss + k)) (address i)
  own_interface_known k i at sort called =
      let o = ord files p legal m i in
      let x = own_interface m.id m.order i in
      let is = own_interface-is files p legal m k i at in
      let here = own_interface_at k i at in
      let it = interface_item files p legal m k i at in
      record {
        scope = laid_scope (owner.Interface (length ss + k)) o x.types is.functions.0 (interface_functions x) [];
        address = refl;
        owner = refl;
        known = record {
          done = record { turn = turn_is files legal o it; listed = is.types.names; functions = sym (functions_are files legal o it); stated = stated_placed (functions i) is.functions.0 x (functions_imported i sort) is.functions.2 };
          whose = interface_owner_at interfaces worlds (no_two files p legal m) (length ss + k) (address i) (interface_listed files p legal m k i at);
          types = is.types;
          made = is.functions.1;
          apart = functions_apart files legal o it;
          called = called;
          names = ap (λ (o : Option Interface). option_map_or (λ (x : Interface). x.types) o []) here;
          stated = ap (λ (o : Option Interface). option_map_or interface_functions o []) here;
        };
      }
