-- Where items are by their names and by their scopes.
use Rattle.std.proofs.Common.{◌≡◌, ℕ, zero, suc, ◌+◌, Bool, true, false, not, cond, List, [], ◌∷◌, ◌++◌, length, Option, Some, None, inl, inr, refl, sym, ap, ◌∙◌, subst, arith, get_or}
use Rattle.wit_arena.proofs.Names.{Address, AllDiffer, AreDeclared, Declared, ForeignNamed, InlineAt, InterfaceNamed, Item, PackageFile, TheInline, TheInterface, TheWorld, WorldNamed, about, address, addresses_differ, all_declared, all_items, all_scopes, at_split, bytes_eq, cases_Bool, cond-true, differ_join, filter, find_at, find_passes, flat_map, flat_map_at, functions, functions_at, inline_differ, inline_items, inside_one, interfaces_of, is_foreign, is_inside, is_world, item_at, item_name, item_named, kept_at, kept_differ, lt-ltb, map, map-append, map_at, nat_lt, none_if, not-true, option_map, option_map_or, option_or, owner_at, place_at, position, position-Some, prefix_len, same_address, same_address-equal, same_address-itself, scope, scope_item_at, scope_names, slice_get, slice_get-get_or, slice_get_within, unwrap_or, worlds_of, GivesPlaces, scope_place}
use Rattle.wit_types.specs.declared.types.TypeOwner.TheVariants as owner

-- the only one that passes comes after those that fail
pub prefix_len-only : {X : Type 0} (p : X → Bool) (xs : List X) (t : ℕ) (x : X) → slice_get xs t ≡ Some x → p x ≡ true → ((i : ℕ) (y : X) → slice_get xs i ≡ Some y → p y ≡ true → i ≡ t) → prefix_len (λ y. not (p y)) xs ≡ t
prefix_len-only p [] t x at pass only = absurd (let f : ⊥ = cc in f)
prefix_len-only p (y ∷ xs) zero x at pass only =
    let here : y ≡ x = cc in
    let hit : p y ≡ true = ap p here ∙ pass in
    rw hit refl
prefix_len-only p (y ∷ xs) (suc t) x at pass only = elim (cases_Bool (p y)) [
  | inl hit ↦ absurd (let first = only 0 y refl hit in let f : ⊥ = omega arith in f)
  | inr miss ↦ (
      let rest = prefix_len-only p xs t x at pass (λ i z zat h. (let both = only (suc i) z zat h in omega arith)) in
      let next : 1 + prefix_len (λ z. not (p z)) xs ≡ suc t = omega arith in
      rw miss next)
]

position-only : {X : Type 0} (p : X → Bool) (xs : List X) (t : ℕ) (x : X) → slice_get xs t ≡ Some x → p x ≡ true → ((i : ℕ) (y : X) → slice_get xs i ≡ Some y → p y ≡ true → i ≡ t) → position p xs ≡ Some t
position-only p xs t x at pass only =
    ap (λ n. cond (nat_lt n (length xs)) (Some n) None) (prefix_len-only p xs t x at pass only)
    ∙ cond-true (nat_lt t (length xs)) (Some t) None (lt-ltb t (length xs) (slice_get_within xs t x at))

-- items in an order, each the first of its name, and no two of one name
pub record AreItems (files : List PackageFile) (ws : List Item) : Type 0 where
  pub found : (t : ℕ) (w : Item) → slice_get ws t ≡ Some w → item_named (all_items files) (item_name w) ≡ Some w
  pub unique : AllDiffer (map item_name ws)

-- scopes in an order, each the one at its address, and no two at one address
pub record AreScopes (files : List PackageFile) (ws : List Item) : Type 0 where
  pub found : (t : ℕ) (w : Item) → slice_get ws t ≡ Some w → item_at (all_scopes files) (address w) ≡ Some w
  pub unique : AllDiffer (map address ws)

module _ (files : List PackageFile) (ws : List Item) (items : AreItems files ws) where
  -- such items are declared
  pub items_declared : AreDeclared ws
  items_declared t w at =
      let it = find_at (λ (i : Item). bytes_eq (item_name i) (item_name w)) (all_items files) w (items.found t w at) in
      all_declared files it.0 w it.1

  pub item_scopes : AreScopes files ws
  item_scopes = record {
    found = λ t w at. scope_item_at (all_items files) w 0 w (all_declared files) (items.found t w at) refl;
    unique = addresses_differ ws items_declared items.unique;
  }

  pub inline_scopes : AreScopes files (flat_map inline_items ws)
  inline_scopes = record {
    found = λ k i at. (
        let it = flat_map_at inline_items ws k i at in
        scope_item_at (all_items files) it.1 (suc it.3.0) i (all_declared files) (items.found it.0 it.1 it.2) it.3.1);
    unique = inline_differ ws items_declared items.unique;
  }

-- the address of a declared interface and what it is called, and the address of a world
declared_at_interface : (a : Declared) → is_inside (about a).address ≡ false → (about a).is_world ≡ false → (about a).address ≡ InterfaceNamed (about a).id.name.now
declared_at_interface (TheInterface i) own h = refl
declared_at_interface (TheWorld w) own h = absurd (let f : ⊥ = cc in f)
declared_at_interface (TheInline world place x name items) own h = absurd (let f : ⊥ = cc in f)

called_interface : (a : Declared) → is_inside (about a).address ≡ false → (about a).called ≡ Some (about a).id.name.now
called_interface (TheInterface i) own = refl
called_interface (TheWorld w) own = refl
called_interface (TheInline world place x name items) own = absurd (let f : ⊥ = cc in f)

declared_at_world : (a : Declared) → (about a).is_world ≡ true → (about a).address ≡ WorldNamed (about a).id.name.now
declared_at_world (TheInterface i) h = absurd (let f : ⊥ = cc in f)
declared_at_world (TheWorld w) h = refl
declared_at_world (TheInline world place x name items) h = absurd (let f : ⊥ = cc in f)

pub own_interface_address : (w : Item) → is_inside (address w) ≡ false → is_world w ≡ false → address w ≡ InterfaceNamed (item_name w)
own_interface_address w own h = declared_at_interface w.declared own h

module _ (files : List PackageFile) (ws : List Item) (items : AreItems files ws) (t : ℕ) (w : Item) (at : slice_get ws t ≡ Some w) where
  pub interface_address : is_world w ≡ false → address w ≡ InterfaceNamed (item_name w)
  interface_address h = own_interface_address w (items_declared files ws items t w at) h

  pub declared_called : (about w.declared).called ≡ Some (item_name w)
  declared_called = called_interface w.declared (items_declared files ws items t w at)

pub world_address : (w : Item) → is_world w ≡ true → address w ≡ WorldNamed (item_name w)
world_address w h = declared_at_world w.declared h

-- it is of no other package
pub own_declared : (a : Declared) → is_foreign (about a).address ≡ false
own_declared (TheInterface i) = refl
own_declared (TheWorld w) = refl
own_declared (TheInline world place x name items) = refl

pub own_address : (w : Item) → is_foreign (address w) ≡ false
own_address w = own_declared w.declared

-- all of these are worlds, or all are interfaces
pub record AreOfSort (world : Bool) (ws : List Item) : Type 0 where
  pub each : (t : ℕ) (w : Item) → slice_get ws t ≡ Some w → is_world w ≡ world

pub interfaces_sort : (ws : List Item) → AreOfSort false (interfaces_of ws)
interfaces_sort ws = record { each = λ t w at. (let it = kept_at (λ (i : Item). not (is_world i)) ws t w at in not-true (is_world w) it.2) }

pub worlds_sort : (ws : List Item) → AreOfSort true (worlds_of ws)
worlds_sort ws = record { each = λ t w at. (kept_at is_world ws t w at).2 }

-- items that are kept are items
pub items_kept : (files : List PackageFile) (test : Item → Bool) (ws : List Item) → AreItems files ws → AreItems files (filter test ws)
items_kept files test ws items = record {
  found = λ t w at. (let it = kept_at test ws t w at in items.found it.0 w it.1);
  unique = kept_differ item_name test ws items.unique;
}

-- no place among addresses, where none is the one
place_at-none : (ss : List Address) (s : Address) → ((i : ℕ) → slice_get ss i ≡ Some s → ⊥) → place_at ss s ≡ None
place_at-none ss s other = none_if (place_at ss s) (λ i some. (
    let it = position-Some (λ (a : Address). same_address a s) ss i s some in
    other i (slice_get-get_or ss i s it.0 ∙ ap Some (same_address-equal (get_or ss i s) s it.1))))

-- the place of one of them, where they differ
pub place_at-found : (ss : List Address) (s : Address) (t : ℕ) → AllDiffer ss → slice_get ss t ≡ Some s → place_at ss s ≡ Some t
place_at-found ss s t differ at = position-only (λ (a : Address). same_address a s) ss t s at (same_address-itself s) (λ i a iat same. differ.differ i t s (iat ∙ ap Some (same_address-equal a s same)) at)

-- the place of a scope among such as differ
pub scope_place-found : (ss : List Address) (s : Address) (i : ℕ) → AllDiffer ss → slice_get ss i ≡ Some s → scope_place ss s ≡ i
scope_place-found ss s i differ at = ap (λ (o : Option ℕ). unwrap_or o 0) (place_at-found ss s i differ at)

-- so each of them is where it is
pub scopes_placed : (ss : List Address) → AllDiffer ss → GivesPlaces (scope_place ss) ss
scopes_placed ss differ = record { at = λ i s at. scope_place-found ss s i differ at }

-- the package knows the interface at a place by that place
owner_of_interface : (is ws : List Address) (s : Address) (t : ℕ) → place_at is s ≡ Some t → owner_at is ws s ≡ owner.Interface t
owner_of_interface is ws s t at = ap (λ (o : Option ℕ). unwrap_or (option_or (option_map owner.Interface o) (option_map owner.World (place_at ws s))) owner.None) at

-- and the world at a place by that, where it is no interface
owner_of_world : (is ws : List Address) (s : Address) (t : ℕ) → place_at is s ≡ None → place_at ws s ≡ Some t → owner_at is ws s ≡ owner.World t
owner_of_world is ws s t none at = ap (λ (o : Option ℕ). unwrap_or (option_or (option_map owner.Interface o) (option_map owner.World (place_at ws s))) owner.None) none ∙ ap (λ (o : Option ℕ). unwrap_or (option_map owner.World o) owner.None) at

-- the addresses of interfaces and of worlds: no two of them are one
pub record AreAddresses (is ws : List Address) : Type 0 where
  pub interfaces : AllDiffer is
  pub worlds : AllDiffer ws
  pub apart : (i j : ℕ) (s : Address) → slice_get is i ≡ Some s → slice_get ws j ≡ Some s → ⊥

module _ (is ws : List Address) (addresses : AreAddresses is ws) where
  -- the package knows an interface by its place among the interfaces
  pub interface_owner_at : (t : ℕ) (s : Address) → slice_get is t ≡ Some s → owner_at is ws s ≡ owner.Interface t
  interface_owner_at t s at = owner_of_interface is ws s t (place_at-found is s t addresses.interfaces at)

  -- and a world by its place among the worlds
  pub world_owner_at : (t : ℕ) (s : Address) → slice_get ws t ≡ Some s → owner_at is ws s ≡ owner.World t
  world_owner_at t s at = owner_of_world is ws s t (place_at-none is s (λ i iat. addresses.apart i t s iat at)) (place_at-found ws s t addresses.worlds at)

-- the scope at the address of an item has its names
pub scope_at : (files : List PackageFile) (s : Address) (w : Item) → item_at (all_scopes files) s ≡ Some w → scope files s ≡ scope_names w
scope_at files (InterfaceNamed name) w found = ap (λ (o : Option Item). option_map_or scope_names o []) found
scope_at files (WorldNamed name) w found = ap (λ (o : Option Item). option_map_or scope_names o []) found
scope_at files (InlineAt world side place) w found = ap (λ (o : Option Item). option_map_or scope_names o []) found
scope_at files (ForeignNamed p name) w found = absurd (
    let same = same_address-equal (address w) (ForeignNamed p name) (find_passes (λ (i : Item). same_address (address i) (ForeignNamed p name)) (all_scopes files) w found) in
    let wrong : false ≡ true = sym (own_address w) ∙ ap is_foreign same in
    let f : ⊥ = cc in
    f)

module _ (files : List PackageFile) (ws : List Item) (scopes : AreScopes files ws) where
  -- the item at the address of one is the one
  pub item_of_scope : (t : ℕ) (w : Item) → slice_get ws t ≡ Some w → item_at (all_scopes files) (address w) ≡ Some w
  item_of_scope t w at = scopes.found t w at

  -- the scope of an item has its names
  pub scope_of : (t : ℕ) (w : Item) → slice_get ws t ≡ Some w → scope files (address w) ≡ scope_names w
  scope_of t w at = scope_at files (address w) w (item_of_scope t w at)

  -- and its functions
  pub functions_of : (t : ℕ) (w : Item) → slice_get ws t ≡ Some w → functions_at files (address w) ≡ functions w
  functions_of t w at = ap (λ (o : Option Item). option_map_or functions o []) (item_of_scope t w at)

-- the addresses of interfaces, those that are written in worlds after the declared ones, and of worlds
pub scope_addresses : (files : List PackageFile) (is ws : List Item) → AreOfSort false is → AreOfSort true ws → AreItems files is → AreItems files ws → AreAddresses (map address (is ++ flat_map inline_items ws)) (map address ws)
scope_addresses files is ws interfaces worlds a b =
    let inside = flat_map inline_items ws in
    record {
      interfaces = subst (λ (l : List Address). AllDiffer l) (sym (map-append address is inside)) (differ_join (map address is) (map address inside) (item_scopes files is a).unique (inline_scopes files ws b).unique (λ i j s ati atj. (
          let v = map_at address is i s ati in
          let w = map_at address inside j s atj in
          never_inside v.0 w.0 (items_declared files is a i v.0 v.1) (inside_one ws j w.0 w.1) (v.2 ∙ sym w.2))));
      worlds = (item_scopes files ws b).unique;
      apart = λ i j s ati atj. (
          let v = map_at address (is ++ inside) i s ati in
          let w = map_at address ws j s atj in
          elim (at_split is inside i v.0 v.1) [
            | inl own ↦ (
                let wrong : InterfaceNamed (item_name v.0) ≡ WorldNamed (item_name w.0) = sym (interface_address files is a i v.0 own (interfaces.each i v.0 own)) ∙ v.2 ∙ sym w.2 ∙ world_address w.0 (worlds.each j w.0 w.1) in
                let f : ⊥ = cc in
                f)
            | inr rest_after ↦ never_inside w.0 v.0 (items_declared files ws b j w.0 w.1) (inside_one ws rest_after.0 v.0 rest_after.2) (w.2 ∙ sym v.2)
          ]);
    }
  where
    never_inside : (v w : Item) → is_inside (address v) ≡ false → is_inside (address w) ≡ true → address v ≡ address w → ⊥
    never_inside v w own inside same = let wrong : false ≡ true = sym own ∙ ap is_inside same ∙ inside in let f : ⊥ = cc in f
