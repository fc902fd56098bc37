-- Interfaces that were added are done.
use Rattle.std.proofs.Common.{◌≡◌, ℕ, ◌+◌, true, false, List, [], ◌∷◌, ◌++◌, length, map, Option, Some, inl, inr, refl, sym, ap, ◌∙◌, subst, append_assoc, length-append, suc, ◌⊎◌}
use Rattle.wit_arena.proofs.Names.{Address, AddsForeign, Decls, Imported, Interface, InterfaceNamed, Item, Names, Occurrence, PackageFile, Required, ResolvedScope, ScopeName, TypeDef, TypeOwner, World, address, all_items, all_occurrences, append-nil, at_back, at_part, at_prefix, declarations, flat_map, foreign_interfaces, foreign_use_occurrence, foreign_uses, foreign_worlds, functions, in_turn, inline_items, interface_functions, is_foreign, length-map, map-append, option_map, owner_at, resolved_scope, resolved_scopes, scope, scope_names, slice_get, slice_get-map, unwrap_or, visited, AreRequired, Function, FunctionKey, Id, Turned, WorldItem, WorldKey, WorldNamed, after_one, all_handles, at_split, flat_map-append, flat_map_at, flat_map_has, import_types, keys, local_names, name_types, side_items, turn_handles, turn_occurrences, type_imports, world_functions, world_types, «Type» as Written, AddsInterface, GivesPlaces, IsOrder, Key, all_types, at_seam, own_interface, own_world, rows_of, scope_place}
use Rattle.wit_arena.proofs.FreeNames.{free_of, free_keyed}
use Rattle.wit_arena.proofs.Settled.{world_types-all}
use Rattle.wit_arena.proofs.Ordered.{Ordered, all_turns, in_its_order, item_order, item_order_is, item_turn, turned, world_turns}
use Rattle.wit_arena.proofs.Members.{turns_on_sides}
use Rattle.wit_arena.proofs.Indexing.{resolved_scopes-append}
use Rattle.wit_arena.proofs.Resolving.{DoneScope, resolved_scope_of, IsDone, IsTurn, done_as, turn_of}
use Rattle.wit_arena.proofs.Interfaces.{AreItems, AreOfSort, AreAddresses, item_scopes, interface_address, declared_called, own_address, interface_owner_at, world_owner_at, scope_addresses, scope_of}
use Rattle.wit_arena.proofs.Visits.{AreUsableUses, visited_addresses, addresses_join, visited_foreign, address_own}
use Rattle.wit_arena.proofs.Prefix.{interface_scopes, world_scopes, prefix_scopes, resolved_scopes-interface_scopes, prefix_at, prefix_done, interfaces_count, worlds_count, PrefixInterface, PrefixWorld}
use Rattle.wit_arena.proofs.ScopesInTurn.{AreLaid, in_turn_is, laid_more, laid_none, laid_scope, more_occurrences, none_is_next, turned_handles}
use Rattle.wit_arena.proofs.Required.{in_scope, required_append, required_extended, required_none}
use Rattle.wit_arena.proofs.Turns.{names_turn, occurrences, all_name_occurrences}
use Rattle.wit_arena.proofs.OneKind.{Extended}
use Rattle.wit_arena.proofs.DoneNames.{are_known, are_new, are_owned, none_named, required_there, scope_done, seen_in_turn}
use Rattle.wit_arena.proofs.Occurrence.{collects_extended}
use Rattle.wit_arena.proofs.Placing.{gives_fewer}
use Rattle.wit_arena.proofs.PlacingFunctions.{types_present}
use Rattle.wit_types.specs.declared.types.TypeOwner.TheVariants as owner
use Rattle.wit_syntax.specs.Source as source

-- The first of some interfaces are done after others: over the places of what occurred these are they, and this is what their handles require.
pub record AreInterfacesDone (files : List PackageFile) (decls : Decls) (first : List DoneScope) (is us : List Item) (es : List TypeDef) (xs : List Interface) (rs : List Required) : Type 0 where
  pub scopes : List DoneScope
  pub laid : AreLaid files resolved_scope is us xs scopes
  pub done : IsDone files decls (all_occurrences files (map (item_turn files) us)) (first ++ scopes) es
  pub made : (id : Key → ℕ) → GivesPlaces id (keys done.seen) → xs ≡ map (own_interface id (item_order files)) us
  pub required : AreRequired files (keys done.seen) (flat_map turn_handles (map (item_turn files) us)) rs

-- an interface that comes next is done, at a scope
pub record IsNextDone (files : List PackageFile) (decls : Decls) (written : List Occurrence) (cs : List DoneScope) (before : List Key) (new : List TypeDef) (added : Interface) (rs : List Required) (o : Ordered) : Type 0 where
  pub scope : DoneScope
  pub least : IsOrder (rows_of (scope_names o.item)) o.order
  pub turn : turn_of scope ≡ turned o
  pub is : resolved_scope_of scope ≡ record { address = address o.item; types = added.types; functions = free_of (interface_functions added) }
  pub done : IsDone files decls (written ++ turn_occurrences (turned o)) (cs ++ scope ∷ []) new
  pub extended : Extended before (keys done.seen)
  pub made : (id : Key → ℕ) → GivesPlaces id (keys done.seen) → added ≡ own_interface id (λ i. o.order) o.item
  pub required : AreRequired files (keys done.seen) (turn_handles (turned o)) rs

-- so is one that is at no address of those that are done, once it was added
next_at : (files : List PackageFile) (decls : Decls) (written : List Occurrence) (cs : List DoneScope) (old : List TypeDef) (d : IsDone files decls written cs old) (known : List ResolvedScope) → ((t : ℕ) (c : ResolvedScope) → slice_get known t ≡ Some c → (j : ℕ) × (slice_get (map resolved_scope_of cs) j ≡ Some c)) → (place : ℕ) (new : List TypeDef) (added : Interface) (rs : List Required) (w : Item) → ((t : ℕ) (b : DoneScope) → slice_get cs t ≡ Some b → b.address ≡ address w → ⊥) → decls (address w) ≡ (scope files (address w), owner.Interface place) → scope files (address w) ≡ scope_names w → (a : AddsInterface known place old new added rs w) → IsNextDone files decls written cs (keys d.seen) new added rs (record { item = w; order = a.order })
next_at files decls written cs old d known among place new added rs w fresh own has a =
    let s = address w in
    let o : Ordered = record { item = w; order = a.order } in
    let names = in_turn (scope_names w) a.order in
    let turn : IsTurn (scope files s) names = subst (λ (l : List ScopeName). IsTurn l names) (sym has) (in_turn_is (scope_names w) a.order a.least a.distinct) in
    let whose = owner.Interface place in
    let x = a.from decls d.seen (are_owned files decls written cs old d s whose names fresh own turn) (are_new files decls written cs old d s whose names fresh own turn) (are_known files decls written cs old d s whose names fresh own turn known among) d.occurrence (none_named files decls written cs old d s whose names fresh own turn) in
    let c = laid_scope whose o added.types [] (interface_functions added) [] in
    let listed = (types_present (keys x.now) x.occurrence.once (turned o) added.types (λ id gives. ap (λ (i : Interface). i.types) (x.holds.1 id gives))).names in
    let done = scope_done files decls written cs old d s whose names fresh own turn new c refl refl refl (turn_occurrences (turned o)) (seen_in_turn s names (functions w)) x x.holds.0 listed in
    record {
      scope = c;
      least = a.least;
      turn = refl;
      is = refl;
      done = done;
      extended = collects_extended (turn_occurrences (turned o)) d.seen x.now x.collects;
      made = x.holds.1;
      required = required_there files decls (written ++ turn_occurrences (turned o)) (cs ++ c ∷ []) new done (length cs) c (at_seam cs c) (all_handles (all_types names (functions w))) rs a.ended;
    }

-- so it is in its order
pub next_scope : (files : List PackageFile) (decls : Decls) (written : List Occurrence) (cs : List DoneScope) (old : List TypeDef) (d : IsDone files decls written cs old) (known : List ResolvedScope) → ((t : ℕ) (c : ResolvedScope) → slice_get known t ≡ Some c → (j : ℕ) × (slice_get (map resolved_scope_of cs) j ≡ Some c)) → (place : ℕ) (new : List TypeDef) (added : Interface) (rs : List Required) (w : Item) → ((t : ℕ) (b : DoneScope) → slice_get cs t ≡ Some b → b.address ≡ address w → ⊥) → decls (address w) ≡ (scope files (address w), owner.Interface place) → scope files (address w) ≡ scope_names w → (a : AddsInterface known place old new added rs w) → IsNextDone files decls written cs (keys d.seen) new added rs (in_its_order files w)
next_scope files decls written cs old d known among place new added rs w fresh own has a = subst (λ (l : List ℕ). IsNextDone files decls written cs (keys d.seen) new added rs (record { item = w; order = l })) (sym (item_order_is files w a.order has a.least)) (next_at files decls written cs old d known among place new added rs w fresh own has a)

abbrev called_resolved_scope : Names → List (List ℕ) → Option (List ℕ) → ResolvedScope
called_resolved_scope types names name = record { address = InterfaceNamed (unwrap_or name []); types = types; functions = names }

-- the interfaces that are written in worlds
abbrev pub inside_of : List Item → List Item
inside_of ws = flat_map inline_items ws

-- the addresses of interfaces, after those of other packages, and after them of those that are written in worlds, and of worlds
abbrev pub interface_list : List PackageFile → List Item → List Item → List Address
interface_list files is inside = map visited (foreign_interfaces files) ++ map address (is ++ inside)

abbrev pub world_list : List PackageFile → List Item → List Address
world_list files ws = map visited (foreign_worlds files) ++ map address ws

-- whom the package knows by the place of an interface, or a world, after those of other packages
abbrev pub InterfaceOwner : List PackageFile → ℕ → TypeOwner
InterfaceOwner files t = owner.Interface (length (map visited (foreign_interfaces files)) + t)

abbrev pub WorldOwner : List PackageFile → ℕ → TypeOwner
WorldOwner files t = owner.World (length (map visited (foreign_worlds files)) + t)

-- the declarations of scopes
abbrev pub decls : List PackageFile → List Item → List Item → Decls
decls files is ws = declarations files (interface_list files is (inside_of ws)) (world_list files ws)

-- the declarations of a scope that the package knows by an owner
declared_by : (files : List PackageFile) (is ws : List Item) (s : Address) (o : TypeOwner) → owner_at (interface_list files is (inside_of ws)) (world_list files ws) s ≡ o → decls files is ws s ≡ (scope files s, o)
declared_by files is ws s o known = ap (λ (x : TypeOwner). (scope files s, x)) known

module _ (files : List PackageFile) (is ws : List Item) where
  -- the first interfaces are done, after these of other packages
  abbrev pub InterfacesDone : List Interface → List Item → List TypeDef → List Interface → List Required → Type 0
  InterfacesDone prefix us es xs rs = AreInterfacesDone files (decls files is ws) (prefix_scopes files prefix) is us es xs rs

  module _ (interfaces : AreOfSort false is) (worlds : AreOfSort true ws) (is_items : AreItems files is) (ws_items : AreItems files ws) where
    -- no two addresses are one
    pub all_addresses : AreAddresses (interface_list files is (inside_of ws)) (world_list files ws)
    all_addresses = addresses_join (map visited (foreign_interfaces files)) (map visited (foreign_worlds files)) (map address (is ++ inside_of ws)) (map address ws) (visited_addresses files) (scope_addresses files is ws interfaces worlds is_items ws_items) (visited_foreign (foreign_interfaces files)) (visited_foreign (foreign_worlds files)) (address_own (is ++ inside_of ws)) (address_own ws)

    pub interface_declared : (t : ℕ) (s : Address) → slice_get (interface_list files is (inside_of ws)) t ≡ Some s → decls files is ws s ≡ (scope files s, (owner.Interface t))
    interface_declared t s at = declared_by files is ws s (owner.Interface t) (interface_owner_at (interface_list files is (inside_of ws)) (world_list files ws) all_addresses t s at)

    pub world_declared : (t : ℕ) (s : Address) → slice_get (world_list files ws) t ≡ Some s → decls files is ws s ≡ (scope files s, (owner.World t))
    world_declared t s at = declared_by files is ws s (owner.World t) (world_owner_at (interface_list files is (inside_of ws)) (world_list files ws) all_addresses t s at)

    -- the items of the package come after those of others, those that are written in worlds after the declared ones
    listed_item : (t : ℕ) (w : Item) → slice_get (is ++ inside_of ws) t ≡ Some w → slice_get (interface_list files is (inside_of ws)) (length (map visited (foreign_interfaces files)) + t) ≡ Some (address w)
    listed_item t w at = at_back (map visited (foreign_interfaces files)) (map address (is ++ inside_of ws)) t (address w) (slice_get-map address (is ++ inside_of ws) t ∙ ap (option_map address) at)

    pub item_declared : (t : ℕ) (w : Item) → slice_get is t ≡ Some w → decls files is ws (address w) ≡ (scope files (address w), (InterfaceOwner files t))
    item_declared t w at = interface_declared (length (map visited (foreign_interfaces files)) + t) (address w) (listed_item t w (at_prefix is (inside_of ws) t w at))

    pub inline_declared : (k : ℕ) (i : Item) → slice_get (inside_of ws) k ≡ Some i → decls files is ws (address i) ≡ (scope files (address i), (InterfaceOwner files (length is + k)))
    inline_declared k i at = interface_declared (length (map visited (foreign_interfaces files)) + (length is + k)) (address i) (listed_item (length is + k) i (at_back is (inside_of ws) k i at))

    pub world_item_declared : (t : ℕ) (w : Item) → slice_get ws t ≡ Some w → decls files is ws (address w) ≡ (scope files (address w), (WorldOwner files t))
    world_item_declared t w at = world_declared (length (map visited (foreign_worlds files)) + t) (address w) (at_back (map visited (foreign_worlds files)) (map address ws) t (address w) (slice_get-map address ws t ∙ ap (option_map address) at))

    module _ (uses : AreUsableUses files (all_items files)) (es : List TypeDef) (prefix : List Interface) (wprefix : List World) (foreign : AddsForeign files es prefix wprefix) where
      -- what other packages put in front is done
      pub foreign_done : IsDone files (decls files is ws) (all_occurrences files []) (prefix_scopes files prefix) es
      foreign_done = subst (λ (ms : List Occurrence). IsDone files (decls files is ws) ms (prefix_scopes files prefix) es) (sym (append-nil (map foreign_use_occurrence (foreign_uses files)))) (prefix_done files uses es prefix wprefix foreign (decls files is ws) (λ i v at. interface_declared i (visited v) (at_prefix (map visited (foreign_interfaces files)) (map address (is ++ inside_of ws)) i (visited v) (slice_get-map visited (foreign_interfaces files) i ∙ ap (option_map visited) at))) (λ i v at. world_declared i (visited v) (at_prefix (map visited (foreign_worlds files)) (map address ws) i (visited v) (slice_get-map visited (foreign_worlds files) i ∙ ap (option_map visited) at))))

      -- no scope in front is that of an item
      pub prefix_apart : (w : Item) (k : ℕ) (c : DoneScope) → slice_get (prefix_scopes files prefix) k ≡ Some c → c.address ≡ address w → ⊥
      prefix_apart w k c at same =
          let foreign_is : is_foreign c.address ≡ true = elim (prefix_at files prefix (interfaces_count foreign) k c at) [
            | PrefixInterface i v x v_at x_at is ↦ ap (λ (b : DoneScope). is_foreign b.address) is
            | PrefixWorld i v v_at is ↦ ap (λ (b : DoneScope). is_foreign b.address) is
          ] in
          let wrong : false ≡ true = sym (own_address w) ∙ ap is_foreign (sym same) ∙ foreign_is in
          let f : ⊥ = cc in
          f

      -- the resolved scopes of interfaces are among the scopes that are done
      pub resolved_scopes_among : (xs : List Interface) (cs : List DoneScope) → map resolved_scope_of cs ≡ map resolved_scope xs → (t : ℕ) (c : ResolvedScope) → slice_get (resolved_scopes (map visited (foreign_interfaces files)) (prefix ++ xs)) t ≡ Some c → (j : ℕ) × (slice_get (map resolved_scope_of (prefix_scopes files prefix ++ cs)) j ≡ Some c)
      resolved_scopes_among xs cs same t c at =
          let vs = foreign_interfaces files in
          let ahead = interface_scopes files 0 vs prefix in
          let between = world_scopes 0 (foreign_worlds files) in
          let count = interfaces_count foreign in
          let whole : map resolved_scope_of (prefix_scopes files prefix ++ cs) ≡ map resolved_scope_of (prefix_scopes files prefix) ++ map resolved_scope_of cs = map-append resolved_scope_of (prefix_scopes files prefix) cs in
          let fore : map resolved_scope_of (prefix_scopes files prefix) ≡ map resolved_scope_of ahead ++ map resolved_scope_of between = map-append resolved_scope_of ahead between in
          elim (at_part (resolved_scopes (map visited vs) prefix) (map resolved_scope xs) t c (ap (λ (l : List ResolvedScope). slice_get l t) (sym (resolved_scopes-append (map visited vs) prefix xs (count ∙ sym (length-map vs visited)))) ∙ at)) [
            | inl h ↦ (h.0, ap (λ (l : List ResolvedScope). slice_get l h.0) whole ∙ at_prefix (map resolved_scope_of (prefix_scopes files prefix)) (map resolved_scope_of cs) h.0 c (ap (λ (l : List ResolvedScope). slice_get l h.0) fore ∙ at_prefix (map resolved_scope_of ahead) (map resolved_scope_of between) h.0 c (ap (λ (l : List ResolvedScope). slice_get l h.0) (resolved_scopes-interface_scopes files 0 vs prefix count) ∙ h.1)))
            | inr h ↦ (length (map resolved_scope_of (prefix_scopes files prefix)) + h.0, ap (λ (l : List ResolvedScope). slice_get l (length (map resolved_scope_of (prefix_scopes files prefix)) + h.0)) whole ∙ at_back (map resolved_scope_of (prefix_scopes files prefix)) (map resolved_scope_of cs) h.0 c (ap (λ (l : List ResolvedScope). slice_get l h.0) same ∙ h.1))
          ]

      -- whom the next one's place means
      pub next_interface : (xs : List Interface) → owner.Interface (length (prefix ++ xs)) ≡ InterfaceOwner files (length xs)
      next_interface xs = ap owner.Interface (length-append prefix xs ∙ ap (λ n. n + length xs) (interfaces_count foreign ∙ sym (length-map (foreign_interfaces files) visited)))

      pub next_world : (xs : List World) → owner.World (length (wprefix ++ xs)) ≡ WorldOwner files (length xs)
      next_world xs = ap owner.World (length-append wprefix xs ∙ ap (λ n. n + length xs) (worlds_count foreign ∙ sym (length-map (foreign_worlds files) visited)))

      module _ (us : List Item) (old : List TypeDef) (xs : List Interface) (qs : List Required) (w : Item) (there : slice_get is (length us) ≡ Some w) (d : InterfacesDone prefix us old xs qs) where
        abbrev names_before : List DoneScope
        names_before = prefix_scopes files prefix ++ d.scopes

        -- an interface that comes next is at no address of those that are done
        pub interface_fresh : (t : ℕ) (c : DoneScope) → slice_get names_before t ≡ Some c → c.address ≡ address w → ⊥
        interface_fresh t c at same = elim (at_part (prefix_scopes files prefix) d.scopes t c at) [
          | inl h ↦ prefix_apart w h.0 c h.1 same
          | inr h ↦ none_is_next d.laid (item_scopes files is is_items).unique w there h.0 c h.1 same
        ]

        at_place : slice_get is (length xs) ≡ Some w
        at_place = subst (λ (n : ℕ). slice_get is n ≡ Some w) (sym d.laid.count) there

        pub interface_owned : decls files is ws (address w) ≡ (scope files (address w), owner.Interface (length (prefix ++ xs)))
        interface_owned = item_declared (length xs) w at_place ∙ ap (λ (o : TypeOwner). (scope files (address w), o)) (sym (next_interface xs))

        pub interface_scoped : scope files (address w) ≡ scope_names w
        interface_scoped = scope_of files is (item_scopes files is is_items) (length xs) w at_place

        pub interface_among : (t : ℕ) (c : ResolvedScope) → slice_get (resolved_scopes (map visited (foreign_interfaces files)) (prefix ++ xs)) t ≡ Some c → (j : ℕ) × (slice_get (map resolved_scope_of names_before) j ≡ Some c)
        interface_among = resolved_scopes_among xs d.scopes d.laid.types

        -- once it was added, it is done
        pub interface_next : (new : List TypeDef) (added : Interface) (rs : List Required) → AddsInterface (resolved_scopes (map visited (foreign_interfaces files)) (prefix ++ xs)) (length (prefix ++ xs)) old new added rs w → InterfacesDone prefix (us ++ w ∷ []) new (xs ++ added ∷ []) (qs ++ rs)
        interface_next new added rs a =
            let known = resolved_scopes (map visited (foreign_interfaces files)) (prefix ++ xs) in
            let sort = interfaces.each (length xs) w at_place in
            let turns = map (item_turn files) us in
            let next = next_scope files (decls files is ws) (all_occurrences files turns) names_before old d.done known interface_among (length (prefix ++ xs)) new added rs w interface_fresh interface_owned interface_scoped a in
            record {
              scopes = d.scopes ++ next.scope ∷ [];
              laid = laid_more files resolved_scope is us xs d.scopes w next.scope added d.laid there next.least next.turn (next.is ∙
                  let names = free_of (interface_functions added) in
                  ap (λ (s : Address). record { address = s; types = added.types; functions = names }) (interface_address files is is_items (length xs) w at_place sort)
                  ∙ ap (called_resolved_scope added.types names) (sym (a.called ∙ declared_called files is is_items (length xs) w at_place))
                  ∙ ap (λ (l : List (List ℕ)). called_resolved_scope added.types l added.name) (free_keyed Imported added.functions));
              done = done_as (sym (more_occurrences files us w)) (append_assoc (prefix_scopes files prefix) d.scopes (next.scope ∷ [])) next.done;
              made = λ id gives. ap (λ (l : List Interface). l ++ added ∷ []) (d.made id (gives_fewer next.extended id gives)) ∙ ap (λ (i : Interface). map (own_interface id (item_order files)) us ++ i ∷ []) (next.made id gives) ∙ sym (map-append (own_interface id (item_order files)) us (w ∷ []));
              required = subst (λ (hs : List (Address × Id)). AreRequired files (keys next.done.seen) hs (qs ++ rs)) (sym (turned_handles files us w)) (required_append files (keys next.done.seen) (flat_map turn_handles turns) (turn_handles (item_turn files w)) qs rs (required_extended files next.extended (flat_map turn_handles turns) qs d.required) next.required);
            }

      -- none is done yet
      pub no_interface : InterfacesDone prefix [] es [] []
      no_interface = record {
        scopes = [];
        laid = laid_none files resolved_scope is;
        done = done_as refl (sym (append-nil (prefix_scopes files prefix))) foreign_done;
        made = λ id gives. refl;
        required = required_none files (keys foreign_done.seen);
      }

-- What is once worlds are done, each with the interfaces that are written in it.
-- a world that was resolved, as a scope
abbrev pub world_resolved_scope : World → ResolvedScope
world_resolved_scope w = record { address = WorldNamed w.name; types = world_types w; functions = free_of (world_functions w) }

-- a world that is done, with the interfaces that are written in it
pub record DoneWorld : Type 0 where
  pub own : DoneScope
  pub inside : List DoneScope

abbrev pub own_scope : DoneWorld → DoneScope
own_scope w = w.own

-- its scopes
abbrev pub scopes_of : DoneWorld → List DoneScope
scopes_of w = w.own ∷ w.inside

-- the scopes of the interfaces that are written in worlds
abbrev pub all_within : List DoneWorld → List DoneScope
all_within ws = flat_map (λ w. w.inside) ws

-- The first of some worlds are done after interfaces: over the places of what occurred, and wherever the interfaces and the worlds are, these are
-- they and the interfaces that are written in them.
pub record AreWorldsDone (files : List PackageFile) (is ws : List Item) (wprefix : List World) (first : List DoneScope) (us : List Item) (es : List TypeDef) (worlds : List World) (inline : List Interface) (rs : List Required) : Type 0 where
  pub scopes : List DoneWorld
  pub own : List World
  pub arena : worlds ≡ wprefix ++ own
  pub laid : AreLaid files world_resolved_scope ws us own (map own_scope scopes)
  pub inside_turns : map turn_of (all_within scopes) ≡ map (item_turn files) (inside_of us)
  pub inside_least : (t : ℕ) (u : Item) → slice_get (inside_of us) t ≡ Some u → IsOrder (rows_of (scope_names u)) (item_order files u)
  pub done : IsDone files (decls files is ws) (all_occurrences files (all_turns files is us)) (first ++ flat_map scopes_of scopes) es
  pub made : (id : Key → ℕ) → GivesPlaces id (keys done.seen) → (ss vs : List Address) → GivesPlaces (scope_place ss) (interface_list files is (inside_of ws)) → GivesPlaces (scope_place vs) (world_list files ws) → own ≡ map (own_world id (item_order files) ss vs) us
  pub inside_made : (id : Key → ℕ) → GivesPlaces id (keys done.seen) → inline ≡ map (own_interface id (item_order files)) (inside_of us)
  pub required : AreRequired files (keys done.seen) (flat_map turn_handles (flat_map (world_turns files) us)) rs

abbrev pub named_world : Names → List (FunctionKey × Function) → List ℕ → ResolvedScope
named_world types stated name = record { address = WorldNamed name; types = types; functions = free_of stated }

pub own_types : (xs : List ScopeName) (types : Names) (rest_after : List (WorldKey × WorldItem)) (w : World) → map (λ p. p.0) types ≡ local_names xs → w.imports ≡ type_imports xs types ++ rest_after → flat_map import_types rest_after ≡ [] → world_types w ≡ types
own_types xs types rest_after w listed imports none = ap (flat_map import_types) imports ∙ world_types-all xs types rest_after listed none

-- after one prefix, what is in the first of two lists is in the second
pub prefix_longer : {X : Type 0} (prefix xs ys : List X) → ((k : ℕ) (x : X) → slice_get xs k ≡ Some x → slice_get ys k ≡ Some x) → (t : ℕ) (x : X) → slice_get (prefix ++ xs) t ≡ Some x → slice_get (prefix ++ ys) t ≡ Some x
prefix_longer prefix xs ys longer t x at = elim (at_split prefix xs t x at) [
  | inl h ↦ at_prefix prefix ys t x h
  | inr h ↦ ap (slice_get (prefix ++ ys)) h.1 ∙ at_back prefix ys h.0 x (longer h.0 x h.2)
]

-- so it does in what they become
pub flat_map_longer : {X Y : Type 0} (f : X → List Y) (xs ys : List X) → ((k : ℕ) (x : X) → slice_get xs k ≡ Some x → slice_get ys k ≡ Some x) → (t : ℕ) (y : Y) → slice_get (flat_map f xs) t ≡ Some y → slice_get (flat_map f ys) t ≡ Some y
flat_map_longer f [] ys longer t y at = absurd (let wrong : ⊥ = cc in wrong)
flat_map_longer f (x ∷ xs) [] longer t y at = absurd (let none = longer 0 x refl in let wrong : ⊥ = cc in wrong)
flat_map_longer {X} {Y} f (x ∷ xs) (z ∷ ys) longer t y at =
    let here : Some z ≡ Some x = longer 0 x refl in
    let same : x ≡ z = cc in
    ap (λ (u : X). slice_get (f u ++ flat_map f ys) t) (sym same) ∙ prefix_longer (f x) (flat_map f xs) (flat_map f ys) (flat_map_longer f xs ys (λ k. longer (suc k))) t y at

-- what occurs in scopes after others
pub turns_occurrences : (files : List PackageFile) (ts us : List Turned) → all_occurrences files (ts ++ us) ≡ all_occurrences files ts ++ occurrences us
turns_occurrences files ts us =
    let prefix : List Occurrence = map foreign_use_occurrence (source.foreign_uses files) in
    ap (λ (l : List Occurrence). prefix ++ l) (flat_map-append turn_occurrences ts us) ∙ sym (append_assoc prefix (occurrences ts) (occurrences us))

-- the turns of one world more
pub turns_more : (files : List PackageFile) (us : List Item) (w : Item) → flat_map (world_turns files) (us ++ w ∷ []) ≡ flat_map (world_turns files) us ++ world_turns files w
turns_more files us w = flat_map-append (world_turns files) us (w ∷ []) ∙ ap (λ (l : List Turned). flat_map (world_turns files) us ++ l) (append-nil (world_turns files w))

-- what is on its sides
abbrev pub world_sides : List PackageFile → Item → List Turned
world_sides files w = turns_on_sides (item_order files) (address w) (side_items w) (inline_items w)

-- where these are its names in turn
module _ (files : List PackageFile) (w : Item) (names : List ScopeName) (are : world_turns files w ≡ names_turn (address w) names ∷ world_sides files w) where
  -- what occurs in a world: in its names, and then on its sides
  pub world_occurrences : occurrences (world_turns files w) ≡ all_name_occurrences (address w) names ++ occurrences (world_sides files w)
  world_occurrences = ap occurrences are ∙ ap (λ (l : List Occurrence). l ++ occurrences (world_sides files w)) (append-nil (all_name_occurrences (address w) names))

  pub written_more : (is us : List Item) → all_occurrences files (all_turns files is (us ++ w ∷ [])) ≡ (all_occurrences files (all_turns files is us) ++ all_name_occurrences (address w) names) ++ occurrences (world_sides files w)
  written_more is us =
      let before : List Turned = map (item_turn files) is in
      let written : List Occurrence = all_occurrences files (all_turns files is us) in
      let turns : all_turns files is (us ++ w ∷ []) ≡ all_turns files is us ++ world_turns files w = ap (λ (l : List Turned). before ++ l) (turns_more files us w) ∙ sym (append_assoc before (flat_map (world_turns files) us) (world_turns files w)) in
      ap (all_occurrences files) turns ∙ turns_occurrences files (all_turns files is us) (world_turns files w) ∙ ap (λ (l : List Occurrence). written ++ l) world_occurrences ∙ sym (append_assoc written (all_name_occurrences (address w) names) (occurrences (world_sides files w)))

  pub handles_more : (us : List Item) → flat_map turn_handles (flat_map (world_turns files) (us ++ w ∷ [])) ≡ flat_map turn_handles (flat_map (world_turns files) us) ++ (map (in_scope (address w)) (all_handles (flat_map name_types names)) ++ flat_map turn_handles (world_sides files w))
  handles_more us =
      let sides : List Turned = world_sides files w in
      let before : List (Address × Id) = flat_map turn_handles (flat_map (world_turns files) us) in
      ap (flat_map turn_handles) (turns_more files us w) ∙ flat_map-append turn_handles (flat_map (world_turns files) us) (world_turns files w) ∙ ap (λ (l : List Turned). before ++ flat_map turn_handles l) are ∙ ap (λ (l : List (Address × Id)). before ++ (l ++ flat_map turn_handles sides)) (ap (λ (l : List Written). map (in_scope (address w)) (all_handles l)) (append-nil (flat_map name_types names)))

-- the scopes of one world more
pub scopes_more : (first : List DoneScope) (ws : List DoneWorld) (w : DoneWorld) → first ++ flat_map scopes_of (ws ++ w ∷ []) ≡ ((first ++ flat_map scopes_of ws) ++ w.own ∷ []) ++ w.inside
scopes_more first ws w =
    let all : List DoneScope = flat_map scopes_of ws in
    let one : flat_map scopes_of (ws ++ w ∷ []) ≡ all ++ scopes_of w = flat_map-append scopes_of ws (w ∷ []) ∙ ap (λ (l : List DoneScope). all ++ l) (append-nil (scopes_of w)) in
    ap (λ (l : List DoneScope). first ++ l) one ∙ sym (append_assoc first all (scopes_of w)) ∙ sym (append_assoc (first ++ all) (w.own ∷ []) w.inside)

-- a scope of a world is its own, or that of an interface that is written in it
pub scope_either : (ws : List DoneWorld) (k : ℕ) (c : DoneScope) → slice_get (flat_map scopes_of ws) k ≡ Some c → ((t : ℕ) × (slice_get (map own_scope ws) t ≡ Some c)) ⊎ ((j : ℕ) × (slice_get (all_within ws) j ≡ Some c))
scope_either ws k c at =
    let it = flat_map_at scopes_of ws k c at in
    elim (after_one it.1.own it.1.inside it.3.0 c it.3.1) [
      | inl own ↦ inl (it.0, slice_get-map own_scope ws it.0 ∙ ap (option_map own_scope) it.2 ∙ ap Some own)
      | inr h ↦ inr (flat_map_has (λ (w : DoneWorld). w.inside) ws it.0 h.0 it.1 c it.2 h.1)
    ]
