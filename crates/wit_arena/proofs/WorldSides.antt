-- The names of a world that comes next, and what is on its sides, after interfaces and worlds that are done.
use Rattle.std.proofs.Common.{◌≡◌, ℕ, ◌+◌, true, false, List, [], ◌∷◌, ◌++◌, length, map, Some, inl, inr, sym, ap, ◌∙◌, subst, append_assoc, arith, length-append, refl}
use Rattle.wit_arena.proofs.Names.{Address, AddsForeign, AddsScope, AddsSides, Function, FunctionKey, Interface, Item, Names, Occurrence, PackageFile, Required, ResolvedScope, ScopeName, SideItem, Turned, TypeDef, TypeOwner, World, WorldNamed, address, all_items, all_occurrences, append-nil, at_back, at_either, at_part, at_prefix, at_seam, differ_at, differ_by, flat_map, flat_map-append, foreign_interfaces, foreign_worlds, in_turn, inline_inside, inline_items, inline_items_differ, inside_one, interfaces_at, is_inside, length-map, map-append, map_at, option_map, resolved_scopes, scope, scope_names, slice_get, slice_get-map, slice_get_within, visited, worlds_at, AreNames, Extends, env_of, keys, local_names, names_in, own_interface}
use Rattle.wit_arena.proofs.Visits.{AreUsableUses}
use Rattle.wit_arena.proofs.Ordered.{all_turns, item_order, item_turn}
use Rattle.wit_arena.proofs.DoneWorlds.{InterfacesDone, WorldOwner, inside_of, interface_list, world_list, decls, prefix_apart, resolved_scopes_among, next_world, inline_declared, world_item_declared, scopes_of, all_within, AreWorldsDone, prefix_longer, flat_map_longer, scope_either}
use Rattle.wit_arena.proofs.Sided.{AreSided, IsFreshInside, are_sided}
use Rattle.wit_arena.proofs.DoneNames.{are_known, are_new, are_owned, none_named, scope_done}
use Rattle.wit_arena.proofs.Prefix.{prefix_scopes, interfaces_count, worlds_count}
use Rattle.wit_arena.proofs.Indexing.{interfaces_at-append, worlds_at-append}
use Rattle.wit_arena.proofs.Interfaces.{AreItems, AreOfSort, item_scopes, inline_scopes, scope_of, items_declared, interface_address, world_address}
use Rattle.wit_arena.proofs.ScopesInTurn.{laid_scope, laid_addresses, laid_place, ordered_at, none_is_next, in_turn_is}
use Rattle.wit_arena.proofs.Resolving.{DoneScope, resolved_scope_of, IsTurn, IsDone, turn_of}
use Rattle.wit_arena.proofs.Turns.{all_name_occurrences}
use Rattle.wit_arena.proofs.Placing.{gives_in, place_in}
use Rattle.wit_arena.proofs.DefinitionPart.{name_seen_in}
use Rattle.wit_types.specs.declared.types.TypeOwner.TheVariants as owner
use Rattle.wit_syntax.specs.Source as source

module _ (files : List PackageFile) (is ws : List Item) (interfaces : AreOfSort false is) (worlds : AreOfSort true ws) (is_items : AreItems files is) (ws_items : AreItems files ws) (uses : AreUsableUses files (all_items files)) (es : List TypeDef) (prefix : List Interface) (wprefix : List World) (foreign : AddsForeign files es prefix wprefix) (middle : List TypeDef) (xs : List Interface) (irs : List Required) (d : InterfacesDone files is ws prefix is middle xs irs) where
  abbrev ss : List Address
  ss = map visited (foreign_interfaces files)

  abbrev others : List Address
  others = map visited (foreign_worlds files)

  abbrev before : List DoneScope
  before = prefix_scopes files prefix ++ d.scopes

  abbrev known : List ResolvedScope
  known = resolved_scopes ss (prefix ++ xs)

  -- the first worlds are done, after all interfaces
  abbrev pub WorldsDone : List Item → List TypeDef → List World → List Interface → List Required → Type 0
  WorldsDone us new arena inline rs = AreWorldsDone files is ws wprefix before us new arena inline rs

  -- as many interfaces come first as other packages have, and as many after as are declared
  long_prefix : length (prefix ++ xs) ≡ length ss + length is
  long_prefix =
      let ahead : length prefix ≡ length ss = interfaces_count foreign ∙ sym (length-map (foreign_interfaces files) visited) in
      length-append prefix xs ∙ ap (λ n. n + length xs) ahead ∙ ap (λ n. length ss + n) d.laid.count

  -- the addresses of all interfaces
  interface_names : interfaces_at ss (prefix ++ xs) ≡ ss ++ map address is
  interface_names = interfaces_at-append ss prefix xs (interfaces_count foreign ∙ sym (length-map (foreign_interfaces files) visited)) ∙ ap (λ (l : List Address). ss ++ l) (laid_addresses d.laid)

  -- no scope of an interface is written in a world, and none is a world's
  interface_outside : (k : ℕ) (c : DoneScope) → slice_get d.scopes k ≡ Some c → (is_inside c.address ≡ false) × ((name : List ℕ) → c.address ≡ WorldNamed name → ⊥)
  interface_outside k c at =
      let o = ordered_at d.laid k c at in
      let there = d.laid.prefix k o.0 o.1 in
      let here : address o.0 ≡ c.address = ap (λ (x : Turned). x.address) o.2 in
      let called = interface_address files is is_items k o.0 there (interfaces.each k o.0 there) in (
        ap is_inside (sym here) ∙ ap is_inside called,
        λ name same. (
            let wrong = sym called ∙ here ∙ same in
            let f : ⊥ = cc in
            f),
      )

  -- the scope of a world is none of the interfaces
  pub world_apart : (t : ℕ) (w : Item) → slice_get ws t ≡ Some w → (k : ℕ) (c : DoneScope) → slice_get before k ≡ Some c → c.address ≡ address w → ⊥
  world_apart t w at k c there same = elim (at_part (prefix_scopes files prefix) d.scopes k c there) [
    | inl h ↦ prefix_apart files is ws interfaces worlds is_items ws_items uses es prefix wprefix foreign w h.0 c h.1 same
    | inr h ↦ (interface_outside h.0 c h.1).1 (source.item_name w) (same ∙ world_address w (worlds.each t w at))
  ]

  module _ (us : List Item) (old : List TypeDef) (arena : List World) (inline : List Interface) (qs : List Required) (e : WorldsDone us old arena inline qs) (w : Item) (next : slice_get ws (length us) ≡ Some w) where
    abbrev s : Address
    s = address w

    abbrev first : List DoneScope
    first = before ++ flat_map scopes_of e.scopes

    abbrev written : List Occurrence
    written = all_occurrences files (all_turns files is us)

    at_own : slice_get ws (length e.own) ≡ Some w
    at_own = ap (slice_get ws) e.laid.count ∙ next

    -- the worlds so far are the first
    us_prefix : (k : ℕ) (v : Item) → slice_get (us ++ w ∷ []) k ≡ Some v → slice_get ws k ≡ Some v
    us_prefix k v at = elim (at_either us w k v at) [
      | inl h ↦ e.laid.prefix k v h
      | inr h ↦ ap (slice_get ws) h.0 ∙ next ∙ ap Some (sym h.1)
    ]

    -- so are the interfaces that are written in them
    inside_prefix : (k : ℕ) (i : Item) → slice_get (inside_of (us ++ w ∷ [])) k ≡ Some i → slice_get (inside_of ws) k ≡ Some i
    inside_prefix k i at = flat_map_longer inline_items (us ++ w ∷ []) ws us_prefix k i at

    pub inside_split : inside_of (us ++ w ∷ []) ≡ inside_of us ++ inline_items w
    inside_split = flat_map-append inline_items us (w ∷ []) ∙ ap (λ (l : List Item). inside_of us ++ l) (append-nil (inline_items w))

    earlier_inside : (k : ℕ) (i : Item) → slice_get (inside_of us) k ≡ Some i → slice_get (inside_of ws) k ≡ Some i
    earlier_inside k i at = inside_prefix k i (ap (λ (l : List Item). slice_get l k) inside_split ∙ at_prefix (inside_of us) (inline_items w) k i at)

    own_inside : (k : ℕ) (i : Item) → slice_get (inline_items w) k ≡ Some i → slice_get (inside_of ws) (length (inside_of us) + k) ≡ Some i
    own_inside k i at = inside_prefix (length (inside_of us) + k) i (ap (λ (l : List Item). slice_get l (length (inside_of us) + k)) inside_split ∙ at_back (inside_of us) (inline_items w) k i at)

    -- there are as many entries
    pub count_inside : length inline ≡ length (inside_of us)
    count_inside =
        let id = place_in (keys e.done.seen) 0 in
        ap length (e.inside_made id (gives_in (keys e.done.seen) 0 e.done.occurrence.once)) ∙ length-map (inside_of us) (own_interface id (item_order files))

    -- where the next interface that is written in a world is
    pub next_place : length (prefix ++ xs) + length inline ≡ length ss + (length is + length (inside_of us))
    next_place = omega (arith, long_prefix, count_inside)

    -- the item of a scope that is written in a world
    within_item : (k : ℕ) (c : DoneScope) → slice_get (all_within e.scopes) k ≡ Some c → (i : Item) × (slice_get (inside_of us) k ≡ Some i) × (c.address ≡ address i)
    within_item k c at =
        let o = map_at (item_turn files) (inside_of us) k (turn_of c) (ap (λ (l : List Turned). slice_get l k) (sym e.inside_turns) ∙ slice_get-map turn_of (all_within e.scopes) k ∙ ap (option_map turn_of) at) in
        (o.0, o.1, sym (ap (λ (x : Turned). x.address) o.2))

    -- the scope of this world is none of those before
    pub world_fresh : (k : ℕ) (c : DoneScope) → slice_get first k ≡ Some c → c.address ≡ s → ⊥
    world_fresh k c at same = elim (at_part before (flat_map scopes_of e.scopes) k c at) [
      | inl h ↦ world_apart (length us) w next h.0 c h.1 same
      | inr h ↦ elim (scope_either e.scopes h.0 c h.1) [
        | inl own ↦ none_is_next e.laid (item_scopes files ws ws_items).unique w next own.0 c own.1 same
        | inr far ↦ (
            let i = within_item far.0 c far.1 in
            let inner = inside_one ws far.0 i.0 (earlier_inside far.0 i.0 i.1) in
            let wrong : true ≡ false = sym inner ∙ ap is_inside (sym i.2 ∙ same) ∙ items_declared files ws ws_items (length us) w next in
            let f : ⊥ = cc in
            f)
      ]
    ]

    -- nor is the scope of an interface that is written in it, or this world's
    inline_fresh : (k : ℕ) (i : Item) → slice_get (inline_items w) k ≡ Some i → (t : ℕ) (c : DoneScope) → slice_get first t ≡ Some c → c.address ≡ address i → ⊥
    inline_fresh k i at t c there same =
        let inner : is_inside (address i) ≡ true = inline_inside w k i at in
        let outer : is_inside c.address ≡ false → ⊥ = λ h. (let wrong : true ≡ false = sym inner ∙ ap is_inside (sym same) ∙ h in let f : ⊥ = cc in f) in
        elim (at_part before (flat_map scopes_of e.scopes) t c there) [
          | inl h ↦ elim (at_part (prefix_scopes files prefix) d.scopes h.0 c h.1) [
            | inl g ↦ prefix_apart files is ws interfaces worlds is_items ws_items uses es prefix wprefix foreign i g.0 c g.1 same
            | inr g ↦ outer (interface_outside g.0 c g.1).0
          ]
          | inr h ↦ elim (scope_either e.scopes h.0 c h.1) [
            | inl own ↦ (
                let o = ordered_at e.laid own.0 c own.1 in
                outer (ap is_inside (sym (ap (λ (x : Turned). x.address) o.2)) ∙ items_declared files ws ws_items own.0 o.0 (e.laid.prefix own.0 o.0 o.1)))
            | inr far ↦ (
                let j = within_item far.0 c far.1 in
                let lt = slice_get_within (inside_of us) far.0 j.0 j.1 in
                let one = differ_at address (inside_of ws) (inline_scopes files ws ws_items).unique far.0 (length (inside_of us) + k) j.0 i (earlier_inside far.0 j.0 j.1) (own_inside k i at) (sym j.2 ∙ same) in
                let f : ⊥ = omega (arith, lt, one) in
                f)
          ]
        ]

    -- the address of a world that was added is that of its item
    pub world_added : (t : ℕ) (x : Address) → slice_get (worlds_at others arena) t ≡ Some x → slice_get (world_list files ws) t ≡ Some x
    world_added t x at =
        let named = map (λ (v : World). WorldNamed v.name) e.own in
        let whole : worlds_at others arena ≡ others ++ named = ap (worlds_at others) e.arena ∙ worlds_at-append others wprefix e.own (worlds_count foreign ∙ sym (length-map (foreign_worlds files) visited)) in
        prefix_longer others named (map address ws) (laid_place e.laid) t x (ap (λ (l : List Address). slice_get l t) (sym whole) ∙ at)

    -- so is that of an interface
    pub interface_added : (t : ℕ) (x : Address) → slice_get (interfaces_at ss (prefix ++ xs) ++ (map address (inside_of us) ++ map address (inline_items w))) t ≡ Some x → slice_get (interface_list files is (inside_of ws)) t ≡ Some x
    interface_added t x at =
        let some : List Address = map address (inside_of (us ++ w ∷ [])) in
        let own : map address (inside_of us) ++ map address (inline_items w) ≡ some = sym (map-append address (inside_of us) (inline_items w)) ∙ ap (map address) (sym inside_split) in
        let whole : interfaces_at ss (prefix ++ xs) ++ (map address (inside_of us) ++ map address (inline_items w)) ≡ (ss ++ map address is) ++ some = ap (λ (l : List Address). l ++ (map address (inside_of us) ++ map address (inline_items w))) interface_names ∙ ap (λ (l : List Address). (ss ++ map address is) ++ l) own in
        let all : (ss ++ map address is) ++ map address (inside_of ws) ≡ interface_list files is (inside_of ws) = append_assoc ss (map address is) (map address (inside_of ws)) ∙ ap (λ (l : List Address). ss ++ l) (sym (map-append address is (inside_of ws))) in
        let longer = λ (k : ℕ) (y : Address) (h : slice_get some k ≡ Some y). (let i = map_at address (inside_of (us ++ w ∷ [])) k y h in slice_get-map address (inside_of ws) k ∙ ap (option_map address) (inside_prefix k i.0 i.1) ∙ ap Some i.2) in
        ap (λ (l : List Address). slice_get l t) (sym all) ∙ prefix_longer (ss ++ map address is) some (map address (inside_of ws)) longer t x (ap (λ (l : List Address). slice_get l t) (sym whole) ∙ at)

    -- the scopes of interfaces are among those that are done
    pub known_among : (cs : List DoneScope) (t : ℕ) (c : ResolvedScope) → slice_get known t ≡ Some c → (j : ℕ) × (slice_get (map resolved_scope_of (first ++ cs)) j ≡ Some c)
    known_among cs t c at =
        let it = resolved_scopes_among files is ws interfaces worlds is_items ws_items uses es prefix wprefix foreign xs d.scopes d.laid.types t c at in
        let more = flat_map scopes_of e.scopes in
        let whole : map resolved_scope_of (first ++ cs) ≡ map resolved_scope_of before ++ map resolved_scope_of (more ++ cs) = ap (map resolved_scope_of) (append_assoc before more cs) ∙ map-append resolved_scope_of before (more ++ cs) in
        (it.0, ap (λ (l : List ResolvedScope). slice_get l it.0) whole ∙ at_prefix (map resolved_scope_of before) (map resolved_scope_of (more ++ cs)) it.0 c it.1)

    pub known_before : (t : ℕ) (c : ResolvedScope) → slice_get known t ≡ Some c → (j : ℕ) × (slice_get (map resolved_scope_of first) j ≡ Some c)
    known_before t c at = (let it = known_among [] t c at in (it.0, ap (λ (l : List DoneScope). slice_get (map resolved_scope_of l) it.0) (sym (append-nil first)) ∙ it.1))

    -- whom the package knows its scope by
    pub world_owned : decls files is ws s ≡ (scope files s, owner.World (length arena))
    world_owned =
        let whose : owner.World (length arena) ≡ WorldOwner files (length e.own) = ap (λ (l : List World). owner.World (length l)) e.arena ∙ next_world files is ws interfaces worlds is_items ws_items uses es prefix wprefix foreign e.own in
        world_item_declared files is ws interfaces worlds is_items ws_items (length e.own) w at_own ∙ ap (λ (o : TypeOwner). (scope files s, o)) (sym whose)

    pub world_scoped : scope files s ≡ scope_names w
    world_scoped = scope_of files ws (item_scopes files ws ws_items) (length us) w next

    -- once the names of this world were added; nothing hangs on what is stated of its scope besides
    module _ (mid : List TypeDef) (types : Names) (adds : AddsScope old mid known (owner.World (length arena)) (scope_names w) types) (stated : List (FunctionKey × Function)) where
      abbrev names : List ScopeName
      names = in_turn (scope_names w) adds.order

      abbrev pub c : DoneScope
      c = laid_scope (owner.World (length arena)) (record { item = w; order = adds.order }) types [] stated []

      abbrev named : List Occurrence
      named = all_name_occurrences s names

      pub turn : IsTurn (scope files s) names
      turn = subst (λ (l : List ScopeName). IsTurn l names) (sym world_scoped) (in_turn_is (scope_names w) adds.order adds.least adds.distinct)

      abbrev pub added : Extends (decls files is ws) e.done.seen named mid (λ ks. AreNames ks s (env_of types) × (names_in types ≡ local_names names))
      added = (adds.defines s).from (decls files is ws) e.done.seen (are_owned files (decls files is ws) written first old e.done s (owner.World (length arena)) names world_fresh world_owned turn) turn.differ (are_new files (decls files is ws) written first old e.done s (owner.World (length arena)) names world_fresh world_owned turn) (are_known files (decls files is ws) written first old e.done s (owner.World (length arena)) names world_fresh world_owned turn known known_before) e.done.occurrence (none_named files (decls files is ws) written first old e.done s (owner.World (length arena)) names world_fresh world_owned turn)

      -- its names are done
      abbrev pub names_done : IsDone files (decls files is ws) (written ++ named) (first ++ c ∷ []) mid
      names_done = scope_done files (decls files is ws) written first old e.done s (owner.World (length arena)) names world_fresh world_owned turn mid c refl refl refl named (name_seen_in s names) added added.holds.0 added.holds.1

      -- an interface that is written in it can come next
      pub fresh_inside : (k : ℕ) (i : Item) → slice_get (inline_items w) k ≡ Some i → IsFreshInside files (decls files is ws) (first ++ c ∷ []) ((length (prefix ++ xs) + length inline) + k) i
      fresh_inside k i at =
          let there = own_inside k i at in
          let spot : length ss + (length is + (length (inside_of us) + k)) ≡ (length (prefix ++ xs) + length inline) + k = (let p = next_place in omega arith) in
          record {
            fresh = λ t b b_at same. elim (at_either first c t b b_at) [
              | inl h ↦ inline_fresh k i at t b h same
              | inr h ↦ (
                  let wrong : true ≡ false = sym (inline_inside w k i at) ∙ ap is_inside (sym same ∙ ap (λ (x : DoneScope). x.address) h.1) ∙ items_declared files ws ws_items (length us) w next in
                  let f : ⊥ = cc in
                  f)
            ];
            has = scope_of files (inside_of ws) (inline_scopes files ws ws_items) (length (inside_of us) + k) i there;
            own = inline_declared files is ws interfaces worlds is_items ws_items (length (inside_of us) + k) i there ∙ ap (λ (n : ℕ). (scope files (address i), (owner.Interface n))) spot;
          }

      -- and so is what is on its sides, as far as it was added
      pub sides_done : (new : List TypeDef) (js : List Interface) (fs : List Function) (rs : List Required) (items : List SideItem) (inside : List Item) → ((k : ℕ) (i : Item) → slice_get inside k ≡ Some i → slice_get (inline_items w) k ≡ Some i) → AddsSides known (length (prefix ++ xs)) s types mid new inline js fs rs items inside → AreSided files (decls files is ws) (written ++ named) (first ++ c ∷ []) (keys names_done.seen) s new inline js fs rs items inside
      sides_done new js fs rs items inside among sides = are_sided files (decls files is ws) (written ++ named) (first ++ c ∷ []) mid new known (length (prefix ++ xs)) (length first) c inline js fs rs items inside names_done (at_seam first c) (known_among (c ∷ [])) (differ_by address inside (λ i j x y at_i at_j same. differ_at address (inline_items w) (inline_items_differ w) i j x y (among i x at_i) (among j y at_j) same)) (λ k i at. fresh_inside k i (among k i at)) sides
