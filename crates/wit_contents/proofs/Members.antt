-- What is on the sides of a world, resolved one after another: nothing, more after some, and a function, an interface by its path, or an inline one.
use Rattle.std.proofs.Common.{◌≡◌, ℕ, ◌+◌, List, [], ◌∷◌, ◌++◌, length, refl, sym, ap, ◌∙◌, subst, append_assoc, arith, Bool, true, false, if◌then◌else◌, map, Some, inl, inr, add-zero, Option, suc, None, get_or, Vec}
use Rattle.wit_contents.proofs.Names.{Address, AddsFunctions, AddsInside, AddsInterface, AddsMembers, AddsSides, AreEnded, AreKeyed, Contains-append_cases, Entry, Extern, Function, Growing, HavePlaces, Id, Interface, InterfaceItem, IsNext, IsSeen, ItemWalk, Link, Name, Names, Puts, Required, ResolvedScope, SideFunction, SideInline, SideItem, SideLink, Sorted, SourceFunction, Stage, TypeDef, WorldSide, address, all_handles, append-nil, at_back, at_prefix, contains_one, entry_sorted, env_of, filter-append, flat_map, flat_map-append, function_item, functions, inline_after, inline_after-append, inline_entry, inline_side, interfaces_at, item_function, item_inline, item_side, item_sorted, items_on, lead, length-append, length-inline_after, length-map, link_item, map-append, next_place, option_map_or, option_to_list, path_scope, prefix_of, put_on, resolved_scopes_of, role_side, same_side, side_items, slice_get, sorted_on, stage, written_types, item_view, Key, filter, filter_map-append, inline_item, is_interface}
use Rattle.wit_contents.specs.declared.walk.Walked.{Walked}
use Rattle.wit_arena.proofs.Common.{Global, Item, function_in, entries_on, scope_place, link_key}
use Rattle.wit_entries.proofs.Requiring.{extended_then}
use Rattle.wit_sides.specs.SideNames.{defined_on}
use Rattle.wit_externs.specs.Clash.{item_names, bare_place, linked_on}
use Rattle.wit_world_sides.specs.Members.{entries_of, key_places}
use Rattle.wit_entries.specs.EntryFaults.{IsExtended, Requires}
use Rattle.wit_externs.proofs.Steps.{at_middle, kept_nothing, kept_one}
use Rattle.wit_items.specs.declared.items.InlineInterface.{InlineInterface}
use Rattle.wit_world_sides.specs.declared.members.Members.{Members}
use Rattle.wit_arena.proofs.MadeSides.{put_kept}
use Rattle.wit_arena.specs.Made.{member_entries}
use Rattle.wit_syntax.specs.Sides.{members_after}
use Rattle.wit_contents.specs.Walk.{next_entries}

module _ (cs : List ResolvedScope) (count : ℕ) (s : Address) (names : Names) where
  -- as many interfaces are added as are written there, and as many functions are made
  pub sides_count : (a b : List TypeDef) (is js : List Interface) (fs : List Function) (rs : List Required) (xs : List SideItem) (us : List Item) → AddsSides cs count s names a b is js fs rs xs us → length js ≡ length is + length (flat_map item_inline xs)
  sides_count a b is js fs rs [] us h = ap length h.1 ∙ sym (add-zero (length is))
  sides_count a b is js fs rs (SideFunction fn ∷ xs) us h = sides_count h.0 b is js h.2 h.4 xs us h.9
  sides_count a b is js fs rs (SideLink link ∷ xs) us h = sides_count a b is js fs rs xs us h
  sides_count a b is js fs rs (SideInline x name items ∷ xs) [] h = absurd h
  sides_count a b is js fs rs (SideInline x name items ∷ xs) (u ∷ us) h =
      let rest = sides_count h.0 b (is ++ h.1 ∷ []) js fs h.3 xs us h.6 in
      let one = length-append is (h.1 ∷ []) in
      omega (arith, rest, one)

  sides_made : (a b : List TypeDef) (is js : List Interface) (fs : List Function) (rs : List Required) (xs : List SideItem) (us : List Item) → AddsSides cs count s names a b is js fs rs xs us → length fs ≡ length (flat_map item_function xs)
  sides_made a b is js fs rs [] us h = ap length h.2
  sides_made a b is js fs rs (SideFunction fn ∷ xs) us h = ap length h.5 ∙ ap suc (sides_made h.0 b is js h.2 h.4 xs us h.9)
  sides_made a b is js fs rs (SideLink link ∷ xs) us h = sides_made a b is js fs rs xs us h
  sides_made a b is js fs rs (SideInline x name items ∷ xs) [] h = absurd h
  sides_made a b is js fs rs (SideInline x name items ∷ xs) (u ∷ us) h = sides_made h.0 b (is ++ h.1 ∷ []) js fs h.3 xs us h.6

  -- nothing adds nothing
  pub sides_none : (a : List TypeDef) (is : List Interface) (us : List Item) → AddsSides cs count s names a a is is [] [] [] us
  sides_none a is us = (refl, refl, refl, refl)

  nothing_then : (a b c : List TypeDef) (is js ks : List Interface) (fs gs : List Function) (rs ss : List Required) (ys : List SideItem) (vs : List Item) → b ≡ a → js ≡ is → fs ≡ [] → rs ≡ [] → AddsSides cs count s names b c js ks gs ss ys vs → AddsSides cs count s names a c is ks (fs ++ gs) (rs ++ ss) ys vs
  nothing_then a b c is js ks fs gs rs ss ys vs same inside made required k =
      subst (λ (l : List Function). AddsSides cs count s names a c is ks (l ++ gs) (rs ++ ss) ys vs) (sym made) (
      subst (λ (l : List Required). AddsSides cs count s names a c is ks gs (l ++ ss) ys vs) (sym required) (
      subst (λ (l : List TypeDef). AddsSides cs count s names l c is ks gs ss ys vs) same (
      subst (λ (l : List Interface). AddsSides cs count s names b c l ks gs ss ys vs) inside k)))

  -- more of it after some, of which as many are interfaces as are given
  pub sides_then : (a b c : List TypeDef) (is js ks : List Interface) (fs gs : List Function) (rs ss : List Required) (xs ys : List SideItem) (us vs : List Item) → length us ≡ length (flat_map item_inline xs) → AddsSides cs count s names a b is js fs rs xs us → AddsSides cs count s names b c js ks gs ss ys vs → AddsSides cs count s names a c is ks (fs ++ gs) (rs ++ ss) (xs ++ ys) (us ++ vs)
  sides_then a b c is js ks fs gs rs ss [] ys [] vs long h k = nothing_then a b c is js ks fs gs rs ss ys vs h.0 h.1 h.2 h.3 k
  sides_then a b c is js ks fs gs rs ss [] ys (u ∷ us) vs long h k = absurd (omega (arith, long))
  sides_then a b c is js ks fs gs rs ss (SideFunction fn ∷ xs) ys us vs long h k = (
    h.0,
    h.1,
    h.2 ++ gs,
    h.3,
    h.4 ++ ss,
    ap (λ (l : List Function). l ++ gs) h.5,
    ap (λ (l : List Required). l ++ ss) h.6 ∙ append_assoc h.3 h.4 ss,
    h.7,
    h.8,
    sides_then h.0 b c is js ks h.2 gs h.4 ss xs ys us vs long h.9 k,
  )
  sides_then a b c is js ks fs gs rs ss (SideLink link ∷ xs) ys us vs long h k = sides_then a b c is js ks fs gs rs ss xs ys us vs long h k
  sides_then a b c is js ks fs gs rs ss (SideInline x name items ∷ xs) ys [] vs long h k = absurd h
  sides_then a b c is js ks fs gs rs ss (SideInline x name items ∷ xs) ys (u ∷ us) vs long h k = (
    h.0,
    h.1,
    h.2,
    h.3 ++ ss,
    ap (λ (l : List Required). l ++ ss) h.4 ∙ append_assoc h.2 h.3 ss,
    h.5,
    sides_then h.0 b c (is ++ h.1 ∷ []) js ks fs gs h.3 ss xs ys us vs (omega (arith, long)) h.6 k,
  )

  -- one function, one link, and one interface that is written there
  pub sides_function : (b c : List TypeDef) (js : List Interface) (fn : SourceFunction) (f : Function) (own : List Required) → AddsFunctions b c s names (fn ∷ []) (f ∷ []) → AreEnded (env_of names) c (all_handles (written_types fn)) own → AddsSides cs count s names b c js js (f ∷ []) own (SideFunction fn ∷ []) []
  sides_function b c js fn f own adds ended = (c, f, [], own, [], refl, sym (append-nil own), adds, ended, (refl, refl, refl, refl))

  pub sides_link : (b : List TypeDef) (js : List Interface) (link : Link) → AddsSides cs count s names b b js js [] [] (SideLink link ∷ []) []
  sides_link b js link = (refl, refl, refl, refl)

  pub sides_inline : (b c : List TypeDef) (js : List Interface) (added : Interface) (own : List Required) (x : Extern) (name : Id) (items : List InterfaceItem) (i : Item) → AddsInterface cs (count + length js) b c added own i → AddsSides cs count s names b c js (js ++ added ∷ []) [] own (SideInline x name items ∷ []) (i ∷ [])
  sides_inline b c js added own x name items i adds = (c, added, own, [], sym (append-nil own), adds, (refl, refl, refl, refl))

-- what is on sides, each with the interface that it is, with more after it
members_then-append : (w : Item) (before xs ys : List SideItem) → members_after w before (xs ++ ys) ≡ members_after w before xs ++ members_after w (before ++ xs) ys
members_then-append w before [] ys = ap (λ (l : List SideItem). members_after w l ys) (sym (append-nil before))
members_then-append w before (x ∷ xs) ys =
    let own : SideItem × List Item = (x, inline_item w (length (filter is_interface (items_on (item_side x) before))) x) in
    ap (λ (l : List (SideItem × List Item)). own ∷ l) (members_then-append w (before ++ x ∷ []) xs ys) ∙ ap (λ (l : List SideItem). own ∷ (members_after w (before ++ x ∷ []) xs ++ members_after w l ys)) (append_assoc before (x ∷ []) xs)

entries_then : (id : Key → ℕ) (ss : List Address) (w : Item) (before xs ys : List SideItem) (s : WorldSide) → entries_on s (next_entries id ss w before (xs ++ ys)) ≡ entries_on s (next_entries id ss w before xs) ++ entries_on s (next_entries id ss w (before ++ xs) ys)
entries_then id ss w before xs ys s =
    let of : SideItem × List Item → List (WorldSide × Entry) = λ m. member_entries (function_in id (address w)) ss w.top m.0 m.1 in
    ap (λ (l : List (SideItem × List Item)). entries_on s (flat_map of l)) (members_then-append w before xs ys)
    ∙ ap (entries_on s) (flat_map-append of (members_after w before xs) (members_after w (before ++ xs) ys))
    ∙ filter_map-append (λ (e : WorldSide × Entry). if same_side s e.0 then Some e.1 else None) (next_entries id ss w before xs) (next_entries id ss w (before ++ xs) ys)

-- lists that are as long are one where they begin one list
front_same : (xs bs cs ds : List Function) → length xs ≡ length cs → xs ++ bs ≡ cs ++ ds → (xs ≡ cs) × (bs ≡ ds)
front_same [] bs [] ds long same = (refl, same)
front_same (a ∷ xs) bs (c ∷ cs) ds long same =
    let rest = front_same xs bs cs ds (omega (arith, long)) (cc) in
    let here : a ≡ c = cc in
    (ap (λ (x : Function). x ∷ xs) here ∙ ap (λ (l : List Function). c ∷ l) rest.0, rest.1)
front_same xs bs cs ds long same = absurd (omega (arith, long))

-- the names, the words for them and the places of what is on a side, with more after it
names_then : (s : WorldSide) (xs ys : List SideItem) → flat_map item_names (items_on s (xs ++ ys)) ≡ flat_map item_names (items_on s xs) ++ flat_map item_names (items_on s ys)
names_then s xs ys = ap (λ (items : List SideItem). flat_map item_names items) (filter-append (λ x. same_side s (item_side x)) xs ys) ∙ flat_map-append item_names (items_on s xs) (items_on s ys)

sorts_then : (s : WorldSide) (xs ys : List SideItem) → flat_map item_sorted (items_on s (xs ++ ys)) ≡ flat_map item_sorted (items_on s xs) ++ flat_map item_sorted (items_on s ys)
sorts_then s xs ys = ap (flat_map item_sorted) (filter-append (λ x. same_side s (item_side x)) xs ys) ∙ flat_map-append item_sorted (items_on s xs) (items_on s ys)

module _ (w : ItemWalk) where
  places_then : (s : WorldSide) (xs ys : List SideItem) → flat_map (bare_place (lead w)) (items_on s (xs ++ ys)) ≡ flat_map (bare_place (lead w)) (items_on s xs) ++ flat_map (bare_place (lead w)) (items_on s ys)
  places_then s xs ys = ap (λ (xs : List SideItem). flat_map (bare_place (lead w)) xs) (filter-append (λ x. same_side s (item_side x)) xs ys) ∙ flat_map-append (bare_place (lead w)) (items_on s xs) (items_on s ys)

  -- nothing is added
  pub members_none : (prefix : List SideItem) (a : Stage) → AreKeyed a.walked.members → AddsMembers w prefix [] a a
  members_none prefix a keyed = record {
    functions = [];
    adds = record { own = []; list = sym (append-nil a.growing.required.items); holds = λ s. sides_none (resolved_scopes_of w.interfaces) (length w.interfaces.arena) s w.scope.names.types a.growing.types a.growing.inside [] };
    extended = record { more = []; is = sym (append-nil a.growing.types) };
    seen = λ ys seen. subst (λ (l : List SideItem). IsSeen l a.walked.seen) (sym (append-nil ys)) seen;
    in_use = λ s. sym (append-nil (defined_on s a.walked.members.in_use));
    linked = λ s. sym (append-nil (linked_on s a.walked.members.links));
    sorted = λ s. sym (append-nil (sorted_on s a.walked.members.sides));
    keyed = keyed;
    are_present = λ id made ss places s. sym (append-nil _);
    leads = λ link among. absurd (let lt = among.1 in let wrong : ⊥ = omega arith in wrong);
  }

  module _ (prefix xs ys : List SideItem) (a b c : Stage) (p : AddsMembers w prefix xs a b) (q : AddsMembers w (prefix ++ xs) ys b c) where
    abbrev item : Item
    item = item_view w.item

    abbrev us : List Item
    us = inline_after item prefix xs

    abbrev vs : List Item
    vs = inline_after item (prefix ++ xs) ys

    abbrev all_inline : List Item
    all_inline = inline_after item prefix (xs ++ ys)

    inline_both : all_inline ≡ us ++ vs
    inline_both = inline_after-append item prefix xs ys

    given : length us ≡ length (flat_map item_inline xs)
    given = length-inline_after item prefix xs

    made : length p.functions ≡ length (flat_map item_function xs)
    made = sides_made (resolved_scopes_of w.interfaces) (length w.interfaces.arena) (address item) w.scope.names.types a.growing.types b.growing.types a.growing.inside b.growing.inside p.functions p.adds.own xs us (p.adds.holds (address item))

    count : length b.growing.inside ≡ length a.growing.inside + length (flat_map item_inline xs)
    count = sides_count (resolved_scopes_of w.interfaces) (length w.interfaces.arena) (address item) w.scope.names.types a.growing.types b.growing.types a.growing.inside b.growing.inside p.functions p.adds.own xs us (p.adds.holds (address item))

    adds_both : (s : Address) → AddsSides (resolved_scopes_of w.interfaces) (length w.interfaces.arena) s w.scope.names.types a.growing.types c.growing.types a.growing.inside c.growing.inside (p.functions ++ q.functions) (p.adds.own ++ q.adds.own) (xs ++ ys) all_inline
    adds_both s =
        let both = sides_then (resolved_scopes_of w.interfaces) (length w.interfaces.arena) s w.scope.names.types a.growing.types b.growing.types c.growing.types a.growing.inside b.growing.inside c.growing.inside p.functions q.functions p.adds.own q.adds.own xs ys us vs given (p.adds.holds s) (q.adds.holds s) in
        subst (λ (l : List Item). AddsSides (resolved_scopes_of w.interfaces) (length w.interfaces.arena) s w.scope.names.types a.growing.types c.growing.types a.growing.inside c.growing.inside (p.functions ++ q.functions) (p.adds.own ++ q.adds.own) (xs ++ ys) l) (sym inline_both) both

    present_both : (id : Key → ℕ) → p.functions ++ q.functions ≡ map (function_in id (address item)) (flat_map item_function (xs ++ ys)) → (ss : List Address) → HavePlaces w a.growing.inside all_inline ss → (s : WorldSide) → entries_of s c.walked.members.sides ≡ entries_of s a.walked.members.sides ++ entries_on s (next_entries id ss item prefix (xs ++ ys))
    present_both id functions ss places s =
        let f = function_in id (address item) in
        let parts = front_same p.functions q.functions (map f (flat_map item_function xs)) (map f (flat_map item_function ys)) (made ∙ sym (length-map (flat_map item_function xs) f)) (functions ∙ ap (map f) (flat_map-append item_function xs ys) ∙ map-append f (flat_map item_function xs) (flat_map item_function ys)) in
        let named : map address all_inline ≡ map address us ++ map address vs = ap (map address) inline_both ∙ map-append address us vs in
        let first = p.are_present id parts.0 ss (record {
          interfaces = places.interfaces;
          inline = λ k r at. places.inline k r (ap (λ (l : List Address). slice_get l k) named ∙ at_prefix (map address us) (map address vs) k r at);
        }) s in
        let second = q.are_present id parts.1 ss (record {
          interfaces = places.interfaces;
          inline = λ k r at. (
              let there = places.inline (length (map address us) + k) r (ap (λ (l : List Address). slice_get l (length (map address us) + k)) named ∙ at_back (map address us) (map address vs) k r at) in
              let place : next_place w.interfaces a.growing.inside + (length (map address us) + k) ≡ next_place w.interfaces b.growing.inside + k = omega (arith, length-map us address, given, count) in
              there ∙ place);
        }) s in
        second
        ∙ ap (λ (l : List Entry). l ++ entries_on s (next_entries id ss item (prefix ++ xs) ys)) first
        ∙ append_assoc (entries_of s a.walked.members.sides) (entries_on s (next_entries id ss item prefix xs)) (entries_on s (next_entries id ss item (prefix ++ xs) ys))
        ∙ ap (λ (l : List Entry). entries_of s a.walked.members.sides ++ l) (sym (entries_then id ss item prefix xs ys s))

    -- more after some
    pub members_then : AddsMembers w prefix (xs ++ ys) a c
    members_then = record {
      functions = p.functions ++ q.functions;
      adds = record { own = p.adds.own ++ q.adds.own; list = q.adds.list ∙ ap (λ (l : List Required). l ++ q.adds.own) p.adds.list ∙ append_assoc a.growing.required.items p.adds.own q.adds.own; holds = adds_both };
      extended = extended_then a.growing.types b.growing.types c.growing.types p.extended q.extended;
      seen = λ zs seen. subst (λ (l : List SideItem). IsSeen l c.walked.seen) (append_assoc zs xs ys) (q.seen (zs ++ xs) (p.seen zs seen));
      in_use = λ s. q.in_use s ∙ ap (λ (l : List Name). l ++ flat_map item_names (items_on s ys)) (p.in_use s) ∙ append_assoc (defined_on s a.walked.members.in_use) (flat_map item_names (items_on s xs)) (flat_map item_names (items_on s ys)) ∙ ap (λ (l : List Name). defined_on s a.walked.members.in_use ++ l) (sym (names_then s xs ys));
      linked = λ s. q.linked s ∙ ap (λ (l : List ℕ). l ++ flat_map (bare_place (lead w)) (items_on s ys)) (p.linked s) ∙ append_assoc (linked_on s a.walked.members.links) (flat_map (bare_place (lead w)) (items_on s xs)) (flat_map (bare_place (lead w)) (items_on s ys)) ∙ ap (λ (l : List ℕ). linked_on s a.walked.members.links ++ l) (sym (places_then s xs ys));
      sorted = λ s. q.sorted s ∙ ap (λ (l : List Sorted). l ++ flat_map item_sorted (items_on s ys)) (p.sorted s) ∙ append_assoc (sorted_on s a.walked.members.sides) (flat_map item_sorted (items_on s xs)) (flat_map item_sorted (items_on s ys)) ∙ ap (λ (l : List Sorted). sorted_on s a.walked.members.sides ++ l) (sym (sorts_then s xs ys));
      keyed = q.keyed;
      are_present = present_both;
      leads = λ link among. elim (Contains-append_cases xs ys (SideLink link) among) [
        | inl early ↦ p.leads link early
        | inr late ↦ q.leads link late
      ];
    }

  -- once some of what comes next was added, more of it does
  abbrev pub next_then : (xs done ys rest : List SideItem) (a b : Stage) (n : IsNext w xs a.walked) → xs ≡ done ++ (ys ++ rest) → AddsMembers w n.prefix done a b → IsNext w ys b.walked
  next_then xs done ys rest a b n split adds = record {
    walk = n.walk;
    prefix = n.prefix ++ done;
    rest = rest ++ n.rest;
    sides =
        n.sides
        ∙ ap (λ (l : List SideItem). n.prefix ++ (l ++ n.rest)) split
        ∙ ap (λ (l : List SideItem). n.prefix ++ l) (append_assoc done (ys ++ rest) n.rest ∙ ap (λ (l : List SideItem). done ++ l) (append_assoc ys rest n.rest))
        ∙ sym (append_assoc n.prefix done (ys ++ (rest ++ n.rest)));
    seen = adds.seen n.prefix n.seen;
    keyed = adds.keyed;
  }

-- nothing on one side or the other
none_either : (none : List ℕ) (b : Bool) → (if b then none else none) ≡ none
none_either none true = refl
none_either none false = refl

-- the words for what is on a side, and for one more
sorted_one : (b : Bool) (x : SideItem) (e : Entry) → entry_sorted e ≡ item_sorted x → flat_map entry_sorted (if b then e ∷ [] else []) ≡ flat_map item_sorted (if b then x ∷ [] else [])
sorted_one true x e same = append-nil (entry_sorted e) ∙ same ∙ sym (append-nil (item_sorted x))
sorted_one false x e same = refl

sorted_put : (m m' : Members) (x : SideItem) (e : Entry) → Puts m m' x e → (s : WorldSide) → sorted_on s m'.sides ≡ sorted_on s m.sides ++ flat_map item_sorted (items_on s (x ∷ []))
sorted_put m m' x e put s =
    ap (flat_map entry_sorted) (put.put s)
    ∙ flat_map-append entry_sorted (entries_of s m.sides) (put_on s (item_side x) e [])
    ∙ ap (λ (l : List Sorted). sorted_on s m.sides ++ l) (sorted_one (same_side s (item_side x)) x e put.sorted)

bare_key : (o : Option Id) (id : ℕ) → option_map_or (λ (own : Id). []) o (id ∷ []) ≡ key_places (link_key o id)
bare_key None id = refl
bare_key (Some own) id = refl

-- the function that comes next is the one at its place
pub function_there : (i : Item) (prefix rest : List SideItem) (fn : SourceFunction) (place : ℕ) → side_items i ≡ prefix ++ (SideFunction fn ∷ rest) → place ≡ length (flat_map item_function prefix) → slice_get (functions i) place ≡ Some fn
function_there i prefix rest fn place sides count =
    let before = flat_map item_function prefix in
    let rest_after = flat_map item_function rest in
    let all : functions i ≡ before ++ (fn ∷ rest_after) = ap (flat_map item_function) sides ∙ flat_map-append item_function prefix (SideFunction fn ∷ rest) in
    ap (slice_get (functions i)) count ∙ ap (λ (l : List SourceFunction). slice_get l (length before)) all ∙ at_middle before fn rest_after

module _ (w : ItemWalk) (prefix : List SideItem) (a : Stage) where
  -- a function
  pub member_function : (fn : SourceFunction) (made : Function) (types : List TypeDef) (required : Vec Required Global) (m : Walked) → ((s : Address) → AddsFunctions a.growing.types types s w.scope.names.types (fn ∷ []) (made ∷ [])) → Requires (env_of w.scope.names.types) types (all_handles (written_types fn)) a.growing.required.items required.items → IsExtended a.growing.types types → Puts a.walked.members m.members (SideFunction fn) (function_item made) → ((ys : List SideItem) → IsSeen ys a.walked.seen → IsSeen (ys ++ SideFunction fn ∷ []) m.seen) → AddsMembers w prefix (SideFunction fn ∷ []) a (stage (record { types = types; inside = a.growing.inside; required = required }) m)
  member_function fn made types required m adds handled extended put seen = record {
    functions = made ∷ [];
    adds = record { own = handled.list; list = handled.added; holds = λ s. sides_function (resolved_scopes_of w.interfaces) (length w.interfaces.arena) s w.scope.names.types a.growing.types types a.growing.inside fn made handled.list (adds s) handled.ended };
    extended = extended;
    seen = seen;
    in_use = put.in_use;
    linked = λ s. put.linked s ∙ ap (λ (l : List ℕ). linked_on s a.walked.members.links ++ l) (none_either [] (same_side s (item_side (SideFunction fn))) ∙ kept_nothing (bare_place (lead w)) (λ y. same_side s (item_side y)) (SideFunction fn) refl);
    sorted = sorted_put a.walked.members m.members (SideFunction fn) (function_item made) put;
    keyed = put.keyed;
    are_present = λ id is ss places s. (
        let same : made ≡ function_in id (address (item_view w.item)) fn = ap (λ (l : List Function). get_or l 0 made) is in
        put.put s ∙ ap (λ (f : Function). entries_of s a.walked.members.sides ++ put_on s (role_side fn.role) (function_item f) []) same ∙ ap (λ (l : List Entry). entries_of s a.walked.members.sides ++ l) (put_kept s (role_side fn.role) (function_item (function_in id (address (item_view w.item)) fn)) []));
    leads = λ link among. absurd (let same : SideFunction fn ≡ SideLink link = contains_one (SideFunction fn) (SideLink link) among in let wrong : ⊥ = cc in wrong);
  }

  -- an interface by its path
  pub member_link : (link : Link) (id : ℕ) (m : Walked) → lead w link.path ≡ Some id → slice_get (interfaces_at (prefix_of w.interfaces.files) w.interfaces.arena) id ≡ Some (path_scope (item_view w.item).top link.path) → Puts a.walked.members m.members (SideLink link) (link_item link id) → ((ys : List SideItem) → IsSeen ys a.walked.seen → IsSeen (ys ++ SideLink link ∷ []) m.seen) → AddsMembers w prefix (SideLink link ∷ []) a (stage a.growing m)
  member_link link id m leads present put seen = record {
    functions = [];
    adds = record { own = []; list = sym (append-nil a.growing.required.items); holds = λ s. sides_link (resolved_scopes_of w.interfaces) (length w.interfaces.arena) s w.scope.names.types a.growing.types a.growing.inside link };
    extended = record { more = []; is = sym (append-nil a.growing.types) };
    seen = seen;
    in_use = put.in_use;
    linked = λ s. put.linked s ∙ ap (λ (l : List ℕ). linked_on s a.walked.members.links ++ l) (kept_one (bare_place (lead w)) (λ y. same_side s (item_side y)) (SideLink link) (key_places (link_item link id).0) (ap (λ (o : Option ℕ). option_map_or (λ (own : Id). []) link.name (option_to_list o)) leads ∙ bare_key link.name id));
    sorted = sorted_put a.walked.members m.members (SideLink link) (link_item link id) put;
    keyed = put.keyed;
    are_present = λ of made ss places s.
        put.put s
        ∙ ap (λ (n : ℕ). entries_of s a.walked.members.sides ++ put_on s link.side (link_item link n) []) (sym (places.interfaces.at id _ present))
        ∙ ap (λ (l : List Entry). entries_of s a.walked.members.sides ++ l) (put_kept s link.side (link_item link (scope_place ss (path_scope (item_view w.item).top link.path))) []);
    leads = λ l among. (id, subst (λ (k : Link). lead w k.path ≡ Some id) (let both : SideLink link ≡ SideLink l = contains_one (SideLink link) (SideLink l) among in let same : link ≡ l = cc in same) leads);
  }

  -- an inline interface
  pub member_inline : (x : InlineInterface) (u : Item) (g : Growing) (m : Walked) → inline_after (item_view w.item) prefix (inline_side x ∷ []) ≡ u ∷ [] → AddsInside w.interfaces a.growing g u → Puts a.walked.members m.members (inline_side x) (inline_entry x.written.now x.name (next_place w.interfaces a.growing.inside)) → ((ys : List SideItem) → IsSeen ys a.walked.seen → IsSeen (ys ++ inline_side x ∷ []) m.seen) → AddsMembers w prefix (inline_side x ∷ []) a (stage g m)
  member_inline x u g m own step put seen = record {
    functions = [];
    adds = record {
      own = step.2.appends.own;
      list = step.2.appends.list;
      holds = λ s.
          let cs = resolved_scopes_of w.interfaces in
          let count = length w.interfaces.arena in
          let names = w.scope.names.types in
          let one = sides_inline cs count s names a.growing.types g.types a.growing.inside step.0 step.2.appends.own x.written.now x.name x.items.now u step.2.appends.holds in
          subst (λ (us : List Item). AddsSides cs count s names a.growing.types g.types a.growing.inside g.inside [] step.2.appends.own (inline_side x ∷ []) us) (sym own) (
          subst (λ (l : List Interface). AddsSides cs count s names a.growing.types g.types a.growing.inside l [] step.2.appends.own (inline_side x ∷ []) (u ∷ [])) (sym step.1) one);
    };
    extended = step.2.extended;
    seen = seen;
    in_use = put.in_use;
    linked = λ s. put.linked s ∙ ap (λ (l : List ℕ). linked_on s a.walked.members.links ++ l) (none_either [] (same_side s (item_side (inline_side x))) ∙ kept_nothing (bare_place (lead w)) (λ y. same_side s (item_side y)) (inline_side x) refl);
    sorted = sorted_put a.walked.members m.members (inline_side x) (inline_entry x.written.now x.name (next_place w.interfaces a.growing.inside)) put;
    keyed = put.keyed;
    are_present = λ of made ss places s.
        let there = places.inline 0 (address u) (ap (λ (us : List Item). slice_get (map address us) 0) own) ∙ add-zero (next_place w.interfaces a.growing.inside) in
        let entry : ℕ → Entry = λ n. inline_entry x.written.now x.name n in
        put.put s
        ∙ ap (λ (n : ℕ). entries_of s a.walked.members.sides ++ put_on s x.written.now.side (entry n) []) (sym there)
        ∙ ap (λ (l : List Entry). entries_of s a.walked.members.sides ++ l) (put_kept s x.written.now.side (entry (scope_place ss (address u))) [] ∙ ap (λ (us : List Item). entries_on s (map (λ (i : Item). (x.written.now.side, entry (scope_place ss (address i)))) us)) (sym own ∙ append-nil (inline_item (item_view w.item) (length (filter is_interface (items_on x.written.now.side prefix))) (inline_side x))));
    leads = λ link among. absurd (let same : inline_side x ≡ SideLink link = contains_one (inline_side x) (SideLink link) among in let wrong : ⊥ = cc in wrong);
  }
