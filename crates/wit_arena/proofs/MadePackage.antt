-- Files whose interfaces and worlds are all done make a package of these arenas.
use Rattle.std.proofs.Common.{◌≡◌, ℕ, ◌+◌, List, [], ◌++◌, length, Some, inl, inr, refl, sym, ap, ◌∙◌, subst, Contains, append_assoc}
use Rattle.std.proofs.Math.Path.{fun_ext}
use Rattle.wit_arena.proofs.Names.{AddsForeign, Address, AreRequired, Collects, Fault, Id, Interface, IsBrokenNames, IsEntryOf, IsOrder, Item, Key, Makes, Occurrence, PackageFile, Required, TypeDef, UnresolvedPackage, World, all_items, all_occurrences, all_scopes, at_back, at_contains, at_prefix, at_split, cases_Bool, first_docs, first_foreign_uses, firsts, flat_map, flat_map-append, flat_map_has, foreign_interface, foreign_interfaces, foreign_use_occurrence, foreign_uses, foreign_world, foreign_worlds, headers, in_order, inline_items, inline_items_none, interface_scopes, interfaces_of, is_world, item_rows, item_turns, kept_has, keys, last_header, map, map-append, option_map, own_interface, own_interfaces, own_world, owner_at, package_of, position_or_len, rows_of, scope, scope_names, scopes_either, slice_get, take, turn_handles, turns_walked, world_scopes, worlds_of, GivesPlaces, not}
use Rattle.wit_tree.specs.declared.tree.PackageName.{PackageName as Header}
use Rattle.wit_arena.proofs.Ordered.{all_turns, item_order, item_turn, order_of_rows, world_turns}
use Rattle.wit_arena.proofs.PackageIfDone.{NamesOthers}
use Rattle.wit_arena.proofs.SameKeys.{same_key, same_key_determines}
use Rattle.wit_arena.proofs.OneKind.{Extended}
use Rattle.wit_arena.proofs.Occurrence.{collects-firsts, collects_longer}
use Rattle.wit_arena.proofs.Placing.{gives_fewer, gives_places, gives_used}
use Rattle.wit_arena.proofs.Prefix.{prefix_scopes}
use Rattle.wit_arena.proofs.DoneWorlds.{AreWorldsDone, InterfacesDone, all_addresses, turns_occurrences}
use Rattle.wit_arena.proofs.ForeignUses.{foreign_uses_seen}
use Rattle.wit_arena.proofs.Interfaces.{interfaces_sort, scopes_placed, worlds_sort}
use Rattle.wit_arena.proofs.Itemizing.{item_index}
use Rattle.wit_arena.proofs.LegalScopes.{distinct_items}
use Rattle.wit_arena.proofs.OrderedItems.{are_interfaces, are_worlds}
use Rattle.wit_arena.proofs.Required.{required_append, required_extended}
use Rattle.wit_arena.proofs.Turns.{occurrences}

module _ (files : List PackageFile) (places : List ℕ) (order : IsOrder (item_rows files) places) (unbroken : (f : Fault) → IsBrokenNames files f → ⊥) (start middle : List TypeDef) (prefix xs : List Interface) (wprefix : List World) (foreign : AddsForeign files start prefix wprefix) (irs wrs : List Required) (new : List TypeDef) (arena : List World) (inline : List Interface) (d : InterfacesDone files (interfaces_of (in_order (all_items files) places)) (worlds_of (in_order (all_items files) places)) prefix (interfaces_of (in_order (all_items files) places)) middle xs irs) (e : AreWorldsDone files (interfaces_of (in_order (all_items files) places)) (worlds_of (in_order (all_items files) places)) wprefix (prefix_scopes files prefix ++ d.scopes) (worlds_of (in_order (all_items files) places)) new arena inline wrs) where
  abbrev items : List Item
  items = in_order (all_items files) places

  abbrev is : List Item
  is = interfaces_of items

  abbrev ws : List Item
  ws = worlds_of items

  abbrev of : Item → List ℕ
  of = item_order files

  abbrev ks : List Key
  ks = keys e.done.seen

  abbrev place : Key → ℕ
  place k = position_or_len (λ (m : Occurrence). same_key k m.key) e.done.seen

  gives : GivesPlaces place ks
  gives = gives_places same_key same_key_determines e.done.seen place (λ k. refl) e.done.occurrence.once

  -- what occurred in the interfaces, and of other packages, occurred
  interfaces_extended : Extended (keys d.done.seen) ks
  interfaces_extended = collects_longer (all_occurrences files (map (item_turn files) is)) (occurrences (flat_map (world_turns files) ws)) [] d.done.seen e.done.seen d.done.collects (subst (λ (l : List Occurrence). Collects [] l e.done.seen) (turns_occurrences files (map (item_turn files) is) (flat_map (world_turns files) ws)) e.done.collects)

  foreign_extended : Extended (keys (map foreign_use_occurrence (first_foreign_uses files))) ks
  foreign_extended = collects_longer (map foreign_use_occurrence (foreign_uses files)) (occurrences (all_turns files is ws)) [] (map foreign_use_occurrence (first_foreign_uses files)) e.done.seen (foreign_uses_seen files) e.done.collects

  interfaces_made : (prefix ++ xs) ++ inline ≡ map (foreign_interface files place) (foreign_interfaces files) ++ map (own_interface place of) (own_interfaces items)
  interfaces_made =
      let others = map (foreign_interface files place) (foreign_interfaces files) in
      append_assoc prefix xs inline
      ∙ ap (λ (l : List Interface). l ++ (xs ++ inline)) (foreign.interfaces place (gives_fewer foreign_extended place gives))
      ∙ ap (λ (l : List Interface). others ++ (l ++ inline)) (d.made place (gives_fewer interfaces_extended place gives))
      ∙ ap (λ (l : List Interface). others ++ (map (own_interface place of) is ++ l)) (e.inside_made place gives)
      ∙ ap (λ (l : List Interface). others ++ l) (sym (map-append (own_interface place of) is (flat_map inline_items ws)))

  worlds_made : arena ≡ map foreign_world (foreign_worlds files) ++ map (own_world place of (interface_scopes files items) (world_scopes files items)) ws
  worlds_made =
      let differ = all_addresses files is ws (interfaces_sort items) (worlds_sort items) (are_interfaces files places order (distinct_items files unbroken)) (are_worlds files places order (distinct_items files unbroken)) in
      e.arena
      ∙ ap (λ (l : List World). l ++ e.own) foreign.worlds
      ∙ ap (λ (l : List World). map foreign_world (foreign_worlds files) ++ l) (e.made place gives (interface_scopes files items) (world_scopes files items) (scopes_placed (interface_scopes files items) differ.interfaces) (scopes_placed (world_scopes files items) differ.worlds))

  types_made : (n : ℕ) (m : Occurrence) (t : TypeDef) → slice_get e.done.seen n ≡ Some m → slice_get new n ≡ Some t → IsEntryOf (scope files) (owner_at (interface_scopes files items) (world_scopes files items)) place (take n new) m.key m.span m.given t
  types_made n m t at_m at_t = e.done.occurrence.each n m t at_m at_t place (gives_used place ks gives n)

  -- as it is resolved
  turns_are : all_turns files is ws ≡ item_turns of items
  turns_are = ap (λ f. map (item_turn files) is ++ flat_map f ws) (sym (fun_ext (λ (i : Item). turns_walked i of)))

  -- what their handles require of other packages
  required_made : AreRequired files ks (flat_map turn_handles (item_turns of items)) (irs ++ wrs)
  required_made =
      let own = map (item_turn files) is in
      let turns = flat_map (world_turns files) ws in
      subst (λ ts. AreRequired files ks (flat_map turn_handles ts) (irs ++ wrs)) turns_are (subst (λ (hs : List (Address × Id)). AreRequired files ks hs (irs ++ wrs)) (sym (flat_map-append turn_handles own turns)) (required_append files ks (flat_map turn_handles own) (flat_map turn_handles turns) irs wrs (required_extended files interfaces_extended (flat_map turn_handles own) irs d.required) e.required))

  abbrev all : List Item
  all = own_interfaces items ++ worlds_of items

  -- each scope of files is that of one: of a declared item, or of an interface that is written in a world
  declared_listed : (i : Item) → Contains (all_items files) i → (k : ℕ) × (slice_get all k ≡ Some i)
  declared_listed i among =
      let p = at_contains (all_items files) i among in
      let t = item_index files places order p.0 i p.1 in
      elim (cases_Bool (is_world i)) [
        | inl world ↦ (let k = kept_has is_world items t.0 i world t.2 in (length (own_interfaces items) + k.0, at_back (own_interfaces items) (worlds_of items) k.0 i k.1))
        | inr other ↦ (
            let k = kept_has (λ (v : Item). not (is_world v)) items t.0 i (ap not other) t.2 in
            (k.0, at_prefix (own_interfaces items) (worlds_of items) k.0 i (at_prefix (interfaces_of items) (flat_map inline_items (worlds_of items)) k.0 i k.1)))
      ]

  inside_listed : (w i : Item) → Contains (all_items files) w → Contains (inline_items w) i → (k : ℕ) × (slice_get all k ≡ Some i)
  inside_listed w i among inside =
      let p = at_contains (all_items files) w among in
      let t = item_index files places order p.0 w p.1 in
      let j = at_contains (inline_items w) i inside in
      elim (cases_Bool (is_world w)) [
        | inl world ↦ (
            let k = kept_has is_world items t.0 w world t.2 in
            let n = flat_map_has inline_items (worlds_of items) k.0 j.0 w i k.1 j.1 in
            (length (interfaces_of items) + n.0, at_prefix (own_interfaces items) (worlds_of items) (length (interfaces_of items) + n.0) i (at_back (interfaces_of items) (flat_map inline_items (worlds_of items)) n.0 i n.1)))
        | inr other ↦ absurd (let none : slice_get [] j.0 ≡ Some i = ap (λ (l : List Item). slice_get l j.0) (sym (inline_items_none w other)) ∙ j.1 in let f : ⊥ = cc in f)
      ]

  scope_listed : (i : Item) → Contains (all_scopes files) i → (k : ℕ) × (slice_get all k ≡ Some i)
  scope_listed i among = elim (scopes_either files i among) [
    | inl own ↦ declared_listed i own
    | inr it ↦ inside_listed it.0 i it.1 it.2
  ]

  -- so its names are in the order
  names_in_order : (i : Item) → Contains (all_scopes files) i → IsOrder (rows_of (scope_names i)) (of i)
  names_in_order i among =
      let k = scope_listed i among in
      elim (at_split (own_interfaces items) ws k.0 i k.1) [
        | inl own ↦ elim (at_split is (flat_map inline_items ws) k.0 i own) [
          | inl declared ↦ d.laid.least k.0 i declared
          | inr inside ↦ e.inside_least inside.0 i inside.2
        ]
        | inr world ↦ e.laid.least world.0 i world.2
      ]

  pub makes : (p : UnresolvedPackage) → p.types ≡ new → p.interfaces ≡ (prefix ++ xs) ++ inline → p.worlds ≡ arena → p.required_resource_types ≡ irs ++ wrs → option_map package_of (last_header files) ≡ Some p.name → option_map (λ (h : Header). h.span) (last_header files) ≡ Some p.name_span → p.docs ≡ first_docs (headers files) → NamesOthers files p → Makes files p
  makes p types interfaces worlds required name span docs others = record {
    name = name;
    name_span = span;
    docs = docs;
    deps = others.0;
    dep_spans = others.1;
    unknown = others.2;
    items = items;
    in_order = (places, order, refl);
    order = of;
    by_address = λ i j same. ap (λ (s : Address). (order_of_rows (rows_of (scope files s))).0) same;
    names_in_order = names_in_order;
    same = same_key;
    gives = same_key_determines;
    seen = e.done.seen;
    first = collects-firsts same_key same_key_determines (all_occurrences files (all_turns files is ws)) e.done.seen e.done.collects ∙ ap (λ ts. firsts (λ (a b : Occurrence). same_key a.key b.key) (all_occurrences files ts)) turns_are;
    id = place;
    places = λ k. refl;
    count = rw types e.done.occurrence.count;
    types = rw types types_made;
    interfaces = interfaces ∙ interfaces_made;
    worlds = worlds ∙ worlds_made;
    required = rw required required_made;
  }
