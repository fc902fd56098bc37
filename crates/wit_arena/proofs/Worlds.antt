-- Worlds that were added are done, after interfaces, each with the interfaces that are written in it.
use Rattle.std.proofs.Common.{◌≡◌, ℕ, true, false, List, [], ◌∷◌, ◌++◌, length, map, Some, inl, inr, refl, sym, ap, ◌∙◌, subst, append_assoc, arith, length-append}
use Rattle.wit_arena.proofs.Names.{IsOrder, own_interface, own_world, rows_of, Address, Id, WorldItem, WorldKey, WorldSide, world_entries, AddsForeign, AddsWorld, AreRequired, Function, FunctionKey, Imported, Interface, Item, Names, Occurrence, PackageFile, Required, ScopeName, Turned, TypeDef, World, address, all_handles, all_items, all_occurrences, append-nil, at_seam, flat_map, flat_map-append, foreign_interfaces, foreign_worlds, functions, import_types, in_turn, includes, inline_items, keys, length-inline_after, length-map, local_names, map-append, name_types, nil_from_length, scope_names, settled, side_items, slice_get, turn_handles, visited, world_functions, AreNames, Extends, GivesPlaces, Key, at_part, env_of, in_turn_distinct, names_in, scope_place, entries_on, function_in, name_places, type_imports}
use Rattle.wit_arena.proofs.Visits.{AreUsableUses}
use Rattle.wit_arena.proofs.Ordered.{all_turns, item_order, item_order_is, item_turn, turned, world_turns}
use Rattle.wit_arena.proofs.DoneWorlds.{InterfacesDone, inside_of, interface_list, world_list, decls, world_resolved_scope, DoneWorld, own_scope, scopes_of, all_within, AreWorldsDone, named_world, own_types, written_more, scopes_more, handles_more, world_sides, all_addresses}
use Rattle.wit_arena.proofs.Sided.{AreSided}
use Rattle.wit_arena.proofs.DoneNames.{required_there}
use Rattle.wit_arena.proofs.PlacingFunctions.{names_placed}
use Rattle.wit_arena.proofs.FreeNames.{free_of}
use Rattle.wit_arena.proofs.Prefix.{prefix_scopes}
use Rattle.wit_arena.proofs.Interfaces.{AreItems, AreOfSort, world_address, scopes_placed}
use Rattle.wit_arena.proofs.ScopesInTurn.{AreLaid, laid_none, laid_more}
use Rattle.wit_arena.proofs.Occurrence.{collects_longer}
use Rattle.wit_arena.proofs.OneKind.{Extended, extended_trans}
use Rattle.wit_arena.proofs.Required.{in_scope, required_none, required_append, required_extended}
use Rattle.wit_arena.proofs.Settled.{settled_none, settled_types}
use Rattle.wit_arena.proofs.Resolving.{DoneScope, turn_of, resolved_scope_of, IsDone, done_as}
use Rattle.wit_arena.proofs.WorldSides.{count_inside, inside_split, world_scoped, world_added, interface_added, c, names_done, sides_done, added}
use Rattle.wit_arena.proofs.Turns.{all_name_occurrences, names_turn}
use Rattle.wit_arena.proofs.Placing.{gives_fewer, gives_in, place_in}
use Rattle.wit_arena.proofs.MadeWorlds.{type_imports-as_stated}
use Rattle.wit_arena.proofs.MadeSides.{entries_types}
use Rattle.wit_arena.proofs.Members.{entries_walked}

module _ (files : List PackageFile) (is ws : List Item) (interfaces : AreOfSort false is) (worlds : AreOfSort true ws) (is_items : AreItems files is) (ws_items : AreItems files ws) (uses : AreUsableUses files (all_items files)) (es : List TypeDef) (prefix : List Interface) (wprefix : List World) (foreign : AddsForeign files es prefix wprefix) (middle : List TypeDef) (xs : List Interface) (irs : List Required) (d : InterfacesDone files is ws prefix is middle xs irs) where
  abbrev ss : List Address
  ss = map visited (foreign_interfaces files)

  abbrev others : List Address
  others = map visited (foreign_worlds files)

  abbrev before : List DoneScope
  before = prefix_scopes files prefix ++ d.scopes

  -- the first worlds are done, after all interfaces
  abbrev WorldsDone : List Item → List TypeDef → List World → List Interface → List Required → Type 0
  WorldsDone us new arena inline rs = AreWorldsDone files is ws wprefix before us new arena inline rs

  module _ (us : List Item) (old : List TypeDef) (arena : List World) (inline : List Interface) (qs : List Required) (e : WorldsDone us old arena inline qs) (w : Item) (next : slice_get ws (length us) ≡ Some w) where
    abbrev s : Address
    s = address w

    abbrev first : List DoneScope
    first = before ++ flat_map scopes_of e.scopes

    abbrev written : List Occurrence
    written = all_occurrences files (all_turns files is us)

    -- what this world adds
    module _ (new : List TypeDef) (arena' : List World) (inline' : List Interface) (rs : List Required) (adds : AddsWorld ss others (prefix ++ xs) old new arena arena' inline inline' rs w) where
      abbrev turns_names : List ScopeName
      turns_names = in_turn (scope_names w) adds.adds.order

      abbrev both : List (FunctionKey × Function)
      both = world_functions adds.added

      abbrev closed : DoneScope
      closed = c files is ws interfaces worlds is_items ws_items uses es prefix wprefix foreign middle xs irs d us old arena inline qs e w next adds.middle adds.types adds.adds both

      abbrev names_part : IsDone files (decls files is ws) (written ++ all_name_occurrences s turns_names) (first ++ closed ∷ []) adds.middle
      names_part = names_done files is ws interfaces worlds is_items ws_items uses es prefix wprefix foreign middle xs irs d us old arena inline qs e w next adds.middle adds.types adds.adds both

      sided : AreSided files (decls files is ws) (written ++ all_name_occurrences s turns_names) (first ++ closed ∷ []) (keys names_part.seen) s new inline inline' adds.functions adds.rest (side_items w) (inline_items w)
      sided = sides_done files is ws interfaces worlds is_items ws_items uses es prefix wprefix foreign middle xs irs d us old arena inline qs e w next adds.middle adds.types adds.adds both new inline' adds.functions adds.rest (side_items w) (inline_items w) (λ k i at. at) adds.sides

      abbrev sides : List Turned
      sides = world_sides files w

      abbrev ks : List Key
      ks = keys sided.done.seen

      -- all that are written in it are there
      items_all : sided.items ≡ inline_items w
      items_all =
          let long : length (sided.items ++ sided.left) ≡ length (inline_items w) = ap length sided.first in
          let parts = length-append sided.items sided.left in
          let used = sided.consumed in
          let count = length-inline_after w [] (side_items w) in
          let none : sided.left ≡ [] = nil_from_length sided.left (omega (arith, long, parts, used, count)) in
          sym (append-nil sided.items) ∙ ap (λ (l : List Item). sided.items ++ l) (sym none) ∙ sided.first

      -- its names have its order
      ordered : item_order files w ≡ adds.adds.order
      ordered = item_order_is files w adds.adds.order (world_scoped files is ws interfaces worlds is_items ws_items uses es prefix wprefix foreign middle xs irs d us old arena inline qs e w next) adds.adds.least

      are : world_turns files w ≡ names_turn s turns_names ∷ sides
      are = ap (λ (l : List ℕ). names_turn s (in_turn (scope_names w) l) ∷ sides) ordered

      abbrev named : Extends (decls files is ws) e.done.seen (all_name_occurrences s turns_names) adds.middle (λ ks. AreNames ks s (env_of adds.types) × (names_in adds.types ≡ local_names turns_names))
      named = added files is ws interfaces worlds is_items ws_items uses es prefix wprefix foreign middle xs irs d us old arena inline qs e w next adds.middle adds.types adds.adds both

      extended_before : Extended (keys e.done.seen) ks
      extended_before = extended_trans (collects_longer written (all_name_occurrences s turns_names) [] e.done.seen names_part.seen e.done.collects names_part.collects) sided.extended

      abbrev world_done : DoneWorld
      world_done = record { own = closed; inside = sided.scopes }

      all_required : AreRequired files ks (flat_map turn_handles (flat_map (world_turns files) (us ++ w ∷ []))) (qs ++ rs)
      all_required =
          let old_handles = flat_map turn_handles (flat_map (world_turns files) us) in
          let own_handles = map (in_scope s) (all_handles (flat_map name_types turns_names)) in
          let side_handles = flat_map turn_handles sides in
          let own = required_extended files sided.extended own_handles adds.own (required_there files (decls files is ws) (written ++ all_name_occurrences s turns_names) (first ++ closed ∷ []) adds.middle names_part (length first) closed (at_seam first closed) (all_handles (flat_map name_types turns_names)) adds.own adds.ended) in
          let whole = required_append files ks old_handles (own_handles ++ side_handles) qs (adds.own ++ adds.rest) (required_extended files extended_before old_handles qs e.required) (required_append files ks own_handles side_handles adds.own adds.rest own sided.required) in
          subst (λ (hs : List (Address × Id)). AreRequired files ks hs (qs ++ rs)) (sym (handles_more files w turns_names are us)) (subst (λ (l : List Required). AreRequired files ks (old_handles ++ (own_handles ++ side_handles)) (qs ++ l)) (sym adds.requires) whole)

      typed : (id : Key → ℕ) → GivesPlaces id ks → adds.types ≡ name_places id s turns_names
      typed id gives = names_placed id (keys names_part.seen) (gives_fewer sided.extended id gives) s turns_names adds.types (in_turn_distinct (scope_names w) adds.adds.order adds.adds.least adds.adds.distinct) named.holds.1 named.holds.0

      -- over places it is this world
      world_is : (id : Key → ℕ) → GivesPlaces id ks → (ss vs : List Address) → GivesPlaces (scope_place ss) (interface_list files is (inside_of ws)) → GivesPlaces (scope_place vs) (world_list files ws) → adds.added ≡ own_world id (λ i. adds.adds.order) ss vs w
      world_is id gives ss vs here there =
          adds.made id (typed id gives) (sided.functions id gives) (map address (inside_of us)) (length-map (inside_of us) address ∙ sym (count_inside files is ws interfaces worlds is_items ws_items uses es prefix wprefix foreign middle xs irs d us old arena inline qs e w next)) ss vs
          (record { at = λ t x at. here.at t x (interface_added files is ws interfaces worlds is_items ws_items uses es prefix wprefix foreign middle xs irs d us old arena inline qs e w next t x at) })
          (record { at = λ t x at. there.at t x (world_added files is ws interfaces worlds is_items ws_items uses es prefix wprefix foreign middle xs irs d us old arena inline qs e w next t x at) })

      world_in_order : (id : Key → ℕ) → GivesPlaces id ks → (ss vs : List Address) → GivesPlaces (scope_place ss) (interface_list files is (inside_of ws)) → GivesPlaces (scope_place vs) (world_list files ws) → adds.added ≡ own_world id (item_order files) ss vs w
      world_in_order id gives ss vs here there = world_is id gives ss vs here there ∙ ap (λ (l : List ℕ). own_world id (λ i. l) ss vs w) (sym ordered)

      is_resolved_scope : resolved_scope_of closed ≡ world_resolved_scope adds.added
      is_resolved_scope =
          let id = place_in ks 0 in
          let gives = gives_in ks 0 sided.done.occurrence.once in
          let differ = all_addresses files is ws interfaces worlds is_items ws_items in
          let all = interface_list files is (inside_of ws) in
          let it = world_is id gives all (world_list files ws) (scopes_placed all differ.interfaces) (scopes_placed (world_list files ws) differ.worlds) in
          let on = entries_on Imported (world_entries id all w) in
          let imports = ap (λ (x : World). x.imports) it ∙ ap (λ (l : List (WorldKey × WorldItem)). settled (includes w) (l ++ on)) (sym (type_imports-as_stated id s turns_names) ∙ ap (type_imports turns_names) (sym (typed id gives))) ∙ settled_types (includes w) turns_names adds.types on in
          let none = settled_none import_types (includes w) on (ap (λ (l : List (WorldSide × (WorldKey × WorldItem))). flat_map import_types (entries_on Imported l)) (entries_walked w id all) ∙ entries_types (function_in id s) all w.top Imported (side_items w) (inline_items w)) in
          let types = own_types turns_names adds.types (settled (includes w) on) adds.added named.holds.1 imports none in
          ap (λ (x : Address). record { address = x; types = adds.types; functions = free_of both }) (world_address w (worlds.each (length us) w next))
          ∙ ap (named_world adds.types both) (sym (ap (λ (x : World). x.name) it))
          ∙ ap (λ (x : Names). named_world x both adds.added.name) (sym types)

      all_laid : AreLaid files world_resolved_scope ws (us ++ w ∷ []) (e.own ++ adds.added ∷ []) (map own_scope (e.scopes ++ world_done ∷ []))
      all_laid = rw (map-append own_scope e.scopes (world_done ∷ [])) (laid_more files world_resolved_scope ws us e.own (map own_scope e.scopes) w closed adds.added e.laid next (subst (λ (l : List ℕ). IsOrder (rows_of (scope_names w)) l) (sym ordered) adds.adds.least) (ap (λ (l : List ℕ). turned (record { item = w; order = l })) (sym ordered)) is_resolved_scope)

      inside_scopes : all_within (e.scopes ++ world_done ∷ []) ≡ all_within e.scopes ++ sided.scopes
      inside_scopes = flat_map-append (λ (x : DoneWorld). x.inside) e.scopes (world_done ∷ []) ∙ ap (λ (l : List DoneScope). all_within e.scopes ++ l) (append-nil sided.scopes)

      -- one world more
      pub world_more : WorldsDone (us ++ w ∷ []) new arena' inline' (qs ++ rs)
      world_more =
          let split = inside_split files is ws interfaces worlds is_items ws_items uses es prefix wprefix foreign middle xs irs d us old arena inline qs e w next in
          record {
            scopes = e.scopes ++ world_done ∷ [];
            own = e.own ++ adds.added ∷ [];
            arena = adds.last ∙ ap (λ (l : List World). l ++ adds.added ∷ []) e.arena ∙ append_assoc wprefix e.own (adds.added ∷ []);
            laid = all_laid;
            inside_turns = ap (map turn_of) inside_scopes ∙ map-append turn_of (all_within e.scopes) sided.scopes ∙ ap (λ (l : List Turned). l ++ map turn_of sided.scopes) e.inside_turns ∙ ap (λ (l : List Turned). map (item_turn files) (inside_of us) ++ l) (sided.turns ∙ ap (map (item_turn files)) items_all) ∙ sym (map-append (item_turn files) (inside_of us) (inline_items w)) ∙ ap (map (item_turn files)) (sym split);
            inside_least = λ t u at. elim (at_part (inside_of us) (inline_items w) t u (ap (λ (l : List Item). slice_get l t) (sym split) ∙ at)) [
              | inl h ↦ e.inside_least h.0 u h.1
              | inr h ↦ sided.least h.0 u (ap (λ (l : List Item). slice_get l h.0) items_all ∙ h.1)
            ];
            done = done_as (sym (written_more files w turns_names are is us)) (sym (scopes_more before e.scopes world_done)) sided.done;
            made = λ id gives ss vs here there. ap (λ (l : List World). l ++ adds.added ∷ []) (e.made id (gives_fewer extended_before id gives) ss vs here there) ∙ ap (λ (v : World). map (own_world id (item_order files) ss vs) us ++ v ∷ []) (world_in_order id gives ss vs here there) ∙ sym (map-append (own_world id (item_order files) ss vs) us (w ∷ []));
            inside_made = λ id gives.
                let made = own_interface id (item_order files) in
                sided.last ∙ ap (λ (l : List Interface). l ++ sided.added) (e.inside_made id (gives_fewer extended_before id gives)) ∙ ap (λ (l : List Interface). map made (inside_of us) ++ l) (sided.made id gives ∙ ap (map made) items_all) ∙ sym (map-append made (inside_of us) (inline_items w)) ∙ ap (map made) (sym split);
            required = all_required;
          }

  -- no world is done yet
  pub no_world : WorldsDone [] middle wprefix [] []
  no_world = record {
    scopes = [];
    own = [];
    arena = sym (append-nil wprefix);
    laid = laid_none files world_resolved_scope ws;
    inside_turns = refl;
    inside_least = λ t u at. absurd (let f : ⊥ = cc in f);
    done = done_as (ap (all_occurrences files) (sym (append-nil (map (item_turn files) is)))) (sym (append-nil before)) d.done;
    made = λ id gives ss vs here there. refl;
    inside_made = λ id gives. refl;
    required = required_none files (keys d.done.seen);
  }
