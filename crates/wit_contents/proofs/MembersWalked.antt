-- The first fault of a link of a world, by the interfaces that are resolved, is that of the walk of files.
use Rattle.std.proofs.Common.{◌≡◌, ℕ, ◌+◌, suc, Bool, true, false, not, ◌||◌, List, [], ◌∷◌, ◌++◌, nat_eq, Option, Some, None, IsSome, inl, inr, refl, sym, ap, ◌∙◌, arith, map, Contains, length}
use Rattle.wit_contents.proofs.Names.{Address, Fault, Foreign, ForeignNamed, ForeignVisit, Id, InterfaceNamed, Link, Local, Names, PackageFile, PackageName, SideFunction, SideInline, SideItem, SideLink, Target, TopName, UsePath, all_items, cases_Bool, env_of, find_at, find_passes, flat_map, foreign_at, foreign_interfaces, foreign_items, if◌then◌else◌, interface_place, interfaces_differ, is_none, is_same_link, is_world, is_world_at, item_link, item_named, item_word, items_on, kept_has, leads, link_fault, linked_fault, linked_twice, list_any, lost_fault, metadata_fault, missing_at, number_equal, option_map, option_map_or, option_or, option_to_list, or_assoc, path_id, path_place, path_scope, place_at, place_at-found, prefix_of, reached_fault, same_address, same_address-equal, same_address-from, slice_get, slice_get-map, some_of, target_scope, unresolved_fault, visited, world_there, ◌&&◌, AddsMembers, AreRightMembers, Called, Exported, Extern, Imported, InterfaceItem, Interfaces, IsRightOf, IsStart, ItemWalk, Known, Name, ScopeName, Sorted, SourceFunction, Stage, TheInline, TypeDef, WorldSide, about, address, called_fault, clash-made, contains_at, crossed, entry_sorted, external_fault, filter, first_in, function_fault, handle_fault, in-map, in_turn, inline_after, inline_item, interfaces_at, is_extern, is_interface, item_called, item_function, item_name, item_side, item_sorted, kept_at, lead, local_id, local_names, map_map, member_fault, name_called, names_in, names_on, next_place, or_none_both, own_fault, put_fault, put_link_fault, same_side, scope_names, side_items, side_sorted, signed_fault, sorted_on, stability_fault, stage, type_imports, item_view, crossed_same, sides_sorted, side_called, sorted_name, crossed_among, repeat_of, word_fault}
use Rattle.wit_arena.proofs.Common.{Item}
use Rattle.wit_items.proofs.Common.{linked_fault as again_fault, ordered_fault}
use Rattle.wit_contents.specs.declared.making.Growing.{Growing}
use Rattle.wit_contents.specs.declared.walk.Walked.{Walked}
use Rattle.wit_signatures.specs.FunctionsOfScope.{name_key, name_of_id}
use Rattle.wit_sides.specs.SideNames.{defined_on}
use Rattle.wit_externs.specs.Clash.{again_fault as twice_fault, EndsIn, item_names, linked_on, signed_by, bare_place}
use Rattle.wit_item_entries.proofs.NameOrder.{all_used, bare_name}
use Rattle.wit_world_sides.specs.declared.members.Members.{Members}
use Rattle.wit_contents.proofs.PathsWalked.{in_same}
use Rattle.wit_contents.proofs.Walked.{repeat-made}
use Rattle.wit_entries.specs.EntryFaults.{IsExtended}
use Rattle.wit_entries.proofs.Requiring.{extended_then}
use Rattle.wit_externs.proofs.Steps.{at_middle}
use Rattle.wit_links.proofs.Leading.{called_at}
use Rattle.wit_walk.proofs.Common.{clash_of}
use Rattle.wit_externs.proofs.AloneFaults.{again as same_again}

abbrev wants : ForeignVisit → Bool
wants v = v.wants_world

abbrev is_at : Address → ForeignVisit → Bool
is_at s v = same_address (visited v) s

-- the place of an interface of another package that files visit
foreign_placed : (files : List PackageFile) (p : PackageName) (id : Id) → is_world_at files (Foreign p id) ≡ Some false → (j : ℕ) × (place_at (prefix_of files) (ForeignNamed p id.name.now) ≡ Some j)
foreign_placed files p id usable = of_visit (ForeignNamed p id.name.now) (foreign_at files (ForeignNamed p id.name.now)) refl usable
  where
    of_visit : (s : Address) (o : Option ForeignVisit) → foreign_at files s ≡ o → option_map wants (foreign_at files s) ≡ Some false → (j : ℕ) × (place_at (prefix_of files) s ≡ Some j)
    of_visit s None found there = absurd (let wrong : None ≡ Some false = sym (ap (option_map wants) found) ∙ there in cc)
    of_visit s (Some v) found there =
        let both : Some v.wants_world ≡ Some false = sym (ap (option_map wants) found) ∙ there in
        let sort : v.wants_world ≡ false = cc in
        let k = find_at (is_at s) (foreign_items files) v found in
        let same = same_address-equal (visited v) s (find_passes (is_at s) (foreign_items files) v found) in
        let j = kept_has (λ (u : ForeignVisit). not u.wants_world) (foreign_items files) k.0 v (ap not sort) k.1 in
        (j.0, place_at-found (prefix_of files) s j.0 (interfaces_differ files) (slice_get-map visited (foreign_interfaces files) j.0 ∙ ap (option_map visited) j.1 ∙ ap Some same))

-- all interfaces of these files are resolved, and where an item's paths lead is visited
pub record IsLeading (files : List PackageFile) (by_name : Names) (t : Target) : Type 0 where
  pub found : (name : List ℕ) → option_map is_world (item_named (all_items files) name) ≡ Some false → IsSome (env_of by_name name)
  pub visits : (p : PackageName) (id : Id) → t ≡ Foreign p id → (v : ForeignVisit) × (foreign_at files (ForeignNamed p id.name.now) ≡ Some v)

-- so where it leads to an interface that has a place
usable_place : (files : List PackageFile) (by_name : Names) (t : Target) → IsLeading files by_name t → is_world_at files t ≡ Some false → (id : ℕ) × (interface_place (prefix_of files) by_name (target_scope InterfaceNamed t) ≡ Some id) × (unresolved_fault by_name t ≡ None)
usable_place files by_name (Local id) l usable =
    let p = some_of (env_of by_name id.name.now) (l.found id.name.now usable) in
    (p.0, p.1, ap (λ (o : Option ℕ). if is_none o then Some (missing_at 7 item_word id) else None) p.1)
usable_place files by_name (Foreign p id) l usable = (let q = foreign_placed files p id usable in (q.0, q.1, refl))

-- and where it leads to nothing a name is lost
lost_there : (files : List PackageFile) (by_name : Names) (t : Target) → IsLeading files by_name t → is_world_at files t ≡ None → (f : Fault) × (lost_fault (all_items files) t ≡ Some f)
lost_there files by_name (Local id) l none = (missing_at 7 item_word id, of_item (item_named (all_items files) id.name.now) none)
  where
    of_item : (o : Option Item) → option_map is_world o ≡ None → (if is_none o then Some (missing_at 7 item_word id) else None) ≡ Some (missing_at 7 item_word id)
    of_item None h = refl
    of_item (Some v) h = absurd (cc)
lost_there files by_name (Foreign p id) l none = absurd (
    let v = l.visits p id refl in
    let wrong : Some v.0.wants_world ≡ None = sym (ap (option_map (λ (u : ForeignVisit). u.wants_world)) v.1) ∙ none in
    cc)

nat_itself : (i : ℕ) → nat_eq i i ≡ true
nat_itself i = grind arith

same_place : (i j : ℕ) (s t : Address) (place : Address → Option ℕ) (addresses : List Address) → slice_get addresses i ≡ Some s → slice_get addresses j ≡ Some t → place s ≡ Some i → place t ≡ Some j → nat_eq i j ≡ same_address t s
same_place i j s t place addresses at_s at_t of_s of_t = elim (cases_Bool (nat_eq i j)) [
  | inl hit ↦ (
      let one : i ≡ j = number_equal i j hit in
      let both : Some t ≡ Some s = sym at_t ∙ ap (slice_get addresses) (sym one) ∙ at_s in
      let same : t ≡ s = cc in
      hit ∙ sym (same_address-from t s same))
  | inr miss ↦ elim (cases_Bool (same_address t s)) [
    | inl same ↦ absurd (
        let one : t ≡ s = same_address-equal t s same in
        let both : Some j ≡ Some i = sym of_t ∙ ap place one ∙ of_s in
        let index : j ≡ i = cc in
        let wrong : true ≡ false = sym (nat_itself i) ∙ ap (nat_eq i) (sym index) ∙ miss in
        cc)
    | inr other ↦ miss ∙ sym other
  ]
]

and_none : (b : Bool) → (b && false) ≡ false
and_none true = refl
and_none false = refl

and_or : (b c r : Bool) → (b && (c || r)) ≡ ((b && c) || (b && r))
and_or true c r = refl
and_or false c r = refl

-- links that have places, and one after them
module _ (top : List TopName) (lead : UsePath → Option ℕ) (link : Link) (id : ℕ) (addresses : List Address) (place : Address → Option ℕ) (is_lead : (path : UsePath) → lead path ≡ place (path_scope top path)) (at : slice_get addresses id ≡ Some (path_scope top link.path)) (of : lead link.path ≡ Some id) where
  -- each of these has one
  pub record HaveOwnPlaces (xs : List SideItem) : Type 0 where
    pub each : (k : ℕ) (l : Link) → slice_get xs k ≡ Some (SideLink l) → (j : ℕ) × (lead l.path ≡ Some j) × (slice_get addresses j ≡ Some (path_scope top l.path))

  abbrev bare : Bool
  bare = is_none link.name

  abbrev again : Link → Bool
  again l = is_same_link top l link

  of_link : (name : Option Id) (l : Link) (rest : List ℕ) (others : Bool) (j : ℕ) → l.name ≡ name → lead l.path ≡ Some j → slice_get addresses j ≡ Some (path_scope top l.path) → (bare && list_any (nat_eq id) rest) ≡ others → (bare && list_any (nat_eq id) (option_map_or (λ (own : Id). []) l.name (option_to_list (lead l.path)) ++ rest)) ≡ (again l || others)
  of_link (Some own) l rest others j name to there same =
      ap (λ (o : Option Id). bare && list_any (nat_eq id) (option_map_or (λ (x : Id). []) o (option_to_list (lead l.path)) ++ rest)) name
      ∙ same
      ∙ sym (ap (λ (o : Option Id). (is_none o && (bare && same_address (path_scope top l.path) (path_scope top link.path))) || others) name)
  of_link None l rest others j name to there same =
      let s = path_scope top link.path in
      let t = path_scope top l.path in
      ap (λ (o : Option Id). bare && list_any (nat_eq id) (option_map_or (λ (x : Id). []) o (option_to_list (lead l.path)) ++ rest)) name
      ∙ ap (λ (o : Option ℕ). bare && list_any (nat_eq id) (option_to_list o ++ rest)) to
      ∙ ap (λ (b : Bool). bare && (b || list_any (nat_eq id) rest)) (same_place id j s t place addresses at there (sym (is_lead link.path) ∙ of) (sym (is_lead l.path) ∙ to))
      ∙ and_or bare (same_address t s) (list_any (nat_eq id) rest)
      ∙ ap (λ (b : Bool). (bare && same_address t s) || b) same
      ∙ sym (ap (λ (o : Option Id). (is_none o && (bare && same_address t s)) || others) name)

  any_walked : (xs : List SideItem) → HaveOwnPlaces xs → (bare && list_any (nat_eq id) (flat_map (bare_place lead) xs)) ≡ list_any again (flat_map item_link xs)
  any_walked [] have = and_none bare
  any_walked (SideFunction fn ∷ xs) have = any_walked xs (record { each = λ k l there. have.each (suc k) l there })
  any_walked (SideInline x name items ∷ xs) have = any_walked xs (record { each = λ k l there. have.each (suc k) l there })
  any_walked (SideLink l ∷ xs) have =
      let own = have.each 0 l refl in
      of_link l.name l (flat_map (bare_place lead) xs) (list_any again (flat_map item_link xs)) own.0 refl own.1 own.2 (any_walked xs (record { each = λ k m there. have.each (suc k) m there }))

  -- it is one of them again
  pub again_linked_walked : (before : List SideItem) → HaveOwnPlaces (items_on link.side before) → (if is_none link.name && list_any (nat_eq id) (flat_map (bare_place lead) (items_on link.side before)) then Some (linked_twice link.side (path_id link.path).span) else None) ≡ again_fault top before link
  again_linked_walked before have = ap (λ (b : Bool). if b then Some (linked_twice link.side (path_id link.path).span) else None) (any_walked (items_on link.side before) have)

-- a link, where this is what comes of its place and its name
module _ (files : List PackageFile) (by_name : Names) (top : List TopName) (before : List SideItem) (link : Link) (leading : IsLeading files by_name (leads top link.path)) (put : ℕ → Option Fault) (named : Option Fault) (both : (id : ℕ) → path_place files by_name top link.path ≡ Some id → put id ≡ option_or (again_fault top before link) named) where
  abbrev t : Target
  t = leads top link.path

  abbrev noted : Option Fault
  noted = metadata_fault link.attributes

  abbrev lost : Option Fault
  lost = lost_fault (all_items files) t

  abbrev placed : Option ℕ
  placed = path_place files by_name top link.path

  abbrev by_tables : Option Fault
  by_tables = option_or noted (option_or (linked_fault files by_name top link.path) (option_map_or put placed None))

  abbrev by_files : Option Fault
  by_files = option_or (link_fault files top before link) named

  -- by what is there
  abbrev tables_at : Option Bool → Option Fault
  tables_at o = option_or noted (option_or (option_or (reached_fault o (path_id link.path) lost None) (unresolved_fault by_name t)) (option_map_or put placed None))

  abbrev files_at : Option Bool → Option Fault
  files_at o = option_or (option_or noted (reached_fault o (path_id link.path) lost (again_fault top before link))) named

  by : (o : Option Bool) → is_world_at files t ≡ o → tables_at o ≡ files_at o
  by None is =
      let it = lost_there files by_name t leading is in
      ap (λ (o : Option Fault). option_or noted (option_or (option_or o (unresolved_fault by_name t)) (option_map_or put placed None))) it.1
      ∙ sym (ap (λ (o : Option Fault). option_or (option_or noted o) named) it.1 ∙ or_assoc noted (Some it.0) named)
  by (Some true) is = sym (or_assoc noted (Some (world_there (path_id link.path))) named)
  by (Some false) is =
      let it = usable_place files by_name t leading is in
      ap (λ (o : Option Fault). option_or noted (option_or o (option_map_or put placed None))) it.2
      ∙ ap (λ (o : Option ℕ). option_or noted (option_map_or put o None)) it.1
      ∙ ap (option_or noted) (both it.0 it.1)
      ∙ sym (or_assoc noted (again_fault top before link) named)

  pub link_walked : by_tables ≡ by_files
  link_walked = by (is_world_at files t) refl

-- The walk's fault of what is on the sides of a world is what is found of it, one after another: of its name, and of itself.
-- one name after others
named_walked : (extern : Bool) (side : WorldSide) (before : List Called) (c : Called) → option_or (if extern then repeat_of (λ (m : Name). m.0) (λ (m : Name). crossed_among side (map sorted_name before) m.0 m.1) (map bare_name before) (bare_name c) else None) (twice_fault (map bare_name before) (bare_name c)) ≡ called_fault extern (crossed side) before c
named_walked extern side before c =
    let as_crossed = crossed_among side (map sorted_name before) in
    ap (λ (o : Option Fault). option_or (if extern then o else None) (twice_fault (map bare_name before) (bare_name c))) (repeat-made (λ (m : Name). m.0) (λ (m : Name). as_crossed m.0 m.1) bare_name before c ∙ sym (crossed_same side before c))
    ∙ ap (option_or (if extern then clash_of (λ (d : Called). d.name) (crossed side) before c else None)) (clash-made name_key same_again bare_name before c)

-- at first the words for names are those for types
abbrev type_sorted : ScopeName → Sorted
type_sorted x = sorted_name (name_called x)

types_sorted : (xs : List ScopeName) (types : Names) → names_in types ≡ local_names xs → flat_map entry_sorted (type_imports xs types) ≡ map type_sorted xs
types_sorted [] types listed = refl
types_sorted (x ∷ xs) [] listed = absurd (cc)
types_sorted (x ∷ xs) (t ∷ ts) listed =
    let rest : names_in ts ≡ local_names xs = cc in
    ap (λ (l : List Sorted). type_sorted x ∷ l) (types_sorted xs ts rest)

pub start_sorted : (m : Members) (xs : List ScopeName) (types : Names) (ids : List Id) → ids ≡ map local_id xs → names_in types ≡ map (λ id. id.name.now) ids → m.sides.imports ≡ type_imports xs types → m.sides.exports ≡ [] → (s : WorldSide) → sorted_on s m.sides ≡ map type_sorted (names_on s xs)
start_sorted m xs types ids are listed imports exports Imported = ap (flat_map entry_sorted) imports ∙ types_sorted xs types (listed ∙ ap (map (λ (id : Id). id.name.now)) are ∙ map_map (λ (id : Id). id.name.now) local_id xs)
start_sorted m xs types ids are listed imports exports Exported = ap (flat_map entry_sorted) exports

-- that of what is put on its side, after the names of the scope in turn and what is there
pub put_walked : (m : Members) (xs : List ScopeName) (order : List ℕ) (ids : List Id) (before : List SideItem) (x : SideItem) → ids ≡ map local_id (in_turn xs order) → ((s : WorldSide) → defined_on s m.in_use ≡ names_on s (map name_of_id ids) ++ flat_map item_names (items_on s before)) → ((s : WorldSide) → sorted_on s m.sides ≡ side_sorted s xs (items_on s before) order) → put_fault m x ≡ own_fault xs (items_on (item_side x) before) order x
put_walked m xs order ids before x are state sorts =
    let side = item_side x in
    let there = items_on side before in
    let all = side_called side xs there order in
    let wrong = (λ (n : Name). option_or (if is_extern x then repeat_of (λ (m : Name). m.0) (λ (m : Name). crossed_among side (map sorted_name all) m.0 m.1) (map bare_name all) n else None) (twice_fault (map bare_name all) n)) in
    ap (λ (l : List Sorted). first_in (λ (n : Name). option_or (if is_extern x then repeat_of (λ (m : Name). m.0) (λ (m : Name). crossed_among side l m.0 m.1) (defined_on side m.in_use) n else None) (twice_fault (defined_on side m.in_use) n)) (item_names x)) (sorts side ∙ sides_sorted side xs there order)
    ∙ ap (λ (l : List Name). first_in (λ (n : Name). option_or (if is_extern x then repeat_of (λ (m : Name). m.0) (λ (m : Name). crossed_among side (map sorted_name all) m.0 m.1) l n else None) (twice_fault l n)) (item_names x)) (state side ∙ sym (all_used side xs there order ids are))
    ∙ in-map wrong bare_name (item_called x)
    ∙ in_same (λ (c : Called). wrong (bare_name c)) (called_fault (is_extern x) (crossed side) all) (item_called x) (λ k c at. named_walked (is_extern x) side all c)

module _ (wk : ItemWalk) (known : Known) (order : List ℕ) (turned : wk.scope.names.turn.items ≡ map local_id (in_turn (scope_names (item_view wk.item)) order)) (start : Walked) (begun : IsStart wk start) (old : Growing) where
  abbrev is : Interfaces
  is = wk.interfaces

  abbrev files : List PackageFile
  files = is.files

  abbrev item : Item
  item = item_view wk.item

  abbrev xs : List ScopeName
  xs = scope_names item

  abbrev handle : Id → Option Fault
  handle = handle_fault files known.steps (address item)

  abbrev inner : Item → Option Fault
  inner = ordered_fault files known (λ (v : Item). None)

  abbrev member : List SideItem → SideItem → Option Fault
  member = member_fault files known.steps inner item order

  -- the walk's fault of a name after these
  abbrev named : List SideItem → SideItem → Option Fault
  named before x = own_fault xs (items_on (item_side x) before) order x

  module _ (ends : (new : List TypeDef) → IsExtended old.types new → EndsIn (env_of wk.scope.names.types) new handle) (leading : (link : Link) → Contains (side_items item) (SideLink link) → IsLeading files is.by_name (leads item.top link.path)) (insides : (done : List SideItem) (now : Stage) → AddsMembers wk [] done (stage old start) now → (x : SideItem) (rest : List SideItem) → side_items item ≡ done ++ (x ∷ rest) → (u : Item) → inline_after item done (x ∷ []) ≡ u ∷ [] → IsRightOf inner is now.growing.types (next_place is now.growing.inside) u) where
    module _ (done : List SideItem) (now : Stage) (adds : AddsMembers wk [] done (stage old start) now) where
      abbrev m : Members
      m = now.walked.members

      -- what is on the sides by now
      in_use : (s : WorldSide) → defined_on s m.in_use ≡ names_on s (map name_of_id wk.scope.names.turn.items) ++ flat_map item_names (items_on s done)
      in_use s = adds.in_use s ∙ ap (λ l. l ++ flat_map item_names (items_on s done)) (begun.in_use s)

      sorts : (s : WorldSide) → sorted_on s m.sides ≡ side_sorted s xs (items_on s done) order
      sorts s =
          let there = in_turn xs order in
          adds.sorted s ∙ ap (λ (l : List Sorted). l ++ flat_map item_sorted (items_on s done)) (start_sorted start.members there wk.scope.names.types wk.scope.names.turn.items turned wk.scope.names.listed (begun.imports there turned) begun.exports s)

      put : (x : SideItem) → put_fault m x ≡ named done x
      put x = put_walked m xs order wk.scope.names.turn.items done x turned in_use sorts

      linked : (s : WorldSide) → linked_on s m.links ≡ flat_map (bare_place (lead wk)) (items_on s done)
      linked s = adds.linked s ∙ ap (λ l. l ++ flat_map (bare_place (lead wk)) (items_on s done)) (begun.linked s)

      -- a function
      function_walked : (fn : SourceFunction) → option_or (function_fault (signed_by (word_fault (scope_names (item_view wk.item))) handle (flat_map item_function done ++ fn ∷ [])) (scope_names (item_view wk.item)) fn) (put_fault m (SideFunction fn)) ≡ member done (SideFunction fn)
      function_walked fn = ap (option_or (function_fault (signed_fault xs (flat_map item_function done ++ fn ∷ []) handle) xs fn)) (put (SideFunction fn))

      -- a link
      abbrev addresses : List Address
      addresses = interfaces_at (prefix_of files) is.arena

      present : (l : Link) (j : ℕ) → lead wk l.path ≡ Some j → slice_get addresses j ≡ Some (path_scope item.top l.path)
      present l j at = called_at (prefix_of files) is.arena is.by_name (path_scope item.top l.path) j is.prefix is.found at

      module _ (link : Link) where
        both : (id : ℕ) → path_place files is.by_name item.top link.path ≡ Some id → put_link_fault m link id ≡ option_or (again_fault item.top done link) (named done (SideLink link))
        both id at =
            let side = link.side in
            let have : HaveOwnPlaces item.top (lead wk) link id addresses (interface_place (prefix_of files) is.by_name) (λ path. refl) (present link id at) at (items_on side done) = record {
              each = λ k l there. (
                  let p = kept_at (λ (y : SideItem). same_side side (item_side y)) done k (SideLink l) there in
                  let r = adds.leads l (contains_at done p.0 (SideLink l) p.1) in
                  (r.0, r.1, present l r.0 r.1));
            } in
            ap (λ (ids : List ℕ). option_or (if is_none link.name && list_any (nat_eq id) ids then Some (linked_twice link.side (path_id link.path).span) else None) (put_fault m (SideLink link))) (linked side)
            ∙ ap (λ (o : Option Fault). option_or o (put_fault m (SideLink link))) (again_linked_walked item.top (lead wk) link id addresses (interface_place (prefix_of files) is.by_name) (λ path. refl) (present link id at) at done have)
            ∙ ap (option_or (again_fault item.top done link)) (put (SideLink link))

        links_walked : Contains (side_items item) (SideLink link) → option_or (metadata_fault link.attributes) (option_or (linked_fault wk.interfaces.files wk.interfaces.by_name (item_view wk.item).top link.path) (option_map_or (put_link_fault m link) (lead wk link.path) None)) ≡ member done (SideLink link)
        links_walked among = link_walked files is.by_name item.top done link (leading link among) (put_link_fault m link) (named done (SideLink link)) both

      -- an inline interface
      module _ (x : Extern) (name : Id) (items : List InterfaceItem) (u : Item) (next : inline_after item done (SideInline x name items ∷ []) ≡ u ∷ []) where
        abbrev own : SideItem
        own = SideInline x name items

        abbrev place : ℕ
        place = length (filter is_interface (items_on (item_side own) done))

        written : inline_item item place own ≡ u ∷ []
        written = next

        is_written : record { top = item.top; declared = TheInline (item_name item) place x name items } ≡ u
        is_written = (let same : record { top = item.top; declared = TheInline (item_name item) place x name items } ∷ [] ≡ u ∷ [] = next in cc)

        wrong_inside : (f : Fault) → inner u ≡ Some f → member done own ≡ Some f
        wrong_inside f wrong = ap (λ (us : List Item). option_or (option_or (first_in inner us) (external_fault x.attributes.items)) (named done own)) written ∙ ap (λ (o : Option Fault). option_or (option_or (option_or o None) (external_fault x.attributes.items)) (named done own)) wrong

        none_inside : inner u ≡ None → member done own ≡ option_or (metadata_fault x.attributes.items) (put_fault m own)
        none_inside none =
            let stable : stability_fault x.attributes.items ≡ None = ap (λ (i : Item). stability_fault (about i.declared).attributes) is_written ∙ (or_none_both (stability_fault (about u.declared).attributes) _ none).0 in
            ap (λ (us : List Item). option_or (option_or (first_in inner us) (external_fault x.attributes.items)) (named done own)) written
            ∙ ap (λ (o : Option Fault). option_or (option_or (option_or o None) (external_fault x.attributes.items)) (named done own)) none
            ∙ ap (option_or (external_fault x.attributes.items)) (sym (put own))
            ∙ sym (ap (λ (o : Option Fault). option_or (option_or o (external_fault x.attributes.items)) (put_fault m own)) stable)

        inside_is : member done own ≡ option_or (inner u) (option_or (metadata_fault x.attributes.items) (put_fault m own))
        inside_is = by (inner u) refl
          where
            by : (o : Option Fault) → inner u ≡ o → member done own ≡ option_or (inner u) (option_or (metadata_fault x.attributes.items) (put_fault m own))
            by None none = none_inside none ∙ ap (λ (o : Option Fault). option_or o (option_or (metadata_fault x.attributes.items) (put_fault m own))) (sym none)
            by (Some f) wrong = wrong_inside f wrong ∙ ap (λ (o : Option Fault). option_or o (option_or (metadata_fault x.attributes.items) (put_fault m own))) (sym wrong)

    -- the next one
    pub right_members : AreRightMembers member wk [] (side_items item) (stage old start)
    right_members done rest (SideFunction fn) now split adds = (handle, λ more. ends (now.growing.types ++ more) (extended_then old.types now.growing.types (now.growing.types ++ more) adds.extended (record { more = more; is = refl })), sym (function_walked done now adds fn))
    right_members done rest (SideLink link) now split adds = sym (links_walked done now adds link (contains_at (side_items item) (length done) (SideLink link) (ap (λ (l : List SideItem). slice_get l (length done)) split ∙ at_middle done (SideLink link) rest)))
    right_members done rest (SideInline x name items) now split adds = (inner, λ u next. (insides done now adds (SideInline x name items) rest split u next, inside_is done now adds x name items u next))
