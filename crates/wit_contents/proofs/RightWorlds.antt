-- The walk's fault of each world is what is found of it, once all interfaces and the worlds before it are resolved.
use Rattle.std.proofs.Common.{◌≡◌, ◌⊎◌, ℕ, ◌+◌, true, false, List, [], ◌∷◌, ◌++◌, length, map, take, Option, Some, None, IsSome, inl, inr, refl, sym, ap, ◌∙◌, subst, Contains, arith}
use Rattle.wit_contents.proofs.Names.{Address, AddsForeign, AddsMembers, AddsScope, AddsSides, AllDiffer, AreNamesPlaced, AreRightMembers, AreUsableUses, Attribute, Borrowed, EndsInTurn, Fault, Foreign, ForeignNamed, ForeignVisit, HasAmong, Id, InOrder, Include, IncludePart, Interface, InterfaceNamed, Interfaces, InterfacesDone, IsForeignUse, IsLent, IsNameIndex, IsResolvedUse, IsRight, IsRightOf, IsRightOfWorld, IsStart, IsWalk, Item as BorrowedItem, ItemScope, ItemWalk, Known, Link, Making, Names, Outcome, PackageFile, PackageName, ResolvedScope, ScopeName, SideItem, SideLink, Stage, TopName, TypeDef, UseName, Used, World, about, address, all_items, all_scopes, are_interfaces, are_worlds, at_contains, bytes_eq, contains_at, contents_fault, distinct_items, declared_view, env_of, filed_item, find_at, find_passes, first_after, first_in, flat_map, foreign_at, foreign_interfaces, handle_fault, in_order, in_turn, include_fault, includes, includes_fault, inline_after, inline_after-append, inline_interface, inline_items, interface_at, interfaces, interfaces_at, interfaces_sort, is_world, item_inline, item_name, item_named, item_view, leads, length-inline_after, local_id, member_fault, name_equal, name_view, names_at_top, next_place, option_cases, option_map, option_or, order_of, outcome_one, own_use, part_visited, parts, prefix_scopes, resolved_scopes, resolved_scopes_of, rows_of, scope_names, scopes_declared, scopes_inline, setters_fault, side_items, slice_get, source_view, stage, take_seam, used_interface, uses_usable, used_visited, visited, worlds_sort, IsReady}
use Rattle.wit_contents.specs.declared.making.Growing.{Growing}
use Rattle.wit_contents.specs.declared.walk.Walked.{Walked}
use Rattle.wit_contents.specs.declared.walk.WorldScope.{WorldScope}
use Rattle.wit_arena.proofs.Common.{Declared, Item}
use Rattle.wit_types.specs.declared.types.TypeOwner.TheVariants as owner
use Rattle.wit_items.proofs.Common.{ordered_fault}
use Rattle.wit_arena.proofs.WorldSides.{world_added}
use Rattle.wit_entries.specs.EntryFaults.{IsExtended}
use Rattle.wit_externs.specs.Clash.{EndsIn}
use Rattle.wit_externs.proofs.Steps.{at_middle}
use Rattle.wit_contents.proofs.Ends.{inline_ends, named_ends, world_ends}
use Rattle.wit_contents.proofs.PathsWalked.{includes_walked, near_has, uses_as_walked}
use Rattle.wit_contents.proofs.MembersWalked.{IsLeading, right_members}
use Rattle.wit_contents.proofs.Members.{sides_count}
use Rattle.wit_contents.proofs.RightInterfaces.{borrowed_uses, right_interface}
use Rattle.wit_contents.proofs.Walked.{AreAsWalked, head_walked, world_split}
use Rattle.wit_walk.proofs.MemberFaults.{path_among}
use Rattle.wit_scopes.proofs.Placed.{uses_placed}
use Rattle.wit_contents.proofs.ResolvedItems.{HasWorlds, IsAt, interfaces_in, next_kept, worlds_in}

-- the next world
module _ (m : Making) (items : List BorrowedItem) (places : List ℕ) (r : IsReady m.resolved.interfaces.files items places) (old : Making) (foreign : AddsForeign m.resolved.interfaces.files old.growing.types old.resolved.interfaces.arena old.resolved.worlds) (count : ℕ) (i : BorrowedItem) (it : IsAt m.resolved.interfaces.files places count i) (sort : is_world (item_view i) ≡ true) (h : HasWorlds m.resolved.interfaces.files places old (worlds_in m.resolved.interfaces.files (take count places)) m) (known : Known) (right : IsRight m.resolved.interfaces.files known) where
  abbrev es : List TypeDef
  es = old.growing.types

  abbrev prefix : List Interface
  prefix = old.resolved.interfaces.arena

  abbrev wprefix : List World
  wprefix = old.resolved.worlds

  abbrev mid : List TypeDef
  mid = m.growing.types

  abbrev inside : List Interface
  inside = m.growing.inside

  abbrev is : Interfaces
  is = m.resolved.interfaces

  abbrev files : List PackageFile
  files = is.files

  abbrev all : List Item
  all = all_items files

  abbrev fore : List Address
  fore = map visited (foreign_interfaces files)

  abbrev w : Item
  w = item_view i

  abbrev xs : List ScopeName
  xs = scope_names w

  abbrev us : List Item
  us = worlds_in files (take count places)

  abbrev distinct : AllDiffer (map item_name (all_items files))
  distinct = distinct_items files r.unbroken

  abbrev uses : AreUsableUses files (all_items files)
  uses = uses_usable files r.uses

  abbrev declared_interfaces : List Item
  declared_interfaces = interfaces_in files places

  abbrev declared_worlds : List Item
  declared_worlds = worlds_in files places

  -- what is resolved
  abbrev own : List Interface
  own = h.interfaces.own

  abbrev d : InterfacesDone files declared_interfaces declared_worlds prefix declared_interfaces h.middle.types own h.middle.required.items
  d = h.interfaces.done

  abbrev outcome : Outcome
  outcome = known.outcome (rows_of xs)

  abbrev resolved : List ResolvedScope
  resolved = resolved_scopes fore (prefix ++ own)

  scopes_are : resolved_scopes_of is ≡ resolved
  scopes_are = ap (resolved_scopes fore) h.interfaces.arena

  indexed : IsNameIndex InterfaceNamed (interfaces_at fore (prefix ++ own)) is.by_name
  indexed = subst (λ (cs : List ResolvedScope). IsNameIndex InterfaceNamed (map (λ (c : ResolvedScope). c.address) cs) is.by_name) scopes_are h.interfaces.index

  there : slice_get declared_worlds (length us) ≡ Some w
  there = next_kept is_world all places count it.place w it.next it.at sort

  declared : Contains all w
  declared = contains_at all it.place w it.at

  -- uses of a scope of files
  used_among : (v : Item) → Contains (all_scopes files) v → (from : Address) (attributes : List Attribute) (n : UseName) → Contains (scope_names v) (Used from attributes n) → IsResolvedUse files places r.order distinct declared_interfaces from ⊎ IsForeignUse files from n
  used_among v here from attributes n among = elim (used_interface files uses v from attributes n here among) [
    | inl b ↦ (
        let it = interface_at files places r.order distinct b.item b.sort (contains_at all b.place b.item b.at) in
        inl (record { place = it.0; item = b.item; at = it.1; sort = b.sort; is = b.is }))
    | inr b ↦ inr b
  ]

  walked : (v : Item) → Contains (all_scopes files) v → (names : List Borrowed) → map name_view names ≡ scope_names v → AreNamesPlaced fore names → AreAsWalked files is (flat_map own_use names)
  walked v here names named placed = uses_as_walked files places r.order distinct uses es prefix wprefix foreign declared_interfaces h.middle.types own h.middle.required.items d is refl h.interfaces.arena indexed (flat_map own_use names) (uses_placed fore names placed) (λ k u found. used_among v here (source_view u.from) u.attributes.now u.name.now (borrowed_uses names (scope_names v) named k u found))

  -- its own
  walked_uses : AreAsWalked files is (flat_map own_use i.names.items)
  walked_uses = walked w (scopes_declared files w declared) i.names.items it.own.named it.own.placed.own

  -- its includes
  visits : (n : Include) (m : ℕ) → slice_get (parts w) m ≡ Some (IncludePart n) → (q : PackageName) (id : Id) → leads w.top n.from ≡ Foreign q id → (v : ForeignVisit) × (foreign_at files (ForeignNamed q id.name.now) ≡ Some v)
  visits n m part q id lead =
      let own : HasAmong files i.place (λ (d : Declared). (about d).parts) (IncludePart n) = record { declared = declared_view i.declared; item = filed_item files i it.own; among = contains_at (parts w) m (IncludePart n) part } in
      part_visited files i.place (IncludePart n) n.attributes.items true n.from own refl q id (ap (λ (top : List TopName). leads top n.from) (ap names_at_top it.own.file) ∙ lead)

  included : includes_fault m.resolved w ≡ first_in (include_fault files w.top) (includes w)
  included =
      let listed = world_added files declared_interfaces declared_worlds (interfaces_sort (in_order all places)) (worlds_sort (in_order all places)) (are_interfaces files places r.order distinct) (are_worlds files places r.order distinct) uses es prefix wprefix foreign h.middle.types own h.middle.required.items d us mid m.resolved.worlds inside h.required h.done w there in
      includes_walked files places r.order distinct es prefix wprefix foreign count it.place w it.next it.at sort (prefix_scopes files prefix ++ d.scopes) mid m.resolved.worlds inside h.required h.done m.resolved.world_names h.index listed m.resolved refl refl visits

  -- its links
  leading : (link : Link) → Contains (side_items w) (SideLink link) → IsLeading files is.by_name (leads w.top link.path)
  leading link among = record {
    found = λ name usable. option_cases (item_named all name) (IsSome (env_of is.by_name name)) (λ v found. (
        let p = find_at (λ (x : Item). bytes_eq (item_name x) name) all v found in
        let called = name_equal (item_name v) name (find_passes (λ (x : Item). bytes_eq (item_name x) name) all v found) in
        let both : Some (is_world v) ≡ Some false = sym (ap (option_map is_world) found) ∙ usable in
        let other : is_world v ≡ false = cc in
        let it = interface_at files places r.order distinct v other (contains_at all p.0 v p.1) in
        near_has files places r.order distinct uses es prefix wprefix foreign declared_interfaces h.middle.types own h.middle.required.items d is refl h.interfaces.arena indexed (InterfaceNamed (item_name v)) name (record { place = it.0; item = v; at = it.1; sort = other; is = refl }) (ap InterfaceNamed called))) (λ none. absurd (let wrong : None ≡ Some false = sym (ap (option_map is_world) none) ∙ usable in cc));
    visits = λ p id lead. (
        let k = at_contains (side_items w) (SideLink link) among in
        used_visited files w link.path declared (path_among w k.0 link k.1) p id lead);
  }

  -- where names of it end
  abbrev Ends : List ResolvedScope → List World → Type 0
  Ends cs l = EndsInTurn cs (owner.World (length l)) mid xs outcome (handle_fault files known.steps (address w))

  ends : Ends (resolved_scopes_of is) m.resolved.worlds
  ends = subst (λ (cs : List ResolvedScope). Ends cs m.resolved.worlds) (sym scopes_are)
      (world_ends files declared_interfaces declared_worlds (interfaces_sort (in_order all places)) (worlds_sort (in_order all places)) (are_interfaces files places r.order distinct) (are_worlds files places r.order distinct) uses es prefix wprefix foreign h.middle.types own h.middle.required.items d us mid m.resolved.worlds inside h.required w there h.done outcome (right.outcomes (rows_of xs)) known.steps (right.enough (address w)))

  -- its members
  abbrev member : List SideItem → SideItem → Option Fault
  member = member_fault files known.steps (ordered_fault files known (λ (v : Item). None)) w (order_of outcome)

  module _ (s : WorldScope) (g : Growing) (same : g.inside ≡ m.growing.inside) (scoped : AddsScope m.growing.types g.types (resolved_scopes_of is) (owner.World (length m.resolved.worlds)) xs s.names.types) where
    abbrev types : Names
    types = s.names.types

    abbrev walk : ItemWalk
    walk = record { item = i; scope = s; interfaces = is }

    own_scoped : AddsScope mid g.types resolved (owner.World (length m.resolved.worlds)) xs types
    own_scoped = subst (λ (cs : List ResolvedScope). AddsScope mid g.types cs (owner.World (length m.resolved.worlds)) xs types) scopes_are scoped

    all_ends : (new : List TypeDef) → IsExtended g.types new → EndsIn (env_of types) new (handle_fault files known.steps (address w))
    all_ends new extended = named_ends files declared_interfaces declared_worlds (interfaces_sort (in_order all places)) (worlds_sort (in_order all places)) (are_interfaces files places r.order distinct) (are_worlds files places r.order distinct) uses es prefix wprefix foreign h.middle.types own h.middle.required.items d us mid m.resolved.worlds inside h.required w there h.done types g.types own_scoped new extended known.steps (right.enough (address w))

    -- an interface that is written in it comes next
    module _ (start : Walked) (first : List SideItem) (now : Stage) (members : AddsMembers walk [] first (stage g start) now) (x : SideItem) (rest : List SideItem) (split : side_items w ≡ first ++ (x ∷ rest)) (u : Item) (inner : inline_after w first (x ∷ []) ≡ u ∷ []) where
      abbrev written : List Item
      written = inline_after w [] first

      abbrev later : List Item
      later = inline_after w (first ++ x ∷ []) rest

      whole : inline_items w ≡ written ++ (u ∷ later)
      whole =
          ap (inline_after w []) split
          ∙ inline_after-append w [] first (x ∷ rest)
          ∙ ap (λ (l : List Item). written ++ l) (inline_after-append w first (x ∷ []) rest)
          ∙ ap (λ (l : List Item). written ++ (l ++ later)) inner

      in_front : written ≡ take (length written) (inline_items w)
      in_front = sym (ap (take (length written)) whole ∙ take_seam written (u ∷ later))

      in_turn_next : slice_get (inline_items w) (length written) ≡ Some u
      in_turn_next = ap (λ (l : List Item). slice_get l (length written)) whole ∙ at_middle written u later

      sides : AddsSides resolved (length (prefix ++ own)) (address w) types g.types now.growing.types inside now.growing.inside members.functions members.adds.own first written
      sides =
          subst (λ (l : List Interface). AddsSides resolved (length l) (address w) types g.types now.growing.types inside now.growing.inside members.functions members.adds.own first written) h.interfaces.arena (
          subst (λ (cs : List ResolvedScope). AddsSides cs (length is.arena) (address w) types g.types now.growing.types inside now.growing.inside members.functions members.adds.own first written) scopes_are (
          subst (λ (l : List Interface). AddsSides (resolved_scopes_of is) (length is.arena) (address w) types g.types now.growing.types l now.growing.inside members.functions members.adds.own first written) same (members.adds.holds (address w))))

      covered : length now.growing.inside ≡ length inside + length written
      covered =
          let more : length now.growing.inside ≡ length inside + length (flat_map item_inline first) = sides_count resolved (length (prefix ++ own)) (address w) types g.types now.growing.types inside now.growing.inside members.functions members.adds.own first written sides in
          let long : length written ≡ length (flat_map item_inline first) = length-inline_after w [] first in
          omega (arith, more, long)

      abbrev spot : ℕ
      spot = next_place is now.growing.inside

      abbrev InnerEnds : List ResolvedScope → List Interface → Type 0
      InnerEnds cs l = EndsInTurn cs (owner.Interface (length l + length now.growing.inside)) now.growing.types (scope_names u) (known.outcome (rows_of (scope_names u))) (handle_fault files known.steps (address u))

      inner_ends : InnerEnds (resolved_scopes_of is) is.arena
      inner_ends = subst (InnerEnds (resolved_scopes_of is)) (sym h.interfaces.arena) (subst (λ (cs : List ResolvedScope). InnerEnds cs (prefix ++ own)) (sym scopes_are)
          (inline_ends files declared_interfaces declared_worlds (interfaces_sort (in_order all places)) (worlds_sort (in_order all places)) (are_interfaces files places r.order distinct) (are_worlds files places r.order distinct) uses es prefix wprefix foreign h.middle.types own h.middle.required.items d us mid m.resolved.worlds inside h.required w there h.done types g.types own_scoped first written (length written) in_front u in_turn_next now.growing.types now.growing.inside members.functions members.adds.own sides covered (known.outcome (rows_of (scope_names u))) (right.outcomes (rows_of (scope_names u))) known.steps (right.enough (address u))))

      inner_walked : (s : ItemScope) → IsLent s files u → AreAsWalked files is (flat_map own_use s.names.now)
      inner_walked s its = walked u (scopes_inline files w u declared (contains_at (inline_items w) (length written) u in_turn_next)) s.names.now its.named its.placed

      right_inside : IsRightOf (ordered_fault files known (λ (v : Item). None)) is now.growing.types spot u
      right_inside = right_interface files known right.outcomes (λ other. None) is now.growing.types spot u (inline_interface w (length written) u in_turn_next) inner_walked inner_ends

    -- so its members are
    right_sides : IsWalk walk → (start : Walked) → IsStart walk start → AreRightMembers member walk [] (side_items w) (stage g start)
    right_sides walks start begun =
        let turn = walks.turn in
        let ordered : outcome ≡ InOrder turn.order = outcome_one (rows_of xs) outcome (InOrder turn.order) (right.outcomes (rows_of xs)) turn.least in
        right_members walk known (order_of outcome) (turn.are ∙ ap (λ (o : Outcome). map local_id (in_turn xs (order_of o))) (sym ordered)) start begun g all_ends leading (right_inside start)

  pub right_world : IsRightOfWorld (contents_fault files known) m.resolved m.growing i
  right_world = record {
    outcome = outcome;
    handle = handle_fault files known.steps (address w);
    member = member;
    right = right.outcomes (rows_of xs);
    ends = ends;
    says = world_split files known.steps (ordered_fault files known (λ (v : Item). None)) w outcome ∙ ap (λ (o : Option Fault). option_or o (option_or (first_after member [] (side_items w)) (setters_fault w))) (sym (head_walked files known.steps m.resolved i outcome it.own.named walked_uses included));
    members = λ s g walks same scoped. right_sides s g same scoped walks;
  }

-- so it is of the world that comes next, where the files are given
pub right_next_world : (files : List PackageFile) (items : List BorrowedItem) (places : List ℕ) → IsReady files items places → (old : Making) → AddsForeign files old.growing.types old.resolved.interfaces.arena old.resolved.worlds → (m : Making) (count : ℕ) (i : BorrowedItem) → IsAt files places count i → is_world (item_view i) ≡ true → HasWorlds files places old (worlds_in files (take count places)) m → (known : Known) → IsRight files known → IsRightOfWorld (contents_fault files known) m.resolved m.growing i
right_next_world files items places r old foreign m count i it sort h known right =
    subst (λ (fs : List PackageFile). IsReady fs items places → AddsForeign fs old.growing.types old.resolved.interfaces.arena old.resolved.worlds → IsAt fs places count i → HasWorlds fs places old (worlds_in fs (take count places)) m → IsRight fs known → IsRightOfWorld (contents_fault fs known) m.resolved m.growing i) h.interfaces.same
    (λ r foreign it h right. right_world m items places r old foreign count i it sort h known right) r foreign it h right
