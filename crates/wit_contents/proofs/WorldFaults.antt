-- The first fault of a world: of its attributes, of its names, of its includes, or of what is on its sides.
use Rattle.std.proofs.Common.{◌≡◌, ℕ, ◌+◌, Bool, false, true, List, [], ◌∷◌, ◌++◌, drop, length, map, take, Option, Some, None, refl, sym, ap, ◌∙◌, subst, ◌==◌, append_assoc, arith}
use Rattle.wit_contents.proofs.Names.{AreKeyed, Declared, EndsInTurn, Exported, Fault, Finds, AddsScope, FindsAfterNames, FindsNames, Id, Imported, Include, IsItemOf, IsNext, IsOutcome, IsRightOfWorld, IsSeen, IsWalk, Item as BorrowedItem, ItemWalk, Outcome, PackageFile, ParseError, Reports, ResolvedScope, Result, ScopeName, SourceFunction, TheInline, TheInterface, TheWorld, TopName, TypeDef, TypeOwner, AddsNamesOf, AddsTo, HasContent, IsItemIn, Resolved, about, all_declared, all_items, append-nil, at_contains, declared_view, eqb-suc-zero, filter, filter-append, filter_map-append, finds_same, first_after, first_in, functions, if◌then◌else◌, in-append, in-more, in_order, in_turn, includes, includes_fault, is_inside, item_in, item_stability, item_view, kept_next, local_id, names_at_top, names_fault, name_view, option_or, order_of, reports_back, reports_prefix, reports_same, resolved_scopes_of, rows_of, scope_names, setters_fault, side_items, side_setters_fault, slice_get, stability_fault, take-append-drop, Address, AddsMembers, AddsSides, AllDiffer, AreIncludes, Borrowed, Entry, HavePlaces, Interface, IsStart, addresses_of, IsTurn, Name, Names, Required, SideItem, World, WorldSide, address, and_parts, at_back, at_prefix, declared_metadata, eqb-true, flat_map, function_of, in_turn_distinct, inline_items, interfaces_at, is_ascii_uppercase, item_function, list_all, list_any, names_on, nil_from_length, no_clashes, none_both, part_functions, part_items, prefix_of, puts_nothing, settled, stage, type_imports, world_part, functions_parts}
use Rattle.wit_arena.proofs.Common.{Item, entries_on, name_imports, WorldInclude}
use Rattle.wit_contents.specs.declared.making.Growing.{Growing}
use Rattle.wit_contents.specs.declared.walk.Walked.{Walked}
use Rattle.wit_contents.specs.declared.walk.WorldScope.{WorldScope}
use Rattle.wit_world_sides.specs.declared.sides.WorldSides.{WorldSides}
use Rattle.wit_walk.proofs.Common.{World as Written, WorldItem}
use Rattle.wit_externs.specs.Clash.{sides_setters, defined_fault}
use Rattle.wit_item_entries.proofs.ReachedFaults.{done, failed, turn_texts}
use Rattle.wit_item_entries.specs.declared.names.ResolvedNames.{ResolvedNames}
use Rattle.wit_contents.proofs.MemberFaults.{turned, world_sides}
use Rattle.wit_world_sides.specs.Members.{AreSettled, none_of}
use Rattle.wit_links.proofs.Leading.{addresses_count}
use Rattle.wit_contents.specs.Walk.{next_entries}
use Rattle.wit_rules.specs.Signatures.{function_view, AreResults}
use Rattle.wit_functions.specs.MaybeFunction.{is_setter}
use Rattle.wit_functions.proofs.NoSetters.{no_setters}
use Rattle.wit_signatures.specs.FunctionsOfScope.{name_key, name_of_id}
use Rattle.wit_item_entries.proofs.NameOrder.{names_alone}
use Rattle.wit_contents.proofs.Members.{sides_none}
use Rattle.wit_types.specs.declared.types.TypeOwner.TheVariants as owner
use Rattle.wit_arena.proofs.MadeWorlds.{type_imports-as_stated, world_stated}
use Rattle.wit_externs.proofs.AloneFaults.{again}

-- setters are looked at where a world includes nothing
setters_by : (i : Item) (ns : List Include) → (if none_of ns then sides_setters (functions i) else None) ≡ (if length ns == 0 then option_or (side_setters_fault i Imported) (side_setters_fault i Exported) else None)
setters_by i [] = refl
setters_by i (n ∷ ns) = sym (ap (λ (b : Bool). if b then option_or (side_setters_fault i Imported) (side_setters_fault i Exported) else None) (eqb-suc-zero (length ns)))

pub setters_closed : (i : Item) (fns : List SourceFunction) → fns ≡ functions i → (closed : Bool) → closed ≡ none_of (includes i) → (if closed then sides_setters fns else None) ≡ setters_fault i
setters_closed i fns are closed same =
    ap (λ (gs : List SourceFunction). if closed then sides_setters gs else None) are
    ∙ ap (λ (b : Bool). if b then sides_setters (functions i) else None) same
    ∙ setters_by i (includes i)

-- an item of the files is what is declared in the file at its place
item_here : {files : List PackageFile} (i : BorrowedItem) (world : Written) → IsItemOf files i → declared_view i.declared ≡ TheWorld world → item_in files i.place (TheWorld world) ≡ item_view i
item_here i world own is =
    ap (λ (top : List TopName). record { top = top; declared = TheWorld world }) (ap names_at_top own.file)
    ∙ ap (λ (d : Declared). record { top = (item_view i).top; declared = d }) (sym is)

-- so are its includes
pub included_here : (r : Resolved) (i : BorrowedItem) (world : Written) (found : List WorldInclude) → IsItemOf r.interfaces.files i → declared_view i.declared ≡ TheWorld world → AreIncludes (addresses_of r) (item_in r.interfaces.files i.place (TheWorld world)) found → AreIncludes (addresses_of r) (item_view i) found
included_here r i world found of is = subst (λ (w : Item). AreIncludes (addresses_of r) w found) (item_here i world of is)

-- what is made of the world is made of the item
pub says_here : (i : BorrowedItem) (world : Written) → declared_view i.declared ≡ TheWorld world → (sides : WorldSides) (found : List WorldInclude) (w : World) → HasContent (TheWorld world) sides found w → HasContent (item_view i).declared sides found w
says_here i world is sides found w says = subst (λ (d : Declared). HasContent d sides found w) (sym is) says

-- at first all of what is on the sides comes next
abbrev pub next_all : (w : ItemWalk) (m : Walked) → IsWalk w → IsSeen [] m.seen → AreKeyed m.members → IsNext w (side_items (item_view w.item)) m
next_all w m walk seen keyed = record { walk = walk; prefix = []; rest = []; sides = sym (append-nil (side_items (item_view w.item))); seen = seen; keyed = keyed }

module _ (ws : Resolved) (i : BorrowedItem) (old : Growing) where
  abbrev w : Item
  w = item_view i

  abbrev cs : List ResolvedScope
  cs = resolved_scopes_of ws.interfaces

  abbrev o : TypeOwner
  o = owner.World (length ws.worlds)

  abbrev xs : List ScopeName
  xs = scope_names w

  -- what comes after the names, where these are they in turn
  abbrev after : List Id → Option Fault
  after ids = option_or (includes_fault ws w) (defined_fault [] (map name_of_id ids))

  abbrev turned_ids : Outcome → List Id
  turned_ids outcome = map local_id (in_turn xs (order_of outcome))

  abbrev names_test : Outcome → (Id → Option Fault) → Option Fault
  names_test outcome handle = names_fault ws.interfaces i.names.items outcome handle

  -- what a test that is right of it says of it, where it is a world of the files
  module _ (wrong : Item → Option Fault) (test : IsRightOfWorld wrong ws old i) (world : Written) (of : IsItemOf ws.interfaces.files i) (is : declared_view i.declared ≡ TheWorld world) where
    abbrev rest : Option Fault
    rest = option_or (first_after test.member [] (side_items w)) (setters_fault w)

    abbrev last : Option Fault
    last = after (turned_ids test.outcome)

    stated : stability_fault world.attributes.items ≡ item_stability w
    stated = ap (λ (d : Declared). stability_fault (about d).attributes) (sym is)

    included : includes_fault ws (item_in ws.interfaces.files i.place (TheWorld world)) ≡ includes_fault ws w
    included = ap (includes_fault ws) (item_here i world of is)

    -- its own attributes are wrong
    pub unstable_first : (e : ParseError) → Reports (stability_fault world.attributes.items) e → Reports (wrong (item_view i)) e
    unstable_first e found = reports_same (sym test.says) (reports_prefix rest (reports_prefix (option_or (names_test test.outcome test.handle) last) (reports_same stated found)))

    module _ (stable : stability_fault world.attributes.items ≡ None) where
      names_found : {T : Type 0} (r : Result T ParseError) → FindsNames None ws.interfaces o old.types i.names.items r → Finds (names_test test.outcome test.handle) r
      names_found r found = found test.outcome (subst (λ (ys : List ScopeName). IsOutcome (rows_of ys) test.outcome) (sym of.named) test.right) test.handle (subst (λ (ys : List ScopeName). EndsInTurn cs o old.types ys test.outcome test.handle) (sym of.named) test.ends)

      -- its names are
      pub names_first : (e : ParseError) → FindsNames None ws.interfaces o old.types i.names.items (failed e) → Reports (wrong (item_view i)) e
      names_first e found = reports_same (sym test.says) (reports_prefix rest (reports_back (sym stated ∙ stable) (reports_prefix last (names_found (failed e) found))))

      -- they are resolved, and in the arena
      module _ (n : ResolvedNames) (mid : List TypeDef) (turn : AddsNamesOf ws i old.types mid n) (head : FindsNames None ws.interfaces o old.types i.names.items (done n)) where
        turned_is : n.turn.items ≡ turned_ids test.outcome
        turned_is = turned old.types mid cs o xs n.types n.turn.items n.required.items turn test.outcome test.right

        -- so what comes after them is wrong
        pub includes_first : (e : ParseError) → Reports (includes_fault ws (item_in ws.interfaces.files i.place (TheWorld world))) e → Reports (wrong (item_view i)) e
        includes_first e found = reports_same (sym test.says) (reports_prefix rest (reports_back (sym stated ∙ stable) (reports_back (names_found (done n) head) (reports_prefix (defined_fault [] (map name_of_id (turned_ids test.outcome))) (reports_same included found)))))

        -- or what is found of its sides is found of it
        module _ (usable : includes_fault ws (item_in ws.interfaces.files i.place (TheWorld world)) ≡ None) where
          head_is : option_or (item_stability (item_view i)) (option_or (names_fault ws.interfaces i.names.items test.outcome test.handle) (option_or (includes_fault ws (item_view i)) (defined_fault [] (map name_of_id (map local_id (in_turn (scope_names (item_view i)) (order_of test.outcome))))))) ≡ defined_fault [] (map name_of_id n.turn.items)
          head_is =
              ap (λ (x : Option Fault). option_or x (option_or (names_test test.outcome test.handle) last)) (sym stated ∙ stable)
              ∙ ap (λ (x : Option Fault). option_or x last) (names_found (done n) head)
              ∙ ap (λ (x : Option Fault). option_or x (defined_fault [] (map name_of_id (turned_ids test.outcome)))) (sym included ∙ usable)
              ∙ ap (λ (ids : List Id). defined_fault [] (map name_of_id ids)) (sym turned_is)

      -- what is found of it after its names, too
      pub world_found : {T : Type 0} (r : Result T ParseError) (n : ResolvedNames) (mid : Growing) → mid.inside ≡ old.inside → AddsNamesOf ws i old.types mid.types n → FindsNames None ws.interfaces o old.types i.names.items (done n) → includes_fault ws (item_in ws.interfaces.files i.place (TheWorld world)) ≡ None → FindsAfterNames ws i n mid r → Finds (wrong (item_view i)) r
      world_found r n mid same turn head usable found =
          let right = λ (s : WorldScope) (types : s.names.types ≡ n.types) (walks : IsWalk (record { item = i; scope = s; interfaces = ws.interfaces })). test.members s mid walks same (subst (AddsScope old.types mid.types cs o xs) (sym types) turn.adds) in
          finds_same r (sym (test.says ∙ ap (λ (x : Option Fault). option_or x rest) (head_is n mid.types turn head usable))) (found test.member right)

-- each item of files has a name by which it is found
pub item_called : (files : List PackageFile) (i : BorrowedItem) → IsItemOf files i → (about (item_view i).declared).called ≡ Some (about (item_view i).declared).id.name.now
item_called files i own =
    let k = at_contains (all_items files) (item_view i) own.among in
    by (item_view i).declared (all_declared files k.0 (item_view i) k.1)
  where
    by : (d : Declared) → is_inside (about d).address ≡ false → (about d).called ≡ Some (about d).id.name.now
    by (TheInterface x) free = refl
    by (TheWorld x) free = refl
    by (TheInline world place x name items) free = absurd (let f : ⊥ = cc in f)

-- the first fault of items that are kept of an order is that of one, where those before it have none
pub among_kept : (keep : Item → Bool) (wrong : Item → Option Fault) (ws : List Item) (places : List ℕ) (k p : ℕ) (w : Item) (e : ParseError) → slice_get places k ≡ Some p → slice_get ws p ≡ Some w → keep w ≡ true → first_in wrong (filter keep (in_order ws (take k places))) ≡ None → Reports (wrong w) e → Reports (first_in wrong (filter keep (in_order ws places))) e
among_kept keep wrong ws places k p w e next at kept none own =
    let prefix = filter keep (in_order ws (take k places)) in
    let front = take (k + 1) places in
    let back = drop (k + 1) places in
    let rest = filter keep (in_order ws back) in
    let split : filter keep (in_order ws places) ≡ (prefix ++ w ∷ []) ++ rest =
    ap (λ (l : List ℕ). filter keep (in_order ws l)) (sym (take-append-drop (k + 1) places))
    ∙ ap (filter keep) (filter_map-append (slice_get ws) front back)
    ∙ filter-append keep (in_order ws front) (in_order ws back)
    ∙ ap (λ (l : List Item). l ++ rest) (kept_next keep ws places k p w next at kept)
    in
    reports_same (sym (ap (first_in wrong) split ∙ in-append wrong (prefix ++ w ∷ []) rest)) (reports_prefix (first_in wrong rest) (reports_same (sym (in-more wrong prefix w none)) own))

-- The walk of a world of the files, and what the world adds: after its names what is on its sides, or nothing.
-- it is the walk of a world of the files, where its names are resolved in turn
pub walk_there : (r : Resolved) (i : BorrowedItem) (s : WorldScope) (world : Written) (names : List Borrowed) → IsItemIn r.interfaces true i → declared_view i.declared ≡ TheWorld world → IsTurn (scope_names (item_view i)) s.names.turn.items → map function_view s.functions.items ≡ flat_map part_functions (map world_part world.items.items) → names ≡ i.names.items → AreResults s.results (map name_view names) → s.closed ≡ none_of (includes (item_view i)) → IsWalk (record { item = i; scope = s; interfaces = r.interfaces })
walk_there r i s world names of declared turn functions lent results closed = record {
  world = of;
  functions = functions ∙ ap (λ (d : Declared). flat_map part_functions (about d).parts) (sym declared) ∙ sym (functions_parts (item_view i));
  results = subst (AreResults s.results) (ap (map name_view) lent ∙ of.item.named) results;
  turn = turn;
  closed = closed;
}

-- where each of so many interfaces that are written in an item is, after the declared ones and those that were written before
module _ (foreign : List Address) (is inside : List Interface) (ss : List Address) (item : Item) (counted : length (interfaces_at foreign is) ≡ length is) (known : length ss ≡ length inside) where
  pub inline_present : (k : ℕ) (s : Address) → slice_get (map address (inline_items item)) k ≡ Some s → slice_get (interfaces_at foreign is ++ (ss ++ map address (inline_items item))) ((length is + length inside) + k) ≡ Some s
  inline_present k s at =
      let us = map address (inline_items item) in
      let place : (length is + length inside) + k ≡ length (interfaces_at foreign is) + (length ss + k) = omega (arith, counted, known) in
      ap (slice_get (interfaces_at foreign is ++ (ss ++ us))) place ∙ at_back (interfaces_at foreign is) (ss ++ us) (length ss + k) s (at_back ss us k s at)

-- what a world adds, where its names and what is on its sides were added
module _ (r : Resolved) (i : BorrowedItem) (s : WorldScope) (a middle b : Growing) (n : AddsNamesOf r i a.types middle.types s.names) (required : middle.required.items ≡ a.required.items ++ s.names.required.items) (same : middle.inside ≡ a.inside) (m start : Walked) (begun : IsStart (record { item = i; scope = s; interfaces = r.interfaces }) start) (adds : AddsMembers (record { item = i; scope = s; interfaces = r.interfaces }) [] (side_items (item_view i)) (stage middle start) (stage b m)) where
  abbrev own_walk : ItemWalk
  own_walk = record { item = i; scope = s; interfaces = r.interfaces }

  abbrev item : Item
  item = item_view i

  abbrev foreign : List Address
  foreign = prefix_of r.interfaces.files

  abbrev interfaces : List Interface
  interfaces = r.interfaces.arena

  pub content_adds : IsWalk own_walk → (sides : WorldSides) (found : List WorldInclude) → AreSettled s.closed m.members.sides sides → AreIncludes (addresses_of r) (item_view i) found → (added : World) → HasContent (item_view i).declared sides found added → AddsTo r i a b added
  content_adds walks settled_sides found on_sides are added says = record {
    own = s.names.required.items ++ adds.adds.own;
    list = adds.adds.list ∙ ap (λ (l : List Required). l ++ adds.adds.own) required ∙ append_assoc a.required.items s.names.required.items adds.adds.own;
    holds = record {
      added = added;
      last = refl;
      types = s.names.types;
      middle = middle.types;
      adds = n.adds;
      own = n.handled.list;
      ended = n.handled.ended;
      functions = adds.functions;
      rest = adds.adds.own;
      requires = ap (λ (l : List Required). l ++ adds.adds.own) n.handled.added;
      sides = subst (λ (l : List Interface). AddsSides (resolved_scopes_of r.interfaces) (length interfaces) (address item) s.names.types middle.types b.types l b.inside adds.functions adds.adds.own (side_items item) (inline_items item)) same (adds.adds.holds (address item));
      made = λ id typed made ss known all vs here there. (
          let us = map address (inline_items item) in
          let counted = addresses_count foreign interfaces r.interfaces.prefix in
          let places : HavePlaces own_walk middle.inside (inline_items item) all = record {
            interfaces = record { at = λ p s at. here.at p s (at_prefix (interfaces_at foreign interfaces) (ss ++ us) p s at) };
            inline = λ k s at. here.at ((length interfaces + length middle.inside) + k) s (inline_present foreign interfaces middle.inside ss item counted (known ∙ sym (ap length same)) k s at);
          } in
          let names = in_turn (scope_names item) n.adds.order in
          let on : WorldSide → List Entry = λ s. entries_on s (next_entries id all item [] (side_items item)) in
          let named = begun.imports names n.turn ∙ ap (type_imports names) typed ∙ type_imports-as_stated id (address item) names in
          world_stated (about item.declared).id.name.now (about item.declared).id.span (declared_metadata item.declared) added settled_sides.imports _ settled_sides.exports _ found _ says
          (on_sides Imported (includes item) walks.closed ∙ ap (settled (includes item)) (adds.are_present id made all places Imported ∙ ap (λ (l : List Entry). l ++ on Imported) named))
          (on_sides Exported (includes item) walks.closed ∙ ap (settled (includes item)) (adds.are_present id made all places Exported ∙ ap (λ (l : List Entry). l ++ on Exported) begun.exports))
          (are.1 vs there));
    };
  }

-- parts that put nothing on a side
put_none : (xs : List WorldItem) → list_all puts_nothing xs ≡ true → world_sides xs ≡ []
put_none [] all = refl
put_none (x ∷ xs) all =
    let both = and_parts (puts_nothing x) (list_all puts_nothing xs) all in
    ap (λ (l : List SideItem). l ++ world_sides xs) (nil_from_length (part_items (world_part x)) (eqb-true (length (part_items (world_part x))) 0 both.0)) ∙ put_none xs both.1

-- the names of a world differ
pub texts_differ : (xs : List ScopeName) (ids : List Id) → IsTurn xs ids → AllDiffer (map (λ id. id.name.now) ids)
texts_differ xs ids turn = subst AllDiffer (sym (turn_texts xs turn.order ids turn.are)) (in_turn_distinct xs turn.order turn.least turn.distinct)

-- without functions no setter is without its getter
by_includes : (i : Item) (ns : List Include) → functions i ≡ [] → (if length ns == 0 then option_or (side_setters_fault i Imported) (side_setters_fault i Exported) else None) ≡ None
by_includes i [] none = ap sides_setters none
by_includes i (n ∷ ns) none = ap (λ (b : Bool). if b then option_or (side_setters_fault i Imported) (side_setters_fault i Exported) else None) (eqb-suc-zero (length ns))

pub setters_none : (i : Item) → side_items i ≡ [] → setters_fault i ≡ None
setters_none i empty = by_includes i (includes i) (ap (flat_map item_function) empty)

-- types are no functions
no_setter : (xs : List ScopeName) (types : Names) → list_any (λ (e : Entry). is_setter (function_of e.1)) (type_imports xs types) ≡ false
no_setter [] types = refl
no_setter (x ∷ xs) [] = refl
no_setter (x ∷ xs) (t ∷ types) = no_setter xs types

-- so they stay where they are
names_settled : (written : List Include) (xs : List ScopeName) (types : Names) → settled written (type_imports xs types) ≡ type_imports xs types
names_settled [] xs types = no_setters (λ (e : Entry). function_of e.1) (type_imports xs types) (no_setter xs types)
names_settled (i ∷ is) xs types = refl

-- names in turn without a letter in upper case
module _ (xs : List ScopeName) (ids : List Id) (turn : IsTurn xs ids) (lower : list_any (λ (id : Id). list_any is_ascii_uppercase id.name.now) ids ≡ false) where
  keys_differ : (s : WorldSide) → AllDiffer (map name_key (names_on s (map name_of_id ids)))
  keys_differ s = subst (λ (l : List Name). AllDiffer (map name_key l)) (append-nil (names_on s (map name_of_id ids))) (names_alone s xs ids [] refl turn lower)

-- a world of the files that has nothing on its sides after its names
module _ (i : BorrowedItem) (world : Written) (is : declared_view i.declared ≡ TheWorld world) (bare : list_all puts_nothing world.items.items ≡ true) where
  empty : side_items (item_view i) ≡ []
  empty = ap (λ (d : Declared). flat_map part_items (about d).parts) is ∙ put_none world.items.items bare

  -- nothing has a fault
  pub alone_none : (ids : List Id) → IsTurn (scope_names (item_view i)) ids → list_any (λ (id : Id). list_any is_ascii_uppercase id.name.now) ids ≡ false → (member : List SideItem → SideItem → Option Fault) → option_or (defined_fault [] (map name_of_id ids)) (option_or (first_after member [] (side_items (item_view i))) (setters_fault (item_view i))) ≡ None
  alone_none ids turn lower member = none_both (no_clashes name_key again (map name_of_id ids) (keys_differ (scope_names (item_view i)) ids turn lower Imported)) (none_both (ap (first_after member []) empty) (setters_none (item_view i) empty))

  -- and only the names are added
  pub alone_adds : (r : Resolved) (a b : Growing) (names : ResolvedNames) (n : AddsNamesOf r i a.types b.types names) → b.required.items ≡ a.required.items ++ names.required.items → b.inside ≡ a.inside → (sides : WorldSides) (found : List WorldInclude) → sides.imports ≡ type_imports (in_turn (scope_names (item_view i)) n.adds.order) names.types → sides.exports ≡ [] → AreIncludes (addresses_of r) (item_view i) found → (added : World) → HasContent (item_view i).declared sides found added → AddsTo r i a b added
  alone_adds r a b names n required same named found imported exported are added says =
      let item = item_view i in
      let us = inline_items item in
      let turn = in_turn (scope_names item) n.adds.order in
      let Sides : List Interface → List SideItem → Type 0 = λ l xs. AddsSides (resolved_scopes_of r.interfaces) (length r.interfaces.arena) (address item) names.types b.types b.types l b.inside [] [] xs us in
      record {
        own = names.required.items;
        list = required;
        holds = record {
          added = added;
          last = refl;
          types = names.types;
          middle = b.types;
          adds = n.adds;
          own = n.handled.list;
          ended = n.handled.ended;
          functions = [];
          rest = [];
          requires = n.handled.added ∙ sym (append-nil n.handled.list);
          sides = subst (λ (l : List Interface). Sides l (side_items item)) same (subst (Sides b.inside) (sym empty) (sides_none (resolved_scopes_of r.interfaces) (length r.interfaces.arena) (address item) names.types b.types b.inside us));
          made = λ id typed made ss known all vs here there. (
              let none = λ (s : WorldSide). ap (λ (xs : List SideItem). entries_on s (next_entries id all item [] xs)) empty in
              world_stated (about item.declared).id.name.now (about item.declared).id.span (declared_metadata item.declared) added named.imports _ named.exports _ found _ says
              (imported ∙ sym (names_settled (includes item) turn names.types) ∙ ap (settled (includes item)) (ap (type_imports turn) typed ∙ type_imports-as_stated id (address item) turn ∙ sym (append-nil (name_imports id (address item) turn)) ∙ ap (λ (l : List Entry). name_imports id (address item) turn ++ l) (sym (none Imported))))
              (exported ∙ sym (names_settled (includes item) [] names.types) ∙ ap (settled (includes item)) (sym (none Exported)))
              (are.1 vs there));
        };
      }
