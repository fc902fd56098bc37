-- The first fault of an interface: of its names, or, once they are resolved, of what comes after them.
use Rattle.std.proofs.Common.{◌≡◌, ℕ, Bor, List, [], length, map, Option, None, sym, ap, ◌∙◌, subst, arith, ◌∷◌, ◌++◌, take, Some, refl, append_assoc, ◌<◌, ◌≤◌, ◌+◌, drop, get_or}
use Rattle.wit_contents.proofs.Names.{Item as BorrowedItem, AddsTurn, AreNamesPlaced, Borrowed, Extern, InterfaceItem, IsInsideNext, WorldSide, inline_after, interfaces_on, item_side, slice_get-get_or, with_names, Defines, EndsInTurn, Env, Err, Fault, Finds, FindsInterface, Id, InOrder, Interfaces, IsLent, IsOutcome, IsRightOf, ItemScope, Names, Ok, Outcome, ParseError, Required, ResolvedScope, Result, ScopeName, TypeDef, TypeOwner, env_of, finds_same, in_turn, interface_fault, local_id, names_of, option_or, order_of, outcome_one, resolved_scopes_of, rest_fault, rows_of, scope_item, scope_names, take_all, AddsMembers, AreKeyed, AreRightMembers, Declared, IsLinkedTo, IsNext, IsRightMember, ItemWalk, Link, Reports, ResourceFunc, SideFunction, SideInline, SideItem, SideLink, SourceFunction, Stage, TheWorld, TopName, TypeBody, about, after-append, append-nil, declared_view, definition_functions, first_after, flat_map, flat_map-append, function_fault, inline_side, inside_of, inside_view, item_function, item_inline, items_on, lead, length-map, linked_fault, lost_word, meaning, metadata_fault, name_view, names_at_top, next_place, none_both, option_map_or, or_none, part_items, prefix_of, put_link_fault, reports_prefix, reports_same, resource_function, seen_on, side_items, slice_get, slice_get_read, slice_get_within, stage, take_next, take_seam, top_at, word_fault, world_part, item_stability, names_fault, item_view, put_fault}
use Rattle.wit_arena.proofs.Common.{Item, get_or_from_slice_get}
use Rattle.wit_entries.specs.EntryFaults.{IsExtended, written_fault}
use Rattle.wit_externs.specs.Clash.{EndsIn, FindsIn, signed_by}
use Rattle.wit_externs.proofs.AloneFaults.{safe_of, function_same, words_in}
use Rattle.wit_item_entries.specs.Body.{HasTurn}
use Rattle.wit_item_entries.specs.declared.names.ResolvedNames.{ResolvedNames}
use Rattle.wit_contents.proofs.FileFaults.{or_found}
use Rattle.wit_contents.specs.declared.making.Growing.{Growing}
use Rattle.wit_contents.specs.declared.walk.Walked.{Walked}
use Rattle.wit_walk.proofs.Common.{World, WorldItem}
use Rattle.wit_rules.specs.Signatures.{function_view, HaveOwners}
use Rattle.wit_items.specs.declared.items.InlineInterface.{InlineInterface}
use Rattle.wit_items.specs.declared.items.Declared.TheVariants as borrowed
use Rattle.wit_items.specs.BorrowedItems.{AreInside, Inside}
use Rattle.wit_items.proofs.Inlined.{inside_next, inside_within}
use Rattle.wit_syntax.proofs.Inline.{inlined}
use Rattle.wit_item_entries.proofs.ReachedFaults.{words_same, all_names}
use Rattle.wit_item_entries.proofs.ScopeFunctions.{owners, turn_has}
use Rattle.wit_contents.proofs.Members.{function_there, members_none, members_then, next_then}
use Rattle.wit_externs.proofs.Steps.{split_at}
use Rattle.wit_syntax.proofs.JoinedLists.{flat_map-map}
use Rattle.wit_types.specs.declared.types.TypeOwner.TheVariants as owner
use Rattle.wit_type_tree.specs.declared.types.TypeBody.TheVariants as body

-- names that were added in turn are in the order of their outcome
module _ (old mid : List TypeDef) (cs : List ResolvedScope) (o : TypeOwner) (xs : List ScopeName) (types : Names) (ids : List Id) (required : List Required) (turn : AddsTurn old mid cs o xs types ids required) (outcome : Outcome) (right : IsOutcome (rows_of xs) outcome) where
  abbrev ys : List ScopeName
  ys = in_turn xs (order_of outcome)

  in_turn_is : ys ≡ in_turn xs turn.adds.order
  in_turn_is = ap (λ (p : Outcome). in_turn xs (order_of p)) (outcome_one (rows_of xs) outcome (InOrder turn.adds.order) right turn.adds.least)

  pub turned : ids ≡ map local_id (in_turn xs (order_of outcome))
  turned = turn.turn ∙ ap (map local_id) (sym in_turn_is)

  -- so a test that is right in turn is right of them, also once the arena has grown
  pub turn_ends : (handle : Id → Option Fault) → EndsInTurn cs o old xs outcome handle → (new : List TypeDef) → IsExtended mid new → EndsIn (env_of types) new handle
  turn_ends handle ends new g =
      let zs = in_turn xs turn.adds.order in
      subst (λ (es : List TypeDef). EndsIn (env_of types) es handle) (sym g.is)
      (ends turn.adds.order (outcome_one (rows_of xs) outcome (InOrder turn.adds.order) right turn.adds.least) turn.adds.distinct (length zs) mid g.more types (λ s. subst (λ (l : List ScopeName). Defines old mid cs o s [] types l) (sym (take_all (length zs) zs (omega arith))) (turn.adds.defines s)))

-- they are those of an interface
abbrev own_turn : (i : ItemScope) (n : ResolvedNames) (old mid : List TypeDef) (cs : List ResolvedScope) (o : TypeOwner) → names_of i ≡ scope_names (scope_item i) → HasTurn n mid (scope_item i) old cs o → AddsTurn old mid cs o (names_of i) n.types n.turn.items n.required.items
own_turn i n old mid cs o named turn = subst (λ (xs : List ScopeName). AddsTurn old mid cs o xs n.types n.turn.items n.required.items) (sym named) turn

-- what is found of what comes after them is found of it
pub rest_found : {T : Type 0} (r : Result T ParseError) (is : Interfaces) (o : TypeOwner) (old mid new : List TypeDef) (i : ItemScope) (n : ResolvedNames) → names_of i ≡ scope_names (scope_item i) → HasTurn n mid (scope_item i) old (resolved_scopes_of is) o → IsExtended mid new → (outcome : Outcome) → IsOutcome (rows_of (names_of i)) outcome → (handle : Id → Option Fault) → EndsInTurn (resolved_scopes_of is) o old (names_of i) outcome handle → option_or (item_stability (scope_item i)) (names_fault is i.names.now outcome handle) ≡ None → FindsIn (env_of n.types) new (rest_fault i n.turn.items) r → Finds (interface_fault is i outcome handle) r
rest_found r is o old mid new i n named turn g outcome right handle ends none found =
    let own = own_turn i n old mid (resolved_scopes_of is) o named turn in
    let now = turn_ends old mid (resolved_scopes_of is) o (names_of i) n.types n.turn.items n.required.items own outcome right handle ends new g in
    let ids = turned old mid (resolved_scopes_of is) o (names_of i) n.types n.turn.items n.required.items own outcome right in
    finds_same r (ap (λ (l : List Id). rest_fault i l handle) ids ∙ sym (ap (λ (x : Option Fault). option_or x (rest_fault i (map local_id (in_turn (names_of i) (order_of outcome))) handle)) none)) (finds_in r (env_of n.types) new (rest_fault i n.turn.items) handle now found)
  where
    finds_in : {T : Type 0} (r : Result T ParseError) (env : Env) (es : List TypeDef) (wrong : (Id → Option Fault) → Option Fault) (handle : Id → Option Fault) → EndsIn env es handle → FindsIn env es wrong r → Finds (wrong handle) r
    finds_in (Ok x) env es wrong handle ends found = found handle (safe_of env es handle ends)
    finds_in (Err e) env es wrong handle ends found = or_found found (λ is. is handle ends)

-- what is found of an interface is what a test that is right of it says
pub finds_right : {T : Type 0} (r : Result T ParseError) (test : Item → Option Fault) (is : Interfaces) (old : List TypeDef) (place : ℕ) (w : Item) (s : ItemScope) → IsLent s is.files w → IsRightOf test is old place w → FindsInterface is place old s r → Finds (test w) r
finds_right r test is old place w s lent right found = finds_same r (sym (right.says s lent)) (found right.outcome
    (subst (λ (xs : List ScopeName). IsOutcome (rows_of xs) right.outcome) (sym lent.named) right.right) right.handle
    (subst (λ (xs : List ScopeName). EndsInTurn (resolved_scopes_of is) (owner.Interface place) old xs right.outcome right.handle) (sym lent.named) right.ends))

-- The first fault of what is on the sides of a world: of one that comes next, and of more after some, part by part.
-- by each test that is right of all, the first of them have no fault; and an error reports the first of all
abbrev pub HaveNone : ItemWalk → (prefix all done : List SideItem) → Stage → Type 0
HaveNone w prefix all done a = (wrong : List SideItem → SideItem → Option Fault) → AreRightMembers wrong w prefix all a → first_after wrong prefix done ≡ None

abbrev pub ReportFirst : ItemWalk → (prefix all : List SideItem) → Stage → ParseError → Type 0
ReportFirst w prefix all a e = (wrong : List SideItem → SideItem → Option Fault) → AreRightMembers wrong w prefix all a → Reports (first_after wrong prefix all) e

module _ (w : ItemWalk) where
  -- a test that is right of one that comes next
  right_one : (wrong : List SideItem → SideItem → Option Fault) (prefix : List SideItem) (x : SideItem) (a : Stage) → AreKeyed a.walked.members → AreRightMembers wrong w prefix (x ∷ []) a → IsRightMember (wrong prefix x) w prefix x a
  right_one wrong prefix x a keyed right = subst (λ (l : List SideItem). IsRightMember (wrong l x) w l x a) (append-nil prefix) (right [] [] x a refl (members_none w prefix a keyed))

  -- what is found of it by each test that is right of it is the first of all
  pub one_found : {T : Type 0} (r : Result T ParseError) (x : SideItem) (a : Stage) (n : IsNext w (x ∷ []) a.walked) → ((wrong : List SideItem → SideItem → Option Fault) → IsRightMember (wrong n.prefix x) w n.prefix x a → Finds (wrong n.prefix x) r) → (wrong : List SideItem → SideItem → Option Fault) → AreRightMembers wrong w n.prefix (x ∷ []) a → Finds (first_after wrong n.prefix (x ∷ [])) r
  one_found r x a n found wrong right = finds_same r (sym (or_none (wrong n.prefix x))) (found wrong (right_one wrong n.prefix x a n.keyed right))

  -- of all that come next these were added, and none of them has a fault
  pub record AreDone (all done : List SideItem) (a b : Stage) : Type 0 where
    pub adds : (n : IsNext w all a.walked) → AddsMembers w n.prefix done a b
    pub none : (n : IsNext w all a.walked) → HaveNone w n.prefix all done a

  pub nothing_done : (all : List SideItem) (a : Stage) → AreDone all [] a a
  nothing_done all a = record { adds = λ n. members_none w n.prefix a n.keyed; none = λ n wrong right. refl }

  -- so more of them come next
  module _ (all done ys rest : List SideItem) (a b : Stage) (split : all ≡ done ++ (ys ++ rest)) (d : AreDone all done a b) where
    abbrev next_of : IsNext w all a.walked → IsNext w ys b.walked
    next_of n = next_then w all done ys rest a b n split (d.adds n)

    -- of which a test is right that is right of all
    rights_next : (n : IsNext w all a.walked) (wrong : List SideItem → SideItem → Option Fault) → AreRightMembers wrong w n.prefix all a → AreRightMembers wrong w (n.prefix ++ done) ys b
    rights_next n wrong right early late x now is more =
        let whole : all ≡ (done ++ early) ++ (x ∷ (late ++ rest)) = split ∙ ap (λ (l : List SideItem). done ++ (l ++ rest)) is ∙ ap (λ (l : List SideItem). done ++ l) (append_assoc early (x ∷ late) rest) ∙ sym (append_assoc done early (x ∷ (late ++ rest))) in
        subst (λ (l : List SideItem). IsRightMember (wrong l x) w l x now) (sym (append_assoc n.prefix done early)) (right (done ++ early) (late ++ rest) x now whole (members_then w n.prefix done early a b now (d.adds n) more))

    -- the first fault of these is the first of all
    first_later : (e : ParseError) → ((n : IsNext w ys b.walked) → ReportFirst w n.prefix ys b e) → (n : IsNext w all a.walked) → ReportFirst w n.prefix all a e
    first_later e own n wrong right =
        let later = first_after wrong (n.prefix ++ done) (ys ++ rest) in
        let is : first_after wrong n.prefix all ≡ option_or (first_after wrong (n.prefix ++ done) ys) (first_after wrong ((n.prefix ++ done) ++ ys) rest) =
        ap (first_after wrong n.prefix) split
        ∙ after-append wrong n.prefix done (ys ++ rest)
        ∙ ap (λ (o : Option Fault). option_or o later) (d.none n wrong right)
        ∙ after-append wrong (n.prefix ++ done) ys rest
        in
        reports_same (sym is) (reports_prefix (first_after wrong ((n.prefix ++ done) ++ ys) rest) (own (next_of n) wrong (rights_next n wrong right)))

    -- where these have none either
    done_later : (c : Stage) → ((n : IsNext w ys b.walked) → AddsMembers w n.prefix ys b c) → ((n : IsNext w ys b.walked) → HaveNone w n.prefix ys ys b) → AreDone all (done ++ ys) a c
    done_later c adds none = record {
      adds = λ n. members_then w n.prefix done ys a b c (d.adds n) (adds (next_of n));
      none = λ n wrong right. after-append wrong n.prefix done ys ∙ none_both (d.none n wrong right) (none (next_of n) wrong (rights_next n wrong right));
    }

-- a function that comes next, by its place among the functions of the item
module _ {w : ItemWalk} {fn : SourceFunction} {m : Walked} (n : IsNext w (SideFunction fn ∷ []) m) where
  abbrev fns : List SourceFunction
  fns = map function_view w.scope.functions.items

  abbrev place : ℕ
  place = m.seen.functions

  abbrev env : Env
  env = env_of w.scope.names.types

  abbrev xs : List ScopeName
  xs = scope_names (item_view w.item)

  -- it is there, in a scope of the names
  pub function_next : slice_get (map function_view w.scope.functions.items) m.seen.functions ≡ Some fn
  function_next = ap (λ (l : List SourceFunction). slice_get l place) n.walk.functions ∙ function_there (item_view w.item) n.prefix n.rest fn place n.sides n.seen.functions

  pub function_within : m.seen.functions < length w.scope.functions.items
  function_within = subst (λ (k : ℕ). place < k) (length-map w.scope.functions.items function_view) (slice_get_within fns place fn function_next)

  pub function_owners : HaveOwners (env_of w.scope.names.types) (map function_view w.scope.functions.items)
  function_owners = subst (HaveOwners env) (sym n.walk.functions) (owners (item_view w.item) env (turn_has xs w.scope.names.turn.items w.scope.names.types n.walk.turn w.scope.names.listed))

  pub function_scoped : (name : List ℕ) → env name ≡ None → meaning xs name ≡ None
  function_scoped = all_names xs w.scope.names.turn.items w.scope.names.types n.walk.turn w.scope.names.listed

  upto : take place fns ≡ flat_map item_function n.prefix
  upto =
      let before = flat_map item_function n.prefix in
      let later = flat_map item_function (SideFunction fn ∷ n.rest) in
      let all : fns ≡ before ++ later = n.walk.functions ∙ ap (flat_map item_function) n.sides ∙ flat_map-append item_function n.prefix (SideFunction fn ∷ n.rest) in
      ap (λ (k : ℕ). take k fns) n.seen.functions ∙ ap (take (length before)) all ∙ take_seam before later

  -- by the names of the scope, and by those of the table
  by_scope : (handle : Id → Option Fault) → function_fault (signed_by (words_in env) handle (take place fns ++ fn ∷ [])) xs fn ≡ function_fault (signed_by (word_fault xs) handle (flat_map item_function n.prefix ++ fn ∷ [])) xs fn
  by_scope handle =
      ap (λ (l : List SourceFunction). function_fault (signed_by (words_in env) handle (l ++ fn ∷ [])) xs fn) upto
      ∙ ap (λ (word : List SourceFunction → Id → Option Fault). function_fault (signed_by word handle (flat_map item_function n.prefix ++ fn ∷ [])) xs fn) (words_same xs w.scope.names.turn.items w.scope.names.types n.walk.turn w.scope.names.listed)

  -- itself, by a test of names in handles that is right of the arena once it was resolved
  abbrev pub by_table : List TypeDef → Option Fault
  by_table es = function_fault (written_fault (lost_word (take (place + 1) fns)) env es) xs fn

  abbrev by_names : (Id → Option Fault) → Option Fault
  by_names handle = function_fault (signed_by (word_fault xs) handle (flat_map item_function n.prefix ++ fn ∷ [])) xs fn

  function_is : (es : List TypeDef) (handle : Id → Option Fault) → EndsIn env es handle → by_table es ≡ by_names handle
  function_is es handle ends = function_same env es handle xs ends fns place fn function_next ∙ by_scope handle

  -- and so of all that is found of it, where its name is looked at next
  pub function_found : {U T : Type 0} (q : Result U ParseError) (r : Result T ParseError) (g : Growing) (new : List TypeDef) → IsExtended g.types new → Finds (by_table new) q → ((o : Option Fault) → Finds o q → Finds (option_or o (put_fault m.members (SideFunction fn))) r) → (wrong : List SideItem → SideItem → Option Fault) → AreRightMembers wrong w n.prefix (SideFunction fn ∷ []) (stage g m) → Finds (first_after wrong n.prefix (SideFunction fn ∷ [])) r
  function_found q r g new more found next = one_found w r (SideFunction fn) (stage g m) n (λ wrong right. (
      let ends = subst (λ (es : List TypeDef). EndsIn env es right.0) (sym more.is) (right.1 more.more) in
      finds_same r (sym right.2) (next (by_names right.0) (finds_same q (function_is new right.0 ends) found))))

-- a link that comes next: its attributes, where its path leads, and its name
module _ {w : ItemWalk} {link : Link} {m : Walked} (n : IsNext w (SideLink link ∷ []) m) where
  abbrev resolved : Interfaces
  resolved = w.interfaces

  -- what is at the top of its file
  at_top : top_at resolved.files w.item.place ≡ (item_view w.item).top
  at_top = ap names_at_top n.walk.world.item.file

  pub link_leads : (id : ℕ) → IsLinkedTo resolved.files resolved.by_name (top_at resolved.files w.item.place) link.path id → IsLinkedTo resolved.files resolved.by_name (item_view w.item).top link.path id
  link_leads id leads = subst (λ (t : List TopName). IsLinkedTo resolved.files resolved.by_name t link.path id) at_top leads

  abbrev pub link_lost : List TopName → Option Fault
  link_lost top = linked_fault w.interfaces.files w.interfaces.by_name top link.path

  abbrev pub link_named : Option Fault
  link_named = option_map_or (put_link_fault m.members link) (lead w link.path) None

  pub link_reached : {T : Type 0} (r : Result T ParseError) → Finds (link_lost (top_at w.interfaces.files w.item.place)) r → Finds (link_lost (item_view w.item).top) r
  link_reached r found = finds_same r (ap link_lost at_top) found

  pub link_put : {T : Type 0} (r : Result T ParseError) (id : ℕ) → IsLinkedTo w.interfaces.files w.interfaces.by_name (top_at w.interfaces.files w.item.place) link.path id → Finds (put_link_fault m.members link id) r → Finds link_named r
  link_put r id leads found = finds_same r (sym (ap (λ (p : Option ℕ). option_map_or (put_link_fault m.members link) p None) (link_leads id leads).1)) found

  pub link_found : {T : Type 0} (r : Result T ParseError) (g : Growing) → Finds (option_or (metadata_fault link.attributes) (option_or (link_lost (item_view w.item).top) link_named)) r → (wrong : List SideItem → SideItem → Option Fault) → AreRightMembers wrong w n.prefix (SideLink link ∷ []) (stage g m) → Finds (first_after wrong n.prefix (SideLink link ∷ [])) r
  link_found r g found = one_found w r (SideLink link) (stage g m) n (λ wrong right. finds_same r (sym right) found)

-- an inline interface that comes next is the next of its side that is borrowed
module _ {w : ItemWalk} {m : Walked} {x : Extern} {name : Id} {items : List InterfaceItem} (n : IsNext w (SideInline x name items ∷ []) m) (ns : List Inside) (k : ℕ) (all : ns ≡ inside_of x.side w.item) (next : k ≡ seen_on x.side m.seen) where
  are : AreInside x.side (item_view w.item) ns
  are = subst (AreInside x.side (item_view w.item)) (sym all) (n.walk.world.item.written x.side)

  count : k ≡ length (flat_map item_inline (items_on x.side n.prefix))
  count = next ∙ n.seen.inline x.side

  pub next_within : k < length ns
  next_within = inside_within (item_view w.item) ns n.prefix n.rest x name items k are n.sides count

  module _ (v : Inside) (is : v ≡ get_or ns k v) where
    at : slice_get ns k ≡ Some v
    at = slice_get-get_or ns k v next_within ∙ ap Some (sym is)

    pub next_side : SideInline x name items ≡ inline_side v.inline
    next_side =
        let same = ap (λ (p : Item × List ScopeName). p.0.declared) (inside_next (item_view w.item) ns n.prefix n.rest x name items k are n.sides count v at) in
        let both : declared_view (borrowed.Inline v.inline) ≡ (inlined (item_view w.item) (length (interfaces_on x.side n.prefix)) x name items).declared = same in
        cc

    pub next_there : IsInsideNext w.item v m
    next_there = subst (λ (s : WorldSide). slice_get (inside_of s w.item) (seen_on s m.seen) ≡ Some v) (ap item_side next_side) (ap (λ (l : List Inside). slice_get l (seen_on x.side m.seen)) (sym all) ∙ ap (slice_get ns) (sym next) ∙ at)

-- as it is lent
module _ {w : ItemWalk} {m : Walked} (v : Inside) (n : IsNext w (inline_side v.inline ∷ []) m) (there : IsInsideNext w.item v m) (names : Bor (List Borrowed)) (own : names.now ≡ v.names.items) where
  abbrev x : InlineInterface
  x = v.inline

  abbrev side : WorldSide
  side = x.written.now.side

  abbrev s : ItemScope
  s = record { file = w.item.file; declared = borrowed.Inline x; names = names }

  is : inside_view (item_view w.item) v ≡ with_names (inlined (item_view w.item) (length (interfaces_on side n.prefix)) x.written.now x.name x.items.now)
  is = inside_next (item_view w.item) (inside_of side w.item) n.prefix n.rest x.written.now x.name x.items.now (seen_on side m.seen) (n.walk.world.item.written side) n.sides (n.seen.inline side) v there

  pub inside_lent : IsLent s w.interfaces.files (scope_item s)
  inside_lent = record {
    sort = refl;
    item = refl;
    named = ap (map name_view) own ∙ ap (λ (p : Item × List ScopeName). p.1) is;
    placed = subst (AreNamesPlaced (prefix_of w.interfaces.files)) (ap (λ (y : Inside). y.names.items) (get_or_from_slice_get (inside_of side w.item) (seen_on side m.seen) v v there) ∙ sym own) (n.walk.world.item.placed.inside side (seen_on side m.seen) v (slice_get_within (inside_of side w.item) (seen_on side m.seen) v there));
  }

  -- it is where the item is that it is on its side
  pub inline_here : inline_after (item_view w.item) n.prefix (inline_side x ∷ []) ≡ scope_item s ∷ []
  inline_here = ap (λ (p : Item × List ScopeName). p.0 ∷ []) (sym is)

  -- what is found in it is what a test that is right of it says, and then its attributes and its name
  pub inline_found : {U T : Type 0} (q : Result U ParseError) (r : Result T ParseError) (old : Growing) → FindsInterface w.interfaces (next_place w.interfaces old.inside) old.types s q → ((o : Option Fault) → Finds o q → Finds (option_or o (option_or (metadata_fault x.written.now.attributes.items) (put_fault m.members (inline_side x)))) r) → (wrong : List SideItem → SideItem → Option Fault) → AreRightMembers wrong w n.prefix (inline_side x ∷ []) (stage old m) → Finds (first_after wrong n.prefix (inline_side x ∷ [])) r
  inline_found q r old found next = one_found w r (inline_side x) (stage old m) n (λ wrong right. (
      let it = right.1 (scope_item s) inline_here in
      finds_same r (sym it.1) (next (right.0 (scope_item s)) (finds_right q right.0 w.interfaces old.types (next_place w.interfaces old.inside) (scope_item s) s inside_lent it.0 found))))

-- what parts of a world are on its sides
abbrev pub world_sides : List WorldItem → List SideItem
world_sides xs = flat_map part_items (map world_part xs)

abbrev pub part_sides : WorldItem → List SideItem
part_sides x = part_items (world_part x)

-- those of the world are what the item has on its sides
pub all_sides : (i : BorrowedItem) {world : World} (xs : List WorldItem) → declared_view i.declared ≡ TheWorld world → xs ≡ world.items.items → side_items (item_view i) ≡ flat_map part_sides xs
all_sides i xs is same = ap (λ (d : Declared). flat_map part_items (about d).parts) is ∙ ap world_sides (sym same) ∙ flat_map-map part_items world_part xs

-- a function of a resource is, too
abbrev pub function_sides : Id → ResourceFunc → List SideItem
function_sides r f = SideFunction (resource_function r f) ∷ []

pub all_functions : (r : Id) (fs : List ResourceFunc) → map SideFunction (map (resource_function r) fs) ≡ flat_map (function_sides r) fs
all_functions r [] = refl
all_functions r (f ∷ fs) = ap (λ (l : List SideItem). SideFunction (resource_function r f) ∷ l) (all_functions r fs)

-- those before one were done
module _ {X : Type 0} {w : ItemWalk} (of : X → List SideItem) {all : List SideItem} (xs : List X) {k : ℕ} {a b : Stage} (was : AreDone w all (flat_map of (take k xs)) a b) (are : all ≡ flat_map of xs) where
  -- once there are no more all are done
  pub all_done : length xs ≤ k → AreDone w all all a b
  all_done past = subst (λ (l : List SideItem). AreDone w all l a b) (ap (flat_map of) (take_all k xs past) ∙ sym are) was

  module _ {x y : X} (within : k < length xs) (item : x ≡ get_or xs k x) (own : x ≡ y) where
    there : slice_get xs k ≡ Some y
    there = slice_get_read xs _ k x refl within item ∙ ap Some own

    split : all ≡ flat_map of (take k xs) ++ (of y ++ flat_map of (drop (k + 1) xs))
    split = are ∙ ap (flat_map of) (split_at xs k y there) ∙ flat_map-append of (take k xs) (y ∷ drop (k + 1) xs)

    more : flat_map of (take k xs) ++ of y ≡ flat_map of (take (k + 1) xs)
    more = sym (ap (flat_map of) (take_next xs k y there) ∙ flat_map-append of (take k xs) (y ∷ []) ∙ ap (λ (l : List SideItem). flat_map of (take k xs) ++ l) (append-nil (of y)))

    -- so its own come next
    pub part_next : IsNext w all a.walked → IsNext w (of y) b.walked
    part_next n = next_of w all (flat_map of (take k xs)) (of y) (flat_map of (drop (k + 1) xs)) a b split was n

    -- and are done, or report the first fault
    pub part_done : (c : Stage) → ((n : IsNext w (of y) b.walked) → AddsMembers w n.prefix (of y) b c) → ((n : IsNext w (of y) b.walked) → HaveNone w n.prefix (of y) (of y) b) → AreDone w all (flat_map of (take (k + 1) xs)) a c
    part_done c adds none = subst (λ (l : List SideItem). AreDone w all l a c) more (done_later w all (flat_map of (take k xs)) (of y) (flat_map of (drop (k + 1) xs)) a b split was c adds none)

    pub part_kept : of y ≡ [] → AreDone w all (flat_map of (take (k + 1) xs)) a b
    part_kept nothing = subst (λ (l : List SideItem). AreDone w all l a b) (sym (append-nil (flat_map of (take k xs))) ∙ ap (λ (l : List SideItem). flat_map of (take k xs) ++ l) (sym nothing) ∙ more) was

    pub part_first : (e : ParseError) → ((n : IsNext w (of y) b.walked) → ReportFirst w n.prefix (of y) b e) → (n : IsNext w all a.walked) → ReportFirst w n.prefix all a e
    part_first e found n = first_later w all (flat_map of (take k xs)) (of y) (flat_map of (drop (k + 1) xs)) a b split was e found n

-- a definition of another form has no function
pub no_functions : (r : Id) (b : TypeBody) → ((fs : _) → b ≡ body.Resource fs → ⊥) → definition_functions r b ≡ []
no_functions r (body.Resource funcs) other = absurd (other funcs refl)
no_functions r (body.Record span fields) other = refl
no_functions r (body.Flags span flags) other = refl
no_functions r (body.Variant span cases) other = refl
no_functions r (body.Enum span cases) other = refl
no_functions r (body.Plain t) other = refl
