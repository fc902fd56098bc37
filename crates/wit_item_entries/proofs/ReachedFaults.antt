-- The first fault of the names of a scope, by a table of them and by the interfaces and the arena that are there.
use Rattle.std.proofs.Common.{◌≡◌, ℕ, true, List, [], ◌++◌, map, Option, Some, None, refl, sym, ap, ◌∙◌, is_none, zero, suc, ◌∷◌, length, Bool, false, ◌||◌, nat_eq, inl, inr, Contains, ◌+◌, cond, take, subst, arith, append_assoc, zero-add, suc-add, ◌⊎◌}
use mathlib.Core.Path.{fun_ext}
use Rattle.std.specs.Prelude.{is_some}
use Rattle.wit_items.proofs.Common.{Id, Name, Names, Required, ResolvedScope, ScopeName, SourceFunction, TypeDef, TypeOwner, WorldSide, bytes_eq, env_of, find_some, if◌then◌else◌, in_turn, in_turn_among, local_id, local_name, local_names, lookup-place, lost_word, map_at, map_map, meaning, name_itself, names_in, names_on, option_map, slice_get, slice_get-map, word_fault, Address, AreFound, Interface, InterfaceNamed, IsFound, found_resolved_scope, resolved_scope_at, resolved_scopes, Fault, IsPlaced, Source as BorrowedSource, UsedName, any_found, any_some, at_contains, contains_at, false_from_ne_true, function_used, list_any, missing_at, name_cases, name_equal, name_twice, name_word, option_and_then, option_map_or, option_or, pointwise, prefix_of, resolved_scopes_of, source_target, source_view, unresolved_fault, use_view, AllDiffer, AreEnded, Defined, ForeignName, IsStored, Used, all_handles, all_handles-append, append-nil, at_back, at_prefix, at_split, at_take, body_types, defined, ended_append, ended_more, flat_map, flat_map-append, in_order, lookup-insert_entry, map-append, name_types, names-insert_entry, slice_get_within, used, AreDistinct, AtCycle, AtMissing, Defines, Env, Err, Finds, HasNames, InOrder, IsAllocationFailure, IsOrder, IsOutcome, Ok, Outcome, ParseError, Plain, Record, Reports, Result, TypeBody, Variant, all_shapes, all_words, body_of, cyclic_at, defines_more, definition_fault as scope_definition_fault, fault_of, finds_same, first_in, list_fault, local_names_fault, metadata_fault, missing_type_at, none_both, or_none_both, order_fault, order_of, outcome_one, rows_of, shape_of, type_fault, type_kept, type_word, words, words-head, «Type» as Written, source_place}
use Rattle.wit_arena.proofs.Meant.{free_unmeant}
use Rattle.wit_sides.specs.SideNames.{defined_on}
use Rattle.wit_sides.specs.declared.sides.Sides.{Sides}
use Rattle.wit_entries.specs.EntryFaults.{name_fault, handle_fault, written_fault, definition_fault, IsExtended, Requires, end_fault, end_in}
use Rattle.wit_signatures.specs.FunctionsOfScope.{name_of_id}
use Rattle.wit_externs.specs.Clash.{EndsIn, IsSafe}
use Rattle.wit_item_entries.specs.AddedNames.{AddsTurn, IsTurn}
use Rattle.wit_items.specs.declared.interfaces.Interfaces.{Interfaces}
use Rattle.wit_item_entries.specs.ReachedFaults.{lost_name, used_fault, spelled_fault, local_fault, ordered_fault, EndsAlong, EndsInTurn, FindsDefinitions}
use Rattle.wit_type_tree.specs.declared.types.TypeDef.{TypeDef as Definition}
use Rattle.wit_first.specs.OrderFaults.{IsTypeOrderFault}
use Rattle.wit_walk.proofs.SameTypes.{Agree, types_same}
use Rattle.wit_entries.specs.declared.scope.Scope.{Scope}
use Rattle.wit_scopes.specs.DefinitionOrder.{AreInTurn}
use Rattle.wit_scopes.proofs.Placed.{none_unknown}
use Rattle.wit_scopes.specs.declared.scope_name.Source.TheVariants as borrowed_source
use Rattle.wit_type_tree.specs.declared.types.«Type».TheVariants as written
use Rattle.wit_arena.proofs.Common.{free_functions}
use Rattle.wit_externs.proofs.AloneFaults.{words_in}

-- once the names of a scope are defined where nothing was, they are on their side
pub used_before : (side : WorldSide) (old new : Sides) (borrowed ids : List Id) → ((s : WorldSide) → defined_on s old ≡ []) → ((s : WorldSide) → defined_on s new ≡ defined_on s old ++ names_on s (map name_of_id borrowed)) → borrowed ≡ ids → defined_on side new ≡ names_on side (map name_of_id ids)
used_before side old new borrowed ids nothing defined same = defined side ∙ ap (λ (l : List Name). l ++ names_on side (map name_of_id borrowed)) (nothing side) ∙ ap (λ (l : List Id). names_on side (map name_of_id l)) same

-- the texts of the names of a scope in turn
pub turn_texts : (xs : List ScopeName) (order : List ℕ) (ids : List Id) → ids ≡ map local_id (in_turn xs order) → map (λ (id : Id). id.name.now) ids ≡ local_names (in_turn xs order)
turn_texts xs order ids are = ap (map (λ (id : Id). id.name.now)) are ∙ map_map (λ (id : Id). id.name.now) local_id (in_turn xs order)

-- and so of those that were added
pub turn_named : (old new : List TypeDef) (cs : List ResolvedScope) (o : TypeOwner) (xs : List ScopeName) (types : Names) (ids : List Id) (rs : List Required) → AddsTurn old new cs o xs types ids rs → names_in types ≡ map (λ (id : Id). id.name.now) ids
turn_named old new cs o xs types ids rs t = t.listed ∙ sym (turn_texts xs t.adds.order ids t.turn)

-- where a table has just the names of a scope, what it lacks is none of them
pub all_names : (xs : List ScopeName) (ids : List Id) (types : Names) → IsTurn xs ids → names_in types ≡ map (λ (id : Id). id.name.now) ids → (name : List ℕ) → env_of types name ≡ None → meaning xs name ≡ None
all_names xs ids types t listed name free = free_unmeant xs t.order types name t.least (listed ∙ turn_texts xs t.order ids t.are) free

-- and what it has is one of them
has_meaning : (xs : List ScopeName) (ids : List Id) (types : Names) (name : List ℕ) (place : ℕ) → IsTurn xs ids → names_in types ≡ map (λ (id : Id). id.name.now) ids → env_of types name ≡ Some place → (x : ScopeName) × (meaning xs name ≡ Some x)
has_meaning xs ids types name place t listed present =
    let p = lookup-place types name place present in
    let at : slice_get (names_in types) p.0 ≡ Some name = slice_get-map (λ (q : List ℕ × ℕ). q.0) types p.0 ∙ ap (option_map (λ (q : List ℕ × ℕ). q.0)) p.1 in
    let own = map_at local_name (in_turn xs t.order) p.0 name (ap (λ (l : List (List ℕ)). slice_get l p.0) (sym (listed ∙ turn_texts xs t.order ids t.are)) ∙ at) in
    let there = in_turn_among xs t.order t.least p.0 own.0 own.1 in
    let passes : bytes_eq (local_name own.0) name ≡ true = ap (λ (n : List ℕ). bytes_eq n name) own.2 ∙ name_itself name in
    find_some (λ (x : ScopeName). bytes_eq (local_name x) name) xs there.0 own.0 there.1 passes

-- so a name means nothing by the table where it does in the scope
pub words_same : (xs : List ScopeName) (ids : List Id) (types : Names) → IsTurn xs ids → names_in types ≡ map (λ (id : Id). id.name.now) ids → words_in (env_of types) ≡ word_fault xs
words_same xs ids types t listed = fun_ext (λ fns. fun_ext (λ id. by fns id (env_of types id.name.now) refl))
  where
    by : (fns : List SourceFunction) (id : Id) (o : Option ℕ) → env_of types id.name.now ≡ o → (if is_none o then Some (lost_word fns id) else None) ≡ word_fault xs fns id
    by fns id None free = sym (ap (λ (m : Option ScopeName). if is_none m then Some (lost_word fns id) else None) (all_names xs ids types t listed id.name.now free))
    by fns id (Some place) present = (let x = has_meaning xs ids types id.name.now place t listed present in sym (ap (λ (m : Option ScopeName). if is_none m then Some (lost_word fns id) else None) x.1))

-- Interfaces as scopes, those of other packages in front.
-- the resolved scope of an interface in front
prefix_at : (ss : List Address) (is : List Interface) (t : ℕ) (s : Address) (i : Interface) → slice_get ss t ≡ Some s → slice_get is t ≡ Some i → slice_get (resolved_scopes ss is) t ≡ Some (resolved_scope_at s i)
prefix_at [] is t s i at there = absurd (let f : ⊥ = cc in f)
prefix_at (r ∷ ss) [] t s i at there = absurd (let f : ⊥ = cc in f)
prefix_at (r ∷ ss) (j ∷ is) zero s i at there =
    let address : r ≡ s = cc in
    let same : j ≡ i = cc in
    ap (λ (x : Address). Some (resolved_scope_at x j)) address ∙ ap (λ (x : Interface). Some (resolved_scope_at s x)) same
prefix_at (r ∷ ss) (j ∷ is) (suc t) s i at there = prefix_at ss is t s i at there

-- an interface that goes by a name is found
pub named_found : (ss : List Address) (is : List Interface) (by_name : Names) (name : List ℕ) (t : ℕ) (i : Interface) → AreFound (λ (i : Interface). i.name) (length ss) is by_name → env_of by_name name ≡ Some t → slice_get is t ≡ Some i → IsFound (resolved_scopes ss is) (InterfaceNamed name) (resolved_scope_at (InterfaceNamed name) i)
named_found ss is by_name name t i found here there =
    let says = found name t here in
    let j = found_resolved_scope ss is t name says.0 says.1 in
    let both : Some j.0 ≡ Some i = sym j.1 ∙ there in
    let same : j.0 ≡ i = cc in
    record {
      place = t;
      at = j.2 ∙ ap (λ (k : Interface). Some (resolved_scope_at (InterfaceNamed name) k)) same;
      called = refl;
    }

-- so is one of another package
pub prefix_found : (ss : List Address) (is : List Interface) (t : ℕ) (s : Address) (i : Interface) → slice_get ss t ≡ Some s → slice_get is t ≡ Some i → IsFound (resolved_scopes ss is) s (resolved_scope_at s i)
prefix_found ss is t s i at there = record { place = t; at = prefix_at ss is t s i at there; called = refl }

-- The first fault of used names: one name more.
-- a name that is that of a function, or of nothing
pub of_function : (fns : List (List ℕ)) (id : Id) → Contains fns id.name.now → lost_name fns id ≡ function_used id
of_function fns id among =
    let it = at_contains fns id.name.now among in
    rw (any_some (bytes_eq id.name.now) fns it.0 id.name.now it.1 (name_itself id.name.now)) refl

pub of_nothing : (fns : List (List ℕ)) (id : Id) → (Contains fns id.name.now → ⊥) → lost_name fns id ≡ missing_at 12 name_word id
of_nothing fns id none =
    let miss : list_any (bytes_eq id.name.now) fns ≡ false = false_from_ne_true (list_any (bytes_eq id.name.now) fns) (λ hit. (
    let it = any_found (bytes_eq id.name.now) fns hit in
    none (contains_at fns it.0 id.name.now (it.2 ∙ ap Some (sym (name_equal id.name.now it.1 it.3)))))) in
    rw miss refl

-- a used name from an interface that is resolved
pub used_from : (is : Interfaces) (u : UsedName) (i : Interface) → unresolved_fault is.by_name (source_target u.from) ≡ None → option_and_then (slice_get is.arena) (source_place is.by_name u.from) ≡ Some i → used_fault is u ≡ (if is_none (env_of i.types u.name.now.name.name.now) then Some (lost_name (free_functions i) u.name.now.name) else None)
used_from is u i none at = ap (λ (o : Option Fault). option_or o (option_map_or (λ (i : Interface). if is_none (env_of i.types u.name.now.name.name.now) then Some (lost_name (free_functions i) u.name.now.name) else None) (option_and_then (slice_get is.arena) (source_place is.by_name u.from)) None)) none ∙ ap (λ (o : Option Interface). option_map_or (λ (i : Interface). if is_none (env_of i.types u.name.now.name.name.now) then Some (lost_name (free_functions i) u.name.now.name) else None) o None) at

-- a name is in a table where one of the names there is spelled alike
any_in : (names : Names) (name : List ℕ) → list_any (λ (k : List ℕ). bytes_eq k name) (names_in names) ≡ is_some (env_of names name)
any_in [] name = refl
any_in (e ∷ es) name = elim (name_cases name e.0) [
  | inl same ↦ (
      let hit : pointwise nat_eq name e.0 ≡ true = ap (pointwise nat_eq name) (sym same) ∙ name_itself name in
      let too : bytes_eq e.0 name ≡ true = ap (λ (k : List ℕ). bytes_eq k name) (sym same) ∙ name_itself name in
      rw (hit, too) refl)
  | inr miss ↦ (
      let too : bytes_eq e.0 name ≡ false = false_from_ne_true (bytes_eq e.0 name) (λ hit. (
      let same = name_equal e.0 name hit in
      let wrong : true ≡ false = sym (name_itself name) ∙ ap (pointwise nat_eq name) (sym same) ∙ miss in
      let f : ⊥ = cc in
      f)) in
      rw (miss, too) (any_in es name))
]

any_names : (before : List UsedName) (name : List ℕ) → list_any (λ (v : UsedName). bytes_eq (local_name (use_view v)) name) before ≡ list_any (λ (k : List ℕ). bytes_eq k name) (local_names (map use_view before))
any_names [] name = refl
any_names (v ∷ vs) name = ap (λ (b : Bool). bytes_eq (local_name (use_view v)) name || b) (any_names vs name)

-- one more, where the earlier ones are in a table
pub local_next : (is : Interfaces) (names : Names) (before : List UsedName) (u : UsedName) → names_in names ≡ local_names (map use_view before) → local_fault is before u ≡ option_or (used_fault is u) (spelled_fault names u)
local_next is names before u listed =
    let id = local_id (use_view u) in
    let name = local_name (use_view u) in
    let one : list_any (λ (v : UsedName). bytes_eq (local_name (use_view v)) name) before ≡ is_some (env_of names name) = any_names before name ∙ ap (list_any (λ (k : List ℕ). bytes_eq k name)) (sym listed) ∙ any_in names name in
    ap (λ (b : Bool). option_or (used_fault is u) (if b then Some (name_twice id) else None)) one

-- an interface that is resolved is found
pub found_of : (is : Interfaces) (from : BorrowedSource) (i : Interface) → IsPlaced (prefix_of is.files) from → option_and_then (slice_get is.arena) (source_place is.by_name from) ≡ Some i → IsFound (resolved_scopes_of is) (source_view from) (resolved_scope_at (source_view from) i)
found_of is (borrowed_source.Declared path) i placed at = by (env_of is.by_name path.name.now) refl at
  where
    by : (o : Option ℕ) → env_of is.by_name path.name.now ≡ o → option_and_then (slice_get is.arena) o ≡ Some i → IsFound (resolved_scopes_of is) (source_view (borrowed_source.Declared path)) (resolved_scope_at (source_view (borrowed_source.Declared path)) i)
    by None free h = absurd (let g : ⊥ = cc in g)
    by (Some t) present h = named_found (prefix_of is.files) is.arena is.by_name path.name.now t i is.found present h
found_of is (borrowed_source.Foreign place of name) i placed at = prefix_found (prefix_of is.files) is.arena place _ i placed at

-- What handles in the definitions of a scope require, one definition after another.
-- where texts differ, and those of a table are some of them, the next one is free
pub next_free : (names : Names) (prefix : List (List ℕ)) (ds : List ScopeName) (i : ℕ) (x : ScopeName) → names_in names ≡ prefix ++ local_names (take i ds) → AllDiffer (prefix ++ local_names ds) → slice_get ds i ≡ Some x → env_of names (local_name x) ≡ None
next_free names prefix ds i x listed differ at = go (env_of names (local_name x)) refl
  where
    called : (j : ℕ) (y : ScopeName) → slice_get ds j ≡ Some y → slice_get (prefix ++ local_names ds) (length prefix + j) ≡ Some (local_name y)
    called j y there = at_back prefix (local_names ds) j (local_name y) (slice_get-map local_name ds j ∙ ap (option_map local_name) there)

    go : (o : Option ℕ) → env_of names (local_name x) ≡ o → env_of names (local_name x) ≡ None
    go None e = e
    go (Some v) e = absurd (
        let p = lookup-place names (local_name x) v e in
        let named : slice_get (prefix ++ local_names (take i ds)) p.0 ≡ Some (local_name x) = ap (λ (l : List (List ℕ)). slice_get l p.0) (sym listed) ∙ slice_get-map (λ (q : List ℕ × ℕ). q.0) names p.0 ∙ ap (option_map (λ (q : List ℕ × ℕ). q.0)) p.1 in
        elim (at_split prefix (local_names (take i ds)) p.0 (local_name x) named) [
          | inl early ↦ (
              let same = differ.differ p.0 (length prefix + i) (local_name x) (at_prefix prefix (local_names ds) p.0 (local_name x) early) (called i x at) in
              let within = slice_get_within prefix p.0 (local_name x) early in
              omega arith)
          | inr late ↦ (
              let y = map_at local_name (take i ds) late.0 (local_name x) late.2 in
              let there = at_take ds i late.0 y.0 y.1 in
              let same = differ.differ (length prefix + late.0) (length prefix + i) (local_name x) (called late.0 y.0 there.0 ∙ ap Some y.2) (called i x at) in
              let before = there.1 in
              omega arith)
        ])

-- a free name that is put into a table comes after the others
pub listed_next : (names names' : Names) (prefix : List (List ℕ)) (xs : List ScopeName) (x : ScopeName) → names_in names ≡ prefix ++ local_names xs → IsStored names names' (local_name x) → env_of names (local_name x) ≡ None → names_in names' ≡ prefix ++ local_names (xs ++ x ∷ [])
listed_next names names' prefix xs x listed stored free = ap names_in stored.is ∙ names-insert_entry names (local_name x) stored.place free ∙ ap (λ (l : List (List ℕ)). l ++ local_name x ∷ []) listed ∙ append_assoc prefix (local_names xs) (local_name x ∷ []) ∙ ap (λ (l : List (List ℕ)). prefix ++ l) (sym (map-append local_name xs (x ∷ [])))

-- and the others mean what they did
pub stored_kept : (names names' : Names) (name : List ℕ) → IsStored names names' name → env_of names name ≡ None → (other : List ℕ) (i : ℕ) → env_of names other ≡ Some i → env_of names' other ≡ Some i
stored_kept names names' name stored free other i present =
    let now : env_of names' other ≡ cond (pointwise nat_eq other name) (Some stored.place) (env_of names other) = ap (λ (ns : Names). env_of ns other) stored.is ∙ lookup-insert_entry names name other stored.place in
    elim (name_cases other name) [
      | inl same ↦ absurd (
          let wrong : None ≡ Some i = sym free ∙ ap (env_of names) (sym same) ∙ present in
          let f : ⊥ = cc in
          f)
      | inr miss ↦ now ∙ ap (λ b. cond b (Some stored.place) (env_of names other)) miss ∙ present
    ]

types-more : (xs : List ScopeName) (d : Definition) → all_handles (flat_map name_types (xs ++ Defined d ∷ [])) ≡ all_handles (flat_map name_types xs) ++ all_handles (body_types d.body)
types-more xs d = ap all_handles (flat_map-append name_types xs (Defined d ∷ []) ∙ ap (λ l. flat_map name_types xs ++ l) (append-nil (body_types d.body))) ∙ all_handles-append (flat_map name_types xs) (body_types d.body)

-- what definitions require, one definition more
pub requires_next : (names names' : Names) (mid new : List TypeDef) (xs : List ScopeName) (d : Definition) (a b c : List Required) → IsStored names names' d.name.name.now → env_of names d.name.name.now ≡ None → IsExtended mid new → Requires (env_of names) mid (all_handles (flat_map name_types xs)) a b → Requires (env_of names) new (all_handles (body_types d.body)) b c → Requires (env_of names') new (all_handles (flat_map name_types (xs ++ Defined d ∷ []))) a c
requires_next names names' mid new xs d a b c stored free g p q =
    let keep = stored_kept names names' d.name.name.now stored free in
    let ids = all_handles (flat_map name_types xs) in
    let more = all_handles (body_types d.body) in
    let first : AreEnded (env_of names') new ids p.list = subst (λ (l : List TypeDef). AreEnded (env_of names') l ids p.list) (sym g.is) (ended_more (env_of names) (env_of names') mid g.more ids p.list keep p.ended) in
    let second : AreEnded (env_of names') new more q.list = subst (λ (l : List TypeDef). AreEnded (env_of names') l more q.list) (append-nil new) (ended_more (env_of names) (env_of names') new [] more q.list keep q.ended) in
    record {
      list = p.list ++ q.list;
      added = q.added ∙ ap (λ (l : List Required). l ++ q.list) p.added ∙ append_assoc a p.list q.list;
      ended = subst (λ (l : List Id). AreEnded (env_of names') new l (p.list ++ q.list)) (sym (types-more xs d)) (ended_append (env_of names') new ids more p.list q.list first second);
    }

-- no types are written in used names
types-used : (xs : List ScopeName) → flat_map name_types (used xs) ≡ []
types-used [] = refl
types-used (Used from attributes n ∷ xs) = types-used xs
types-used (Defined d ∷ xs) = types-used xs
types-used (ForeignName attributes id ∷ xs) = types-used xs

-- so those of the names in turn are those of the definitions
pub types-in_turn : (xs : List ScopeName) (order : List ℕ) → flat_map name_types (in_turn xs order) ≡ flat_map name_types (defined (in_order xs order))
types-in_turn xs order = flat_map-append name_types (used xs) (defined (in_order xs order)) ∙ ap (λ l. l ++ flat_map name_types (defined (in_order xs order))) (types-used xs)

pub take_after : {X : Type 0} (xs ys : List X) (n : ℕ) → take (length xs + n) (xs ++ ys) ≡ xs ++ take n ys
take_after [] ys n = ap (λ (k : ℕ). take k ys) (zero-add n)
take_after (x ∷ xs) ys n = ap (λ (k : ℕ). take k (x ∷ xs ++ ys)) (suc-add (length xs) n) ∙ ap (λ l. x ∷ l) (take_after xs ys n)

-- The first fault of the names of a scope: tests of names in handles in an arena that grows, and one step after another.
module _ (env : Env) (es : List TypeDef) (handle : Id → Option Fault) where
  handle_safe : IsSafe env es handle → (id : Id) → handle_fault missing_type_at env es id ≡ None → handle id ≡ None
  handle_safe safe id h = by (env id.name.now) refl h
    where
      by : (o : Option ℕ) → env id.name.now ≡ o → option_map_or (λ (place : ℕ). end_fault id (end_in es place)) o (Some (missing_type_at id)) ≡ None → handle id ≡ None
      by None free none = absurd (let f : ⊥ = cc in f)
      by (Some place) present none = safe id place present none

  types_safe : IsSafe env es handle → (ts : List Written) → first_in (written_fault missing_type_at env es) ts ≡ None → first_in (type_fault (λ id. None) handle) ts ≡ None
  types_safe safe [] h = refl
  types_safe safe (t ∷ ts) h =
      let all = or_none_both (written_fault missing_type_at env es t) (first_in (written_fault missing_type_at env es) ts) h in
      none_both (type_kept (name_fault missing_type_at env) (handle_fault missing_type_at env es) (λ id. None) handle (λ id none. refl) (handle_safe safe) t all.0) (types_safe safe ts all.1)

  -- a definition without a fault in the arena
  pub definition_safe : IsSafe env es handle → (d : Definition) → definition_fault env es d ≡ None → scope_definition_fault handle (Defined d) ≡ None
  definition_safe safe d h =
      let all = or_none_both (metadata_fault d.attributes.items) (option_or (list_fault d.body) (first_in (written_fault missing_type_at env es) (body_types d.body))) h in
      let own = or_none_both (list_fault d.body) (first_in (written_fault missing_type_at env es) (body_types d.body)) all.1 in
      none_both all.0 (none_both own.0 (types_safe safe (body_types d.body) own.1))

  -- these names mean something
  abbrev pub AreMeant : List Id → Type 0
  AreMeant ids = (id : Id) → Contains ids id → (place : ℕ) × (env id.name.now ≡ Some place)

  words_written : (t : Written) → all_words (body_of (Plain t)).parts ≡ words (shape_of t)
  words_written (written.Own span id) = refl
  words_written t = words-head (shape_of t)

  body_words : (b : TypeBody) → all_words (all_shapes (body_types b)) ≡ all_words (body_of b).parts
  body_words (Record span fields) = refl
  body_words (Variant span cases) = refl
  body_words (Plain t) = append-nil (words (shape_of t)) ∙ sym (words_written t)
  body_words _ = refl

  -- the fault of a definition, all names in which mean something
  pub definition_same : EndsIn env es handle → (d : Definition) → AreMeant (all_words (body_of d.body).parts) → definition_fault env es d ≡ scope_definition_fault handle (Defined d)
  definition_same ends d meant =
      let here : AreMeant (all_words (all_shapes (body_types d.body))) = subst AreMeant (sym (body_words d.body)) meant in
      let agree : Agree (name_fault missing_type_at env) (handle_fault missing_type_at env es) (λ id. None) handle (all_words (all_shapes (body_types d.body))) = record {
        words = λ id among. ap (λ (o : Option ℕ). if is_none o then Some (missing_type_at id) else None) (here id among).1;
        handles = λ id among. (let it = here id among in ap (λ (o : Option ℕ). option_map_or (λ (place : ℕ). end_fault id (end_in es place)) o (Some (missing_type_at id))) it.1 ∙ sym (ends id it.0 it.1));
      } in
      ap (λ (o : Option Fault). option_or (metadata_fault d.attributes.items) (option_or (list_fault d.body) o)) (types_same (name_fault missing_type_at env) (handle_fault missing_type_at env es) (λ id. None) handle (body_types d.body) agree)

-- in turn, all names in a definition mean something
pub meant_in : (old env : Env) (es : List TypeDef) (handle : Id → Option Fault) (ds : List ScopeName) (k : ℕ) (d : Definition) → AreInTurn old ds → slice_get ds k ≡ Some (Defined d) → ((xs : List ScopeName) → HasNames old xs → HasNames env xs) → HasNames env (take k ds) → AreMeant env es handle (all_words (body_of d.body).parts)
meant_in old env es handle ds k d turn at kept has id among = by (env id.name.now) refl
  where
    by : (o : Option ℕ) → env id.name.now ≡ o → (place : ℕ) × (env id.name.now ≡ Some place)
    by None free = absurd (none_unknown old env ds k d (missing_type_at id) turn at kept has (record { id = id; among = among; free = free; is = refl }))
    by (Some place) present = (place, present)

-- the faults of the names of a scope, in turn
abbrev twice : List ScopeName → Option Fault
twice xs = local_names_fault (map local_id (used xs ++ defined xs))

abbrev round : Outcome → Option Fault
round outcome = order_fault missing_type_at (cyclic_at 16 type_word) outcome

abbrev ordered : List ScopeName → Outcome → List ScopeName
ordered xs outcome = defined (in_order xs (order_of outcome))

-- there is no order
pub outcome_reported : (xs : List ScopeName) (outcome : Outcome) (e : ParseError) → IsOutcome (rows_of xs) outcome → IsAllocationFailure e ⊎ IsTypeOrderFault xs (Some (fault_of e)) → Reports (round outcome) e
outcome_reported xs outcome e is h = elim h [
  | inl memory ↦ inl memory
  | inr wrong ↦ inr (elim wrong [
    | inl lost ↦ ap round (outcome_one (rows_of xs) outcome (AtMissing lost.2.id) is (lost.0, lost.1, lost.2.first)) ∙ ap Some (sym lost.3)
    | inr cyclic ↦ ap round (outcome_one (rows_of xs) outcome (AtCycle cyclic.2.id) is (cyclic.2.complete, cyclic.0, cyclic.1, cyclic.2.first)) ∙ ap Some (sym cyclic.3)
  ])
]

-- there is one, and then it is that of the definitions
module _ (xs ds : List ScopeName) (order : List ℕ) (none : twice xs ≡ None) (least : IsOrder (rows_of xs) order) (are : ds ≡ defined (in_order xs order)) (outcome : Outcome) (is : IsOutcome (rows_of xs) outcome) where
  one : outcome ≡ InOrder order
  one = outcome_one (rows_of xs) outcome (InOrder order) is least

  them : ds ≡ ordered xs outcome
  them = are ∙ ap (ordered xs) (sym one)

  of_definitions : (handle : Id → Option Fault) → first_in (scope_definition_fault handle) ds ≡ ordered_fault xs outcome handle
  of_definitions handle = sym (
      ap (λ (o : Option Fault). option_or o (option_or (round outcome) (first_in (scope_definition_fault handle) (ordered xs outcome)))) none
      ∙ ap (λ (o : Outcome). option_or (round o) (first_in (scope_definition_fault handle) (ordered xs outcome))) one
      ∙ ap (first_in (scope_definition_fault handle)) (sym them))

  pub definitions_found : {T : Type 0} (r : Result T ParseError) (a : Scope) (old : List TypeDef) (cs : List ResolvedScope) (handle : Id → Option Fault) → AreDistinct xs → ((p : List ℕ) → outcome ≡ InOrder p → AreDistinct xs → EndsAlong cs a.owner old a.names (defined (in_order xs p)) handle) → FindsDefinitions a old ds r → Finds (ordered_fault xs outcome handle) r
  definitions_found r a old cs handle distinct along found = finds_same r (of_definitions handle) (found cs handle (subst (λ (ys : List ScopeName). EndsAlong cs a.owner old a.names ys handle) (sym are) (along order one distinct)))

-- a test that is right along all names of a scope is right along its definitions, after the used ones
pub after_uses : (cs : List ResolvedScope) (o : TypeOwner) (a : Scope) (old mid : List TypeDef) (xs : List ScopeName) (outcome : Outcome) (handle : Id → Option Fault) → a.owner ≡ o → ((s : Address) → Defines old mid cs o s [] a.names (used xs)) → EndsInTurn cs o old xs outcome handle → (order : List ℕ) → outcome ≡ InOrder order → AreDistinct xs → EndsAlong cs a.owner mid a.names (defined (in_order xs order)) handle
after_uses cs o a old mid xs outcome handle owner uses along order is distinct count new more now defines =
    let ds = defined (in_order xs order) in
    along order is distinct (length (used xs) + count) new more now (λ s.
    subst (λ (ys : List ScopeName). Defines old new cs o s [] now ys) (sym (take_after (used xs) ds count)) (defines_more old mid new cs o s [] a.names now (used xs) (take count ds) (uses s) (subst (λ (m : TypeOwner). Defines mid new cs m s a.names now (take count ds)) owner (defines s))))

-- calls that return an error, or a value
abbrev pub failed : ParseError → Result ℕ ParseError
failed e = Err e

abbrev pub done : {T : Type 0} → T → Result T ParseError
done x = Ok x
