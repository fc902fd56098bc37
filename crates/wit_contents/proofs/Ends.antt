-- Where names in handles end in an arena, they end by files in so many steps: also once some names of the next interface or world, or of what is written in it, were added.
use Rattle.std.proofs.Common.{◌≡◌, ℕ, zero, suc, ◌<◌, List, [], ◌∷◌, ◌++◌, take, Option, Some, None, inl, inr, refl, sym, ap, ◌∙◌, arith, true, false, length, map, subst, ◌+◌}
use Rattle.wit_contents.proofs.Names.{Address, AddsForeign, AddsScope, AddsSides, AliasForm, AreDistinct, AreItems, AreNames, AreOfSort, AreOwned, AreUsableUses, AreWorldsDone, AtForeign, AtResource, Decls, Def, Defines, DoneScope, Elsewhere, EndIs, EndsAt, EndsInTurn, EntryEnd, Env, Extends, Form, Function, Id, Interface, InterfacesDone, IsDeclared, IsOrder, IsOther, IsOutcome, IsResource, IsUnknown, Names, Occurrence, Outcome, PackageFile, Required, ResolvedScope, ResourceForm, ScopeName, SideItem, Turned, TypeDef, TypeOwner, UnknownForm, Word, World, address, all_items, all_name_occurrences, all_occurrences, at_part, at_prefix, at_seam, at_take, cases_lt, collects_from, decls, differ_at, differ_by, end_fault as walk_fault, end_source-more, entry_end, env_of, flat_map, foreign_interfaces, found_end, handle_fault, in_turn, in_turn_among, in_turn_distinct, inline_items, inline_items_differ, keys, kind_end, kind_of, local_name, local_names, map-append, map_at, name_seen_in, names_in, option_cases, option_map, part_end, prefix_scopes, resolved_scope_of, resolved_scopes, rows_of, scope, scope_names, scopes_of, shape_end, slice_get, slice_get-map, visited, done_declared, IsOccurrence}
use Rattle.wit_walk.proofs.Common.{End}
use Rattle.wit_arena.proofs.Common.{Item}
use Rattle.wit_types.specs.declared.types.«Type».{«Type» as Ty}
use Rattle.wit_entries.specs.EntryFaults.{end_fault, end_in, IsExtended}
use Rattle.wit_externs.specs.Clash.{EndsIn}
use Rattle.wit_arena.proofs.DoneNames.{are_known, none_named}
use Rattle.wit_arena.proofs.DoneWorlds.{interface_among, interface_fresh, interface_owned, interface_scoped}
use Rattle.wit_arena.proofs.Resolving.{IsDone, IsTurn, turn_of}
use Rattle.wit_arena.proofs.ScopesInTurn.{in_turn_is}
use Rattle.wit_arena.proofs.Sided.{IsFreshInside, AreSided}
use Rattle.wit_arena.proofs.WorldSides.{fresh_inside, names_done, sides_done, world_fresh, world_owned, world_scoped}
use Rattle.wit_types.specs.declared.types.«Type».TheVariants as type
use Rattle.wit_types.specs.declared.types.TypeOwner.TheVariants as owner
use Rattle.wit_arena.proofs.WorldSides as done
use Rattle.wit_arena.proofs.Ordered.{all_turns, item_turn}

-- each part has an end, and so has what is made of them
module _ (ends : ℕ → Option EntryEnd) (all : (j : ℕ) → (e : EntryEnd) × (ends j ≡ Some e)) where
  parts_end : (parts : List Ty) → (e : EntryEnd) × (part_end ends parts ≡ Some e)
  parts_end [] = (IsOther, refl)
  parts_end (type.Id j ∷ parts) = all j
  parts_end (t ∷ parts) = (IsOther, refl)

  kind_ends : (place : ℕ) (form : Form) (parts : List Ty) → (e : EntryEnd) × (kind_end ends place form parts ≡ Some e)
  kind_ends place AliasForm parts = parts_end parts
  kind_ends place ResourceForm parts = (IsResource, refl)
  kind_ends place UnknownForm parts = (IsUnknown place, refl)
  kind_ends place form parts = (IsOther, refl)

  found_ends : (place : ℕ) (o : Option TypeDef) → (e : EntryEnd) × (found_end ends place o ≡ Some e)
  found_ends place None = (IsOther, refl)
  found_ends place (Some x) = kind_ends place (kind_of x.kind).0 (kind_of x.kind).1

-- nothing is at a place beyond
beyond : (es : List TypeDef) (i j : ℕ) → (j < i → ⊥) → slice_get (take i es) j ≡ None
beyond es i j far = option_cases (slice_get (take i es) j) (slice_get (take i es) j ≡ None) (λ x at. absurd (far (at_take es i j x at).1)) (λ none. none)

-- each place has an end in one step more than places are before it
place_ends : (n : ℕ) (es : List TypeDef) (i : ℕ) → i < n → (e : EntryEnd) × (entry_end (suc n) es i ≡ Some e)
place_ends zero es i lt = absurd (omega (arith, lt))
place_ends (suc n) es i lt = found_ends (entry_end (suc n) (take i es)) (λ j. elim (cases_lt j n) [
  | inl before ↦ place_ends n (take i es) j before
  | inr ge ↦ (IsOther, ap (found_end (entry_end n (take j (take i es))) j) (beyond es i j (λ near. (omega (arith, lt, ge, near)))))
]) i (slice_get es i)

pub end_there : (es : List TypeDef) (i : ℕ) → (e : EntryEnd) × (end_in es i ≡ Some e)
end_there es i = place_ends (suc i) es i (omega arith)

-- names end by files in so many steps where they end at all
abbrev pub IsEnough : List PackageFile → ℕ → Address → Type 0
IsEnough files steps s = (id : Id) (end : End) → EndsAt files s id end → shape_end files steps s (Word id) ≡ Some end

module _ (files : List PackageFile) (decls : Decls) (ms : List Occurrence) (es more : List TypeDef) (m : IsOccurrence decls ms es) (scopes : (j : ℕ) (t : Address) (name : List ℕ) → slice_get (keys ms) j ≡ Some (Def t name) → IsDeclared files decls t) (s : Address) (env : Env) (names : AreNames (keys ms) s env) (steps : ℕ) (enough : IsEnough files steps s) where
  said : (id : Id) (e : EntryEnd) → EndIs files (keys ms) s id e → handle_fault files steps s id ≡ end_fault id (Some e)
  said id IsResource h = ap (walk_fault id) (enough id AtResource h)
  said id (IsUnknown place) h = ap (walk_fault id) (enough id (AtForeign h.0 h.1) h.3)
  said id IsOther h = ap (walk_fault id) (enough id Elsewhere h)

  -- so the walk's test of a name in a handle is right of the arena, also once it has grown
  pub walk_ends : EndsIn env (es ++ more) (handle_fault files steps s)
  walk_ends id place present =
      let e = end_there (es ++ more) place in
      said id e.0 (end_source-more files decls ms es more m scopes (suc (suc place)) place s id e.0 (names.present id.name.now place present) e.1) ∙ ap (end_fault id) (sym e.1)

-- these scopes are among those that are being resolved
abbrev AreAmong : List ResolvedScope → List DoneScope → Type 0
AreAmong known cs = (t : ℕ) (c : ResolvedScope) → slice_get known t ≡ Some c → (j : ℕ) × (slice_get (map resolved_scope_of cs) j ≡ Some c)

-- An item whose scope comes next, while others are being resolved
module _ (files : List PackageFile) (declares : Decls) (written : List Occurrence) (cs : List DoneScope) (es : List TypeDef) (d : IsDone files declares written cs es) (w : Item) (o : TypeOwner) (fresh : (t : ℕ) (c : DoneScope) → slice_get cs t ≡ Some c → c.address ≡ address w → ⊥) (own : declares (address w) ≡ (scope files (address w), o)) (names_are : scope files (address w) ≡ scope_names w) where
  abbrev s : Address
  s = address w

  unmet : (j : ℕ) (name : List ℕ) → slice_get (keys d.seen) j ≡ Some (Def s name) → ⊥
  unmet j name at = let it = d.before j s name at in fresh it.place it.resolved_scope it.at it.scope

  module _ (resolved : List ResolvedScope) (among : AreAmong resolved cs) (order : List ℕ) (least : IsOrder (rows_of (scope_names w)) order) (distinct : AreDistinct (scope_names w)) (count : ℕ) (mid : List TypeDef) (names : Names) (defines : (s : Address) → Defines es mid resolved o s [] names (take count (in_turn (scope_names w) order))) where
    abbrev turn : List ScopeName
    turn = in_turn (scope_names w) order

    abbrev some : List ScopeName
    some = take count turn

    -- those of its names that were resolved are declared in it
    declared : AreOwned declares o s some
    declared i x at =
        let p = in_turn_among (scope_names w) order least i x (at_take turn count i x at).0 in
        (p.0, ap (λ (d : List ScopeName × TypeOwner). slice_get d.0 p.0) own ∙ ap (λ (l : List ScopeName). slice_get l p.0) names_are ∙ p.1, ap (λ (d : List ScopeName × TypeOwner). d.1) own)

    apart : AreDistinct some
    apart = differ_by local_name some (λ i j x y at_x at_y same. differ_at local_name turn (in_turn_distinct (scope_names w) order least distinct) i j x y (at_take turn count i x at_x).0 (at_take turn count j y at_y).0 same)

    defined : Extends declares d.seen (all_name_occurrences s some) mid (λ ks. AreNames ks s (env_of names) × (names_in names ≡ local_names some))
    defined =
        let whole = subst (λ (l : List ScopeName). IsTurn l turn) (sym names_are) (in_turn_is (scope_names w) order least distinct) in
        (defines s).from declares d.seen declared apart (record { new = λ i x at was. unmet was.0 (local_name x) was.1 }) (are_known files declares written cs es d s o turn fresh own whole resolved among) d.occurrence (none_named files declares written cs es d s o turn fresh own whole)

    -- the scope of what occurred is declared by files
    seen_declared : (j : ℕ) (t : Address) (name : List ℕ) → slice_get (keys defined.now) j ≡ Some (Def t name) → IsDeclared files declares t
    seen_declared j t name at = elim (collects_from (all_name_occurrences s some) d.seen defined.now defined.collects j (Def t name) at) [
      | inl was ↦ done_declared files declares written cs es t name d (d.before was.0 t name was.1)
      | inr new ↦ (
          let same = (name_seen_in s some t name new).0 in
          subst (λ (z : Address). IsDeclared files declares z) (sym same) (record { distinct = subst AreDistinct (sym names_are) distinct; whose = o; own = own }))
    ]

  -- so the walk's test is right of the arena, as far as its names were added
  pub reached_ends : (resolved : List ResolvedScope) → AreAmong resolved cs → (outcome : Outcome) → IsOutcome (rows_of (scope_names w)) outcome → (steps : ℕ) → IsEnough files steps s → EndsInTurn resolved o es (scope_names w) outcome (handle_fault files steps s)
  reached_ends resolved among outcome right steps enough order is distinct count mid more names defines =
      let least : IsOrder (rows_of (scope_names w)) order = subst (IsOutcome (rows_of (scope_names w))) is right in
      let d = defined resolved among order least distinct count mid names defines in
      walk_ends files declares d.now mid more d.occurrence (seen_declared resolved among order least distinct count mid names defines) s (env_of names) d.holds.0 steps enough

-- a scope whose names are done, also once the arena has grown
pub part_ends : (files : List PackageFile) (declares : Decls) (written : List Occurrence) (cs : List DoneScope) (es more : List TypeDef) → IsDone files declares written cs es → (t : ℕ) (c : DoneScope) → slice_get cs t ≡ Some c → (steps : ℕ) → IsEnough files steps c.address → EndsIn (env_of c.types) (es ++ more) (handle_fault files steps c.address)
part_ends files declares written cs es more d t c at steps enough = walk_ends files declares d.seen es more d.occurrence (λ j s name there. done_declared files declares written cs es s name d (d.before j s name there)) c.address (env_of c.types) (d.are_present t c at) steps enough

among_more : (known : List ResolvedScope) (cs more : List DoneScope) → AreAmong known cs → AreAmong known (cs ++ more)
among_more known cs more among t c at =
    let it = among t c at in
    (it.0, ap (λ (l : List ResolvedScope). slice_get l it.0) (map-append resolved_scope_of cs more) ∙ at_prefix (map resolved_scope_of cs) (map resolved_scope_of more) it.0 c it.1)

module _ (files : List PackageFile) (is ws : List Item) (interfaces : AreOfSort false is) (worlds : AreOfSort true ws) (is_items : AreItems files is) (ws_items : AreItems files ws) (uses : AreUsableUses files (all_items files)) (es : List TypeDef) (prefix : List Interface) (wprefix : List World) (foreign : AddsForeign files es prefix wprefix) where
  abbrev fore : List Address
  fore = map visited (foreign_interfaces files)

  -- an interface that comes next, after those of other packages and some of this one
  module _ (us : List Item) (old : List TypeDef) (xs : List Interface) (rs : List Required) (w : Item) (there : slice_get is (length us) ≡ Some w) (d : InterfacesDone files is ws prefix us old xs rs) where
    pub interface_ends : (outcome : Outcome) → IsOutcome (rows_of (scope_names w)) outcome → (steps : ℕ) → IsEnough files steps (address w) → EndsInTurn (resolved_scopes fore (prefix ++ xs)) (owner.Interface (length (prefix ++ xs))) old (scope_names w) outcome (handle_fault files steps (address w))
    interface_ends = reached_ends files (decls files is ws) (all_occurrences files (map (item_turn files) us)) (prefix_scopes files prefix ++ d.scopes) old d.done w (owner.Interface (length (prefix ++ xs))) (interface_fresh files is ws interfaces worlds is_items ws_items uses es prefix wprefix foreign us old xs rs w there d) (interface_owned files is ws interfaces worlds is_items ws_items uses es prefix wprefix foreign us old xs rs w there d) (interface_scoped files is ws interfaces worlds is_items ws_items uses es prefix wprefix foreign us old xs rs w there d) (resolved_scopes fore (prefix ++ xs)) (interface_among files is ws interfaces worlds is_items ws_items uses es prefix wprefix foreign us old xs rs w there d)

  -- a world that comes next, after all interfaces and some worlds
  module _ (middle : List TypeDef) (xs : List Interface) (irs : List Required) (d : InterfacesDone files is ws prefix is middle xs irs) (us : List Item) (old : List TypeDef) (arena : List World) (inline : List Interface) (qs : List Required) (w : Item) (there : slice_get ws (length us) ≡ Some w) (e : AreWorldsDone files is ws wprefix (prefix_scopes files prefix ++ d.scopes) us old arena inline qs) where
    abbrev before : List DoneScope
    before = (prefix_scopes files prefix ++ d.scopes) ++ flat_map scopes_of e.scopes

    abbrev pub resolved : List ResolvedScope
    resolved = resolved_scopes fore (prefix ++ xs)

    abbrev written : List Occurrence
    written = all_occurrences files (all_turns files is us)

    known_before : AreAmong resolved before
    known_before = done.known_before files is ws interfaces worlds is_items ws_items uses es prefix wprefix foreign middle xs irs d us old arena inline qs e w there

    -- of the world, once some of its names were added
    pub world_ends : (outcome : Outcome) → IsOutcome (rows_of (scope_names w)) outcome → (steps : ℕ) → IsEnough files steps (address w) → EndsInTurn resolved (owner.World (length arena)) old (scope_names w) outcome (handle_fault files steps (address w))
    world_ends = reached_ends files (decls files is ws) written before old e.done w (owner.World (length arena)) (world_fresh files is ws interfaces worlds is_items ws_items uses es prefix wprefix foreign middle xs irs d us old arena inline qs e w there) (world_owned files is ws interfaces worlds is_items ws_items uses es prefix wprefix foreign middle xs irs d us old arena inline qs e w there) (world_scoped files is ws interfaces worlds is_items ws_items uses es prefix wprefix foreign middle xs irs d us old arena inline qs e w there) resolved known_before

    -- once all of them were
    module _ (types : Names) (named : List TypeDef) (adds : AddsScope old named resolved (owner.World (length arena)) (scope_names w) types) where
      abbrev own_scope : DoneScope
      own_scope = done.c files is ws interfaces worlds is_items ws_items uses es prefix wprefix foreign middle xs irs d us old arena inline qs e w there named types adds []

      pub named_ends : (new : List TypeDef) → IsExtended named new → (steps : ℕ) → IsEnough files steps (address w) → EndsIn (env_of types) new (handle_fault files steps (address w))
      named_ends new g steps enough = subst (λ (l : List TypeDef). EndsIn (env_of types) l (handle_fault files steps (address w))) (sym g.is) (part_ends files (decls files is ws) _ (before ++ own_scope ∷ []) named g.more (names_done files is ws interfaces worlds is_items ws_items uses es prefix wprefix foreign middle xs irs d us old arena inline qs e w there named types adds []) (length before) own_scope (at_seam before own_scope) steps enough)

      -- and of an interface that is written in it, after what comes first on its sides
      module _ (xs_done : List SideItem) (inside_done : List Item) (count : ℕ) (first : inside_done ≡ take count (inline_items w)) (inner : Item) (next : slice_get (inline_items w) count ≡ Some inner) (mid : List TypeDef) (now : List Interface) (made : List Function) (rs : List Required) (sides : AddsSides resolved (length (prefix ++ xs)) (address w) types named mid inline now made rs xs_done inside_done) (covered : length now ≡ length inline + count) where
        among_first : (k : ℕ) (i : Item) → slice_get inside_done k ≡ Some i → slice_get (inline_items w) k ≡ Some i
        among_first k i at = (at_take (inline_items w) count k i (ap (λ (l : List Item). slice_get l k) (sym first) ∙ at)).0

        sided : AreSided files (decls files is ws) (written ++ all_name_occurrences (address w) own_scope.names) (before ++ own_scope ∷ []) (keys (names_done files is ws interfaces worlds is_items ws_items uses es prefix wprefix foreign middle xs irs d us old arena inline qs e w there named types adds []).seen) (address w) mid inline now made rs xs_done inside_done
        sided = sides_done files is ws interfaces worlds is_items ws_items uses es prefix wprefix foreign middle xs irs d us old arena inline qs e w there named types adds [] mid now made rs xs_done inside_done among_first sides

        can_be_next : IsFreshInside files (decls files is ws) (before ++ own_scope ∷ []) ((length (prefix ++ xs) + length inline) + count) inner
        can_be_next = fresh_inside files is ws interfaces worlds is_items ws_items uses es prefix wprefix foreign middle xs irs d us old arena inline qs e w there named types adds [] count inner next

        -- what was written before it in this world is another one
        apart_inside : (t : ℕ) (b : DoneScope) → slice_get sided.scopes t ≡ Some b → b.address ≡ address inner → ⊥
        apart_inside t b at same =
            let o = map_at (item_turn files) sided.items t (turn_of b) (ap (λ (l : List Turned). slice_get l t) (sym sided.turns) ∙ slice_get-map turn_of sided.scopes t ∙ ap (option_map turn_of) at) in
            let listed : slice_get inside_done t ≡ Some o.0 = ap (λ (l : List Item). slice_get l t) (sym sided.first) ∙ at_prefix sided.items sided.left t o.0 o.1 in
            let early = at_take (inline_items w) count t o.0 (ap (λ (l : List Item). slice_get l t) (sym first) ∙ listed) in
            let here : address o.0 ≡ address inner = ap (λ (x : Turned). x.address) o.2 ∙ same in
            let place = differ_at address (inline_items w) (inline_items_differ w) t count o.0 inner early.0 next here in
            let less = early.1 in
            omega (arith, place, less)

        abbrev scopes : List DoneScope
        scopes = (before ++ own_scope ∷ []) ++ sided.scopes

        spot : (length (prefix ++ xs) + length inline) + count ≡ length (prefix ++ xs) + length now
        spot = omega (arith, covered)

        fresh : IsFreshInside files (decls files is ws) scopes (length (prefix ++ xs) + length now) inner
        fresh = record {
          fresh = λ t b at same. elim (at_part (before ++ own_scope ∷ []) sided.scopes t b at) [
            | inl g ↦ can_be_next.fresh g.0 b g.1 same
            | inr g ↦ apart_inside g.0 b g.1 same
          ];
          has = can_be_next.has;
          own = can_be_next.own ∙ ap (λ (n : ℕ). (scope files (address inner), (owner.Interface n))) spot;
        }

        known_inside : AreAmong resolved scopes
        known_inside = among_more resolved (before ++ own_scope ∷ []) sided.scopes (among_more resolved before (own_scope ∷ []) known_before)

        pub inline_ends : (outcome : Outcome) → IsOutcome (rows_of (scope_names inner)) outcome → (steps : ℕ) → IsEnough files steps (address inner) → EndsInTurn resolved (owner.Interface (length (prefix ++ xs) + length now)) mid (scope_names inner) outcome (handle_fault files steps (address inner))
        inline_ends = reached_ends files (decls files is ws) _ scopes mid sided.done inner (owner.Interface (length (prefix ++ xs) + length now)) fresh.fresh fresh.own fresh.has resolved known_inside
