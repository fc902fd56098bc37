-- Written types by their parts: the shapes of these, and the names in them.
use Rattle.std.proofs.Common.{◌≡◌, List, [], ◌∷◌, ◌++◌, refl, sym, ap, ◌∙◌, append_assoc, Vec, ℕ, suc, ◌+◌, length, map, Some, inl, inr, subst, arith, length-append, is_some}
use Rattle.wit_arena.proofs.Names.{own_interface, Address, Both', Err', Global, Id, Neither, None', Ok', ResultTypes, Row_of-Type, Shape, Shapes, Some', Span, all_handles, all_shapes, all_words, append-nil, end_of-Type, handles, head, more_of-Type, ok_type, part_types, result_types, row_handles, row_shapes, row_types, shape_of, tuple_types, words, «Type» as Written, AddsFunctions, AddsSides, AllDiffer, AreEnded, AreRequired, Decls, Extern, Function, Interface, InterfaceItem, Item, Key, Occurrence, PackageFile, Required, ResolvedScope, ResultForm, SideFunction, SideInline, SideItem, SideLink, SourceFunction, Turned, TypeDef, address, after_one, all_function_occurrences, at_either, at_prefix, differ_head, differ_tail, env_of, flat_map, functions, item_function, item_inline, keys, map-append, scope, scope_names, slice_get, turn_handles, turn_occurrences, written_types, AreFunctions, Extends, GivesPlaces, IsOrder, function_in, rows_of}
use Rattle.wit_syntax.proofs.Common.{More, Of, Prim, err_type}
use Rattle.wit_syntax.specs.Shape.{End}
use Rattle.wit_arena.proofs.Ordered.{in_its_order, item_order, item_turn}
use Rattle.wit_arena.proofs.Members.{turns_on_sides}
use Rattle.wit_arena.proofs.DoneWorlds.{IsNextDone, next_scope}
use Rattle.wit_arena.proofs.DoneNames.{functions_done, required_there}
use Rattle.wit_arena.proofs.Required.{in_scope, required_none, required_append, required_extended}
use Rattle.wit_arena.proofs.Resolving.{DoneScope, turn_of, resolved_scope_of, IsDone, done_as}
use Rattle.wit_arena.proofs.Turns.{function_turn, occurrences}
use Rattle.wit_arena.proofs.OneKind.{Extended, extended_trans}
use Rattle.wit_arena.proofs.Occurrence.{collects_extended}
use Rattle.wit_arena.proofs.Placing.{gives_fewer}
use Rattle.wit_type_tree.specs.declared.types.«Type».TheVariants as written
use Rattle.wit_types.specs.declared.types.TypeOwner.TheVariants as owner

pub row_shapes-all : {m : _} (ts : Row_of-Type m) → row_shapes ts ≡ all_shapes (row_types ts)
row_shapes-all end_of-Type = refl
row_shapes-all (more_of-Type t rest) = ap (More (shape_of t)) (row_shapes-all rest)

pub result_shape : (span : Span) (of : ResultTypes) → shape_of (written.Result span of) ≡ Of span (ResultForm (is_some (ok_type of)) (is_some (err_type of))) (all_shapes (result_types of))
result_shape span Neither = refl
result_shape span _ = refl

-- the parts of a shape
abbrev pub inner : Shape → Shapes
inner (Of span form parts) = parts
inner x = End

-- the parts of a type's shape are types: what a handle lends is a name alone
abbrev pub IsOfTypes : Written → Type 0
IsOfTypes (written.Borrow span id) = ⊥
IsOfTypes t = Unit {0}

-- the parts of a type's shape are the shapes of its parts
pub inner-parts : (t : Written) → IsOfTypes t → inner (shape_of t) ≡ all_shapes (part_types t)
inner-parts (written.Result span of) h = ap inner (result_shape span of)
inner-parts (written.Tuple' span shape ts) h = row_shapes-all ts
inner-parts (written.Borrow span id) h = absurd h
inner-parts (written.Future' span None') h = refl
inner-parts (written.Stream' span None') h = refl
inner-parts _ h = refl

-- of a tuple, too
pub tuple_inner : (span : Span) (v : Vec Written Global) → inner (shape_of (written.Tuple span v)) ≡ all_shapes v.items
tuple_inner span v = inner-parts (written.Tuple span v) tt ∙ ap all_shapes (tuple_types span v)

-- words of types after others
pub all_words-append : (ts us : List Written) → all_words (all_shapes (ts ++ us)) ≡ all_words (all_shapes ts) ++ all_words (all_shapes us)
all_words-append [] us = refl
all_words-append (t ∷ ts) us = ap (λ ids. words (shape_of t) ++ ids) (all_words-append ts us) ∙ sym (append_assoc (words (shape_of t)) (all_words (all_shapes ts)) (all_words (all_shapes us)))

-- a definition that is one type has the names of the type
pub words-head : (x : Shape) → all_words (head x).parts ≡ words x
words-head (Prim p) = refl
words-head _ = refl

-- the names in handles, of types and of further ones
pub all_handles-append : (ts us : List Written) → all_handles (ts ++ us) ≡ all_handles ts ++ all_handles us
all_handles-append [] us = refl
all_handles-append (t ∷ ts) us = ap (λ (l : List Id). handles t ++ l) (all_handles-append ts us) ∙ sym (append_assoc (handles t) (all_handles ts) (all_handles us))

row_handles-all : {m : _} (ts : Row_of-Type m) → row_handles ts ≡ all_handles (row_types ts)
row_handles-all end_of-Type = refl
row_handles-all (more_of-Type t rest) = ap (λ (l : List Id). handles t ++ l) (row_handles-all rest)

-- a type is no handle itself
abbrev pub IsNoHandle : Written → Type 0
IsNoHandle (written.Own span id) = ⊥
IsNoHandle (written.Borrow span id) = ⊥
IsNoHandle t = Unit {0}

-- the handles in a type that is none are those in its parts
pub handles-parts : (t : Written) → IsNoHandle t → handles t ≡ all_handles (part_types t)
handles-parts (written.Own span id) h = absurd h
handles-parts (written.Borrow span id) h = absurd h
handles-parts (written.List' span p t) h = sym (append-nil (handles t))
handles-parts (written.FixedLengthList' span p t size) h = sym (append-nil (handles t))
handles-parts (written.Map' span p key q value) h = ap (λ (l : List Id). handles key ++ l) (sym (append-nil (handles value)))
handles-parts (written.Option' span p t) h = sym (append-nil (handles t))
handles-parts (written.Result span (Ok' p t)) h = sym (append-nil (handles t))
handles-parts (written.Result span (Err' p t)) h = sym (append-nil (handles t))
handles-parts (written.Result span (Both' p t q u)) h = ap (λ (l : List Id). handles t ++ l) (sym (append-nil (handles u)))
handles-parts (written.Tuple' span shape ts) h = row_handles-all ts
handles-parts (written.Future' span (Some' p t)) h = sym (append-nil (handles t))
handles-parts (written.Stream' span (Some' p t)) h = sym (append-nil (handles t))
handles-parts _ h = refl

-- What is on the sides of a world is done, one after another: its functions, and the interfaces that are written there.
-- an interface that is written in a world can come next, at a place
pub record IsFreshInside (files : List PackageFile) (decls : Decls) (cs : List DoneScope) (place : ℕ) (i : Item) : Type 0 where
  pub fresh : (t : ℕ) (c : DoneScope) → slice_get cs t ≡ Some c → c.address ≡ address i → ⊥
  pub has : scope files (address i) ≡ scope_names i
  pub own : decls (address i) ≡ (scope files (address i), (owner.Interface place))

-- What is on the sides of a world is done: the interfaces that are written there, which are the first of these items, and its functions; over
-- the places of what occurred these are they, and this is what their handles require.
pub record AreSided (files : List PackageFile) (decls : Decls) (written : List Occurrence) (cs : List DoneScope) (before : List Key) (s : Address) (new : List TypeDef) (is is' : List Interface) (fs : List Function) (rs : List Required) (xs : List SideItem) (inside : List Item) : Type 0 where
  pub scopes : List DoneScope
  pub added : List Interface
  pub last : is' ≡ is ++ added
  pub items : List Item
  pub left : List Item
  pub first : items ++ left ≡ inside
  pub consumed : length items ≡ length (flat_map item_inline xs)
  pub turns : map turn_of scopes ≡ map (item_turn files) items
  pub least : (t : ℕ) (u : Item) → slice_get items t ≡ Some u → IsOrder (rows_of (scope_names u)) (item_order files u)
  pub done : IsDone files decls (written ++ occurrences (turns_on_sides (item_order files) s xs inside)) (cs ++ scopes) new
  pub extended : Extended before (keys done.seen)
  pub made : (id : Key → ℕ) → GivesPlaces id (keys done.seen) → added ≡ map (own_interface id (item_order files)) items
  pub functions : (id : Key → ℕ) → GivesPlaces id (keys done.seen) → fs ≡ map (function_in id s) (flat_map item_function xs)
  pub required : AreRequired files (keys done.seen) (flat_map turn_handles (turns_on_sides (item_order files) s xs inside)) rs

-- nothing more is there
sided_none : (files : List PackageFile) (decls : Decls) (written : List Occurrence) (cs : List DoneScope) (s : Address) (es new : List TypeDef) (is is' : List Interface) (fs : List Function) (rs : List Required) (inside : List Item) (d : IsDone files decls written cs es) → (new ≡ es) × (is' ≡ is) × (fs ≡ []) × (rs ≡ []) → AreSided files decls written cs (keys d.seen) s new is is' fs rs [] inside
sided_none files decls written cs s es new is is' fs rs inside d a = rw (a.0, a.1, a.2, a.3) (record {
  scopes = [];
  added = [];
  last = sym (append-nil is);
  items = [];
  left = inside;
  first = refl;
  consumed = refl;
  turns = refl;
  least = λ t o at. absurd (let f : ⊥ = cc in f);
  done = done_as (sym (append-nil written)) (sym (append-nil cs)) d;
  extended = collects_extended [] d.seen d.seen refl;
  made = λ id gives. refl;
  functions = λ id gives. refl;
  required = required_none files (keys d.seen);
})

-- a function, and what comes after it
sided_function : (files : List PackageFile) (decls : Decls) (written : List Occurrence) (cs : List DoneScope) (old mid new : List TypeDef) (is is' : List Interface) (fn : SourceFunction) (f : Function) (fs : List Function) (own rest : List Required) (xs : List SideItem) (inside : List Item) (d : IsDone files decls written cs old) (t : ℕ) (c : DoneScope) → slice_get cs t ≡ Some c → (adds : AddsFunctions old mid c.address c.types (fn ∷ []) (f ∷ [])) → AreEnded (env_of c.types) mid (all_handles (written_types fn)) own → (x : Extends decls d.seen (all_function_occurrences c.address (fn ∷ [])) mid (λ ks. AreFunctions ks c.address (fn ∷ []) (f ∷ []))) → AreSided files decls (written ++ all_function_occurrences c.address (fn ∷ [])) cs (keys x.now) c.address new is is' fs rest xs inside → AreSided files decls written cs (keys d.seen) c.address new is is' (f ∷ fs) (own ++ rest) (SideFunction fn ∷ xs) inside
sided_function files decls written cs old mid new is is' fn f fs own rest xs inside d t c at adds ended x r =
    let here = all_function_occurrences c.address (fn ∷ []) in
    let sides = turns_on_sides (item_order files) c.address xs inside in
    let step = functions_done files decls written cs old mid d c.address (fn ∷ []) x in
    let alone : map (in_scope c.address) (all_handles (written_types fn)) ≡ turn_handles (function_turn c.address fn) = ap (λ (l : List Written). map (in_scope c.address) (all_handles l)) (sym (append-nil (written_types fn))) in
    let handled = required_there files decls (written ++ here) cs mid step t c at (all_handles (written_types fn)) own ended in
    let now = required_extended files r.extended (turn_handles (function_turn c.address fn)) own (subst (λ (hs : List (Address × Id)). AreRequired files (keys x.now) hs own) alone handled) in
    record {
      scopes = r.scopes;
      added = r.added;
      last = r.last;
      items = r.items;
      left = r.left;
      first = r.first;
      consumed = r.consumed;
      turns = r.turns;
      least = r.least;
      done = done_as (append_assoc written here (occurrences sides)) refl r.done;
      extended = extended_trans (collects_extended here d.seen x.now x.collects) r.extended;
      made = r.made;
      functions = λ id gives. ap (λ (l : List Function). l ++ fs) (x.holds id (gives_fewer r.extended id gives)) ∙ ap (λ (l : List Function). function_in id c.address fn ∷ l) (r.functions id gives);
      required = required_append files (keys r.done.seen) (turn_handles (function_turn c.address fn)) (flat_map turn_handles sides) own rest now r.required;
    }

-- an interface that is written there, and what comes after it
sided_inline : (files : List PackageFile) (decls : Decls) (written : List Occurrence) (cs : List DoneScope) (before : List Key) (s : Address) (mid new : List TypeDef) (is is' : List Interface) (added : Interface) (fs : List Function) (own rest : List Required) (x : Extern) (name : Id) (items : List InterfaceItem) (xs : List SideItem) (i : Item) (inside : List Item) (n : IsNextDone files decls written cs before mid added own (in_its_order files i)) → AreSided files decls (written ++ turn_occurrences (item_turn files i)) (cs ++ n.scope ∷ []) (keys n.done.seen) s new (is ++ added ∷ []) is' fs rest xs inside → AreSided files decls written cs before s new is is' fs (own ++ rest) (SideInline x name items ∷ xs) (i ∷ inside)
sided_inline files decls written cs before s mid new is is' added fs own rest x name items xs i inside n r =
    let turn = item_turn files i in
    let sides = turns_on_sides (item_order files) s xs inside in
    record {
      scopes = n.scope ∷ r.scopes;
      added = added ∷ r.added;
      last = r.last ∙ append_assoc is (added ∷ []) r.added;
      items = i ∷ r.items;
      left = r.left;
      first = ap (λ (l : List Item). i ∷ l) r.first;
      consumed = ap suc r.consumed;
      turns = ap (λ (t : Turned). t ∷ map turn_of r.scopes) n.turn ∙ ap (λ (l : List Turned). turn ∷ l) r.turns;
      least = λ t p at. elim (after_one i r.items t p at) [
        | inl same ↦ subst (λ (q : Item). IsOrder (rows_of (scope_names q)) (item_order files q)) same n.least
        | inr later ↦ r.least later.0 p later.1
      ];
      done = done_as (append_assoc written (turn_occurrences turn) (occurrences sides)) (append_assoc cs (n.scope ∷ []) r.scopes) r.done;
      extended = extended_trans n.extended r.extended;
      made = λ id gives. ap (λ (j : Interface). j ∷ r.added) (n.made id (gives_fewer r.extended id gives)) ∙ ap (λ (l : List Interface). own_interface id (item_order files) i ∷ l) (r.made id gives);
      functions = r.functions;
      required = required_append files (keys r.done.seen) (turn_handles turn) (flat_map turn_handles sides) own rest (required_extended files r.extended (turn_handles turn) own n.required) r.required;
    }

-- one fresh item less, once a scope at another address was added
fresh_later : (files : List PackageFile) (decls : Decls) (cs : List DoneScope) (place : ℕ) (i : Item) (b : DoneScope) → (b.address ≡ address i → ⊥) → IsFreshInside files decls cs place i → IsFreshInside files decls (cs ++ b ∷ []) place i
fresh_later files decls cs place i b other f = record {
  fresh = λ t c at same. elim (at_either cs b t c at) [ inl old ↦ f.fresh t c old same | inr new ↦ other (ap (λ (x : DoneScope). x.address) (sym new.1) ∙ same) ];
  has = f.has;
  own = f.own;
}

-- what is on the sides of a world, where its names are done
pub are_sided : (files : List PackageFile) (decls : Decls) (written : List Occurrence) (cs : List DoneScope) (es new : List TypeDef) (ccs : List ResolvedScope) (count t : ℕ) (c : DoneScope) (is is' : List Interface) (fs : List Function) (rs : List Required) (xs : List SideItem) (inside : List Item) (d : IsDone files decls written cs es) → slice_get cs t ≡ Some c → ((k : ℕ) (x : ResolvedScope) → slice_get ccs k ≡ Some x → (j : ℕ) × (slice_get (map resolved_scope_of cs) j ≡ Some x)) → AllDiffer (map address inside) → ((k : ℕ) (i : Item) → slice_get inside k ≡ Some i → IsFreshInside files decls cs ((count + length is) + k) i) → AddsSides ccs count c.address c.types es new is is' fs rs xs inside → AreSided files decls written cs (keys d.seen) c.address new is is' fs rs xs inside
are_sided files decls written cs es new ccs count t c is is' fs rs [] inside d at known differ fresh a = sided_none files decls written cs c.address es new is is' fs rs inside d a
are_sided files decls written cs es new ccs count t c is is' fs rs (SideFunction fn ∷ xs) inside d at known differ fresh a =
    let x = a.7.from decls d.seen d.occurrence (d.are_present t c at) in
    let step = functions_done files decls written cs es a.0 d c.address (fn ∷ []) x in
    let r = are_sided files decls (written ++ all_function_occurrences c.address (fn ∷ [])) cs a.0 new ccs count t c is is' a.2 a.4 xs inside step at known differ fresh a.9 in
    rw (a.5, a.6) (sided_function files decls written cs es a.0 new is is' fn a.1 a.2 a.3 a.4 xs inside d t c at a.7 a.8 x r)
are_sided files decls written cs es new ccs count t c is is' fs rs (SideLink link ∷ xs) inside d at known differ fresh a =
    let r = are_sided files decls written cs es new ccs count t c is is' fs rs xs inside d at known differ fresh a in
    record { scopes = r.scopes; added = r.added; last = r.last; items = r.items; left = r.left; first = r.first; consumed = r.consumed; turns = r.turns; least = r.least; done = r.done; extended = r.extended; made = r.made; functions = r.functions; required = r.required }
are_sided files decls written cs es new ccs count t c is is' fs rs (SideInline x name items ∷ xs) [] d at known differ fresh a = absurd a
are_sided files decls written cs es new ccs count t c is is' fs rs (SideInline x name items ∷ xs) (i ∷ inside) d at known differ fresh a =
    let place = count + length is in
    let first : IsFreshInside files decls cs place i = subst (λ (n : ℕ). IsFreshInside files decls cs n i) (let same : (count + length is) + 0 ≡ count + length is = omega arith in same) (fresh 0 i refl) in
    let n = next_scope files decls written cs es d ccs known place a.0 a.1 a.2 i first.fresh first.own first.has a.5 in
    let next = n.scope in
    let longer : length (is ++ a.1 ∷ []) ≡ length is + 1 = length-append is (a.1 ∷ []) in
    let here : next.address ≡ address i = ap (λ (u : Turned). u.address) n.turn in
    let known_more : (k : ℕ) (y : ResolvedScope) → slice_get ccs k ≡ Some y → (j : ℕ) × (slice_get (map resolved_scope_of (cs ++ next ∷ [])) j ≡ Some y) = λ k y h. (let it = known k y h in (it.0, ap (λ (l : List ResolvedScope). slice_get l it.0) (map-append resolved_scope_of cs (next ∷ [])) ∙ at_prefix (map resolved_scope_of cs) (map resolved_scope_of (next ∷ [])) it.0 y it.1)) in
    let fresh_more = λ (k : ℕ) (j : Item) (h : slice_get inside k ≡ Some j). subst (λ (n : ℕ). IsFreshInside files decls (cs ++ next ∷ []) n j) (let same : (count + length is) + suc k ≡ (count + length (is ++ a.1 ∷ [])) + k = omega (arith, longer) in same) (fresh_later files decls cs ((count + length is) + suc k) j next (λ same. differ_head address i inside differ k j h (sym same ∙ here)) (fresh (suc k) j h)) in
    let r = are_sided files decls (written ++ turn_occurrences (item_turn files i)) (cs ++ next ∷ []) a.0 new ccs count t c (is ++ a.1 ∷ []) is' fs a.3 xs inside n.done (at_prefix cs (next ∷ []) t c at) known_more (differ_tail address i inside differ) fresh_more a.6 in
    rw a.4 (sided_inline files decls written cs (keys d.seen) c.address a.0 new is is' a.1 fs a.2 a.3 x name items xs i inside n r)
