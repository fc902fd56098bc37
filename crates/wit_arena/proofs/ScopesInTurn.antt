-- Scopes that are done, one after another.
use Rattle.std.proofs.Common.{◌≡◌, ℕ, List, [], ◌∷◌, ◌++◌, length, Some, inl, inr, sym, ap, ◌∙◌, append_assoc, refl, arith, length-append}
use Rattle.wit_arena.proofs.Names.{Address, Id, Occurrence, PackageFile, ScopeName, at_either, flat_map, map, slice_get, turn_handles, turn_occurrences, AllDiffer, AreDistinct, Function, FunctionKey, IsOrder, Item, Names, Required, ResolvedScope, Turned, TypeOwner, address, all_occurrences, append-nil, at_within, differ_at, flat_map-append, foreign_use_occurrence, foreign_uses, functions, in_turn, in_turn_among, in_turn_distinct, in_turn_has, map-append, map_at, map_map, option_map, rows_of, scope_names, slice_get-map, slice_get_within}
use Rattle.wit_arena.proofs.Resolving.{DoneScope, turn_of, resolved_scope_of, IsTurn}
use Rattle.wit_arena.proofs.Turns.{occurrences}
use Rattle.wit_arena.proofs.Ordered.{Ordered, item_order, item_turn, ordered_names}

-- Interfaces, or worlds, that are done one after another, as scopes.
-- The first of some items are these scopes, and these are their entries in an arena: `entry_resolved_scope` is the scope that an entry is.
pub record AreLaid {X : Type 0} (files : List PackageFile) (entry_resolved_scope : X → ResolvedScope) (ws us : List Item) (xs : List X) (cs : List DoneScope) : Type 0 where
  pub prefix : (t : ℕ) (u : Item) → slice_get us t ≡ Some u → slice_get ws t ≡ Some u
  pub least : (t : ℕ) (u : Item) → slice_get us t ≡ Some u → IsOrder (rows_of (scope_names u)) (item_order files u)
  pub count : length xs ≡ length us
  pub turns : map turn_of cs ≡ map (item_turn files) us
  pub types : map resolved_scope_of cs ≡ map entry_resolved_scope xs

module _ {X : Type 0} {files : List PackageFile} {entry_resolved_scope : X → ResolvedScope} {ws us : List Item} {xs : List X} {cs : List DoneScope} (l : AreLaid files entry_resolved_scope ws us xs cs) where
  -- the scope of an item, and the item of a scope
  pub scope_at : (t : ℕ) (u : Item) → slice_get us t ≡ Some u → (c : DoneScope) × (slice_get cs t ≡ Some c) × (turn_of c ≡ item_turn files u)
  scope_at t u at = map_at turn_of cs t (item_turn files u) (ap (λ (x : List Turned). slice_get x t) l.turns ∙ slice_get-map (item_turn files) us t ∙ ap (option_map (item_turn files)) at)

  pub ordered_at : (t : ℕ) (c : DoneScope) → slice_get cs t ≡ Some c → (u : Item) × (slice_get us t ≡ Some u) × (item_turn files u ≡ turn_of c)
  ordered_at t c at = map_at (item_turn files) us t (turn_of c) (ap (λ (x : List Turned). slice_get x t) (sym l.turns) ∙ slice_get-map turn_of cs t ∙ ap (option_map turn_of) at)

  -- the entry of an item
  pub entry_of_item : (t : ℕ) (u : Item) → slice_get us t ≡ Some u → (x : X) × (slice_get xs t ≡ Some x)
  entry_of_item t u at = at_within xs t (omega (arith, slice_get_within us t u at, l.count))

  -- the addresses of entries are those of items
  pub laid_addresses : map (λ (x : X). (entry_resolved_scope x).address) xs ≡ map address us
  laid_addresses = sym (map_map (λ (c : ResolvedScope). c.address) entry_resolved_scope xs) ∙ ap (map (λ (c : ResolvedScope). c.address)) (sym l.types) ∙ map_map (λ (c : ResolvedScope). c.address) resolved_scope_of cs ∙ sym (map_map (λ (x : Turned). x.address) turn_of cs) ∙ ap (map (λ (x : Turned). x.address)) l.turns ∙ map_map (λ (x : Turned). x.address) (item_turn files) us

  pub laid_place : (t : ℕ) (a : Address) → slice_get (map (λ (x : X). (entry_resolved_scope x).address) xs) t ≡ Some a → slice_get (map address ws) t ≡ Some a
  laid_place t a at =
      let u = map_at address us t a (ap (λ (y : List Address). slice_get y t) (sym laid_addresses) ∙ at) in
      slice_get-map address ws t ∙ ap (option_map address) (l.prefix t u.0 u.1) ∙ ap Some u.2

  -- the scope of the next one is none of them
  pub none_is_next : AllDiffer (map address ws) → (w : Item) → slice_get ws (length us) ≡ Some w → (t : ℕ) (c : DoneScope) → slice_get cs t ≡ Some c → c.address ≡ address w → ⊥
  none_is_next differ w next t c at same =
      let u = ordered_at t c at in
      let here : address u.0 ≡ address w = ap (λ (x : Turned). x.address) u.2 ∙ same in
      let place = differ_at address ws differ t (length us) u.0 w (l.prefix t u.0 u.1) next here in
      let lt = slice_get_within us t u.0 u.1 in
      omega arith

-- the scope of an item at a place
abbrev pub laid_scope : TypeOwner → Ordered → Names → List Function → List (FunctionKey × Function) → List Required → DoneScope
laid_scope o i types made stated rs = record { address = address i.item; owner = o; names = ordered_names i; types = types; functions = functions i.item; made = made; stated = stated; required = rs }

module _ {X : Type 0} (files : List PackageFile) (entry_resolved_scope : X → ResolvedScope) (ws : List Item) where
  pub laid_none : AreLaid files entry_resolved_scope ws [] [] []
  laid_none = record {
    prefix = λ t u at. absurd (let f : ⊥ = cc in f);
    least = λ t u at. absurd (let f : ⊥ = cc in f);
    count = refl;
    turns = refl;
    types = refl;
  }

  -- one more
  pub laid_more : (us : List Item) (xs : List X) (cs : List DoneScope) (w : Item) (c : DoneScope) (added : X) → AreLaid files entry_resolved_scope ws us xs cs → slice_get ws (length us) ≡ Some w → IsOrder (rows_of (scope_names w)) (item_order files w) → turn_of c ≡ item_turn files w → resolved_scope_of c ≡ entry_resolved_scope added → AreLaid files entry_resolved_scope ws (us ++ w ∷ []) (xs ++ added ∷ []) (cs ++ c ∷ [])
  laid_more us xs cs w c added l next least turn of = record {
    prefix = λ t p at. elim (at_either us w t p at) [
      | inl old ↦ l.prefix t p old
      | inr new ↦ rw (new.1, new.0) next
    ];
    least = λ t p at. elim (at_either us w t p at) [
      | inl old ↦ l.least t p old
      | inr new ↦ rw new.1 least
    ];
    count = omega (arith, l.count, length-append xs (added ∷ []), length-append us (w ∷ []));
    turns = map-append turn_of cs (c ∷ []) ∙ ap (λ (x : List Turned). x ++ turn_of c ∷ []) l.turns ∙ ap (λ (x : Turned). map (item_turn files) us ++ x ∷ []) turn ∙ sym (map-append (item_turn files) us (w ∷ []));
    types = map-append resolved_scope_of cs (c ∷ []) ∙ ap (λ (x : List ResolvedScope). x ++ resolved_scope_of c ∷ []) l.types ∙ ap (λ (x : ResolvedScope). map entry_resolved_scope xs ++ x ∷ []) of ∙ sym (map-append entry_resolved_scope xs (added ∷ []));
  }

pub occurrences-append : (ts : List Turned) (t : Turned) → occurrences (ts ++ t ∷ []) ≡ occurrences ts ++ turn_occurrences t
occurrences-append ts t =
    flat_map-append turn_occurrences ts (t ∷ []) ∙ ap (λ ms. occurrences ts ++ ms) (append-nil (turn_occurrences t))

-- the names in turn are those of the scope
pub in_turn_is : (xs : List ScopeName) (order : List ℕ) → IsOrder (rows_of xs) order → AreDistinct xs → IsTurn xs (in_turn xs order)
in_turn_is xs order least distinct = record {
  distinct = distinct;
  differ = in_turn_distinct xs order least distinct;
  among = in_turn_among xs order least;
  has = in_turn_has xs order least;
}

-- the occurrences of one item more
pub more_occurrences : (files : List PackageFile) (us : List Item) (w : Item) → all_occurrences files (map (item_turn files) (us ++ w ∷ [])) ≡ all_occurrences files (map (item_turn files) us) ++ turn_occurrences (item_turn files w)
more_occurrences files us w =
    let prefix : List Occurrence = map foreign_use_occurrence (foreign_uses files) in
    let turns = map (item_turn files) us in
    let rest_after : occurrences (map (item_turn files) (us ++ w ∷ [])) ≡ occurrences turns ++ turn_occurrences (item_turn files w) = ap occurrences (map-append (item_turn files) us (w ∷ [])) ∙ occurrences-append turns (item_turn files w) in
    ap (λ (ms : List Occurrence). prefix ++ ms) rest_after ∙ sym (append_assoc prefix (occurrences turns) (turn_occurrences (item_turn files w)))

-- the names in the handles of one item more
pub turned_handles : (files : List PackageFile) (us : List Item) (w : Item) → flat_map turn_handles (map (item_turn files) (us ++ w ∷ [])) ≡ flat_map turn_handles (map (item_turn files) us) ++ turn_handles (item_turn files w)
turned_handles files us w =
    let turns = map (item_turn files) us in
    ap (flat_map turn_handles) (map-append (item_turn files) us (w ∷ []))
    ∙ flat_map-append turn_handles turns (item_turn files w ∷ [])
    ∙ ap (λ (l : List (Address × Id)). flat_map turn_handles turns ++ l) (append-nil (turn_handles (item_turn files w)))
