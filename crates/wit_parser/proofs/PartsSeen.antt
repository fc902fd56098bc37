-- The arena of types that is given by places is the list of first occurrences.
use Rattle.std.proofs.Common.{◌≡◌, ℕ, true, List, [], ◌∷◌, ◌++◌, length, take, Some, None, inl, inr, refl, sym, ap, ◌∙◌, subst, arith}
use Rattle.wit_items.proofs.Common.{Address, AllDiffer, Collects, Contains, Def, Exprs, ForeignNamed, ForeignUse, GivesPlaces, Has, IsEntryOf, IsLegal, IsOccurrence, IsSeen, Key, Makes, Occurrence, PackageFile, ScopeName, Span, Stability, TypeDef, UnresolvedPackage, Whole, about_name, all_occurrences, at_contains, at_prefix, at_seam, at_within, collects_extended, collects_one, collects_split, declarations, differ_at, first_foreign_uses, first_known, firsts_at, flat_map, foreign_use_key, foreign_use_occurrence, foreign_uses, foreign_uses_differ, foreign_uses_seen, gives_places, gives_used, interface_scopes, is_foreign, item_turns, key_extended, keys, local_name, map, map_at, name_exprs, option_map, owner_at, same_foreign_use, same_some, scope, slice_get, slice_get-map, slice_get_within, stability_at, three_ways, turn_occurrences, types_of, used_at, used_name_at, world_scopes}
use Rattle.wit_arena.proofs.Common.{Item, entry, no_docs}
use Rattle.wit_arena.proofs.Placing.{all_at-types_of}
use Rattle.wit_types.specs.declared.types.«Type».{«Type» as Ty}
use Rattle.wit_types.specs.declared.types.TypeOwner.TheVariants as owner
use Rattle.wit_arena.proofs.Occurrence.{firsts-collects, firsts-differ}
use Rattle.wit_parser.proofs.PartsScopes.{all_ready, no_parts}
use Rattle.wit_parser.proofs.PartsTurns.{AllPresent, types_of-at, PartsPresent, Ready, collects_prefix, seen_ready, ready_wider}

-- what occurs is in the end
pub collects_has : (ls ms all : List Occurrence) → Collects ms ls all → (k : Key) → Has (keys ls) k → IsSeen (keys all) k
collects_has [] ms all h k has = absurd has
collects_has (x ∷ ls) ms all h k has = elim h [
  | inl old ↦ elim has [
    | inl here ↦ (old.0.0, key_extended (collects_extended ls ms all old.1) old.0.0 k (old.0.1 ∙ ap Some here))
    | inr rest ↦ collects_has ls ms all old.1 k rest
  ]
  | inr fresh ↦ elim has [
    | inl here ↦ (
        let extended = collects_extended ls (ms ++ x ∷ []) all fresh.1 in
        let there = at_seam ms x in
        (length ms, key_extended extended (length ms) k (slice_get-map (λ (m : Occurrence). m.key) (ms ++ x ∷ []) (length ms) ∙ ap (option_map (λ (m : Occurrence). m.key)) there ∙ ap Some here)))
    | inr rest ↦ collects_has ls (ms ++ x ∷ []) all fresh.1 k rest
  ]
]

-- what occurs after others
collects_after : (ks ls a b c : List Occurrence) → Collects a (ks ++ ls) c → Collects a ks b → Collects b ls c
collects_after ks ls a b c h prefix =
    let it = collects_split ks ls a c h in
    subst (λ (x : List Occurrence). Collects x ls c) (collects_one ks a it.0 b it.1 prefix) it.2

-- a taking is given by the name of its scope
foreign_use_stated : (files : List PackageFile) (s : Address) → is_foreign s ≡ true → (j : ℕ) (t : ForeignUse) → slice_get (first_foreign_uses files) j ≡ Some t → t.from ≡ s → (x : ScopeName) → Contains (scope files s) x → local_name x ≡ t.id.name.now → t.id.span ≡ (about_name x).span
foreign_use_stated files (ForeignNamed p name) foreign j t at from x among same =
    let s = ForeignNamed p name in
    let i = at_contains (scope files s) x among in
    let it = used_name_at files s i.0 x i.1 in
    let key : foreign_use_key t ≡ foreign_use_key it.1 = cc (from, it.3, same, ap local_name it.4) in
    let place = differ_at foreign_use_key (first_foreign_uses files) (foreign_uses_differ files) j it.0 t it.1 at it.2 key in
    let one = same_some (sym at ∙ ap (slice_get (first_foreign_uses files)) place ∙ it.2) in
    ap (λ (u : ForeignUse). u.id.span) one ∙ ap (λ (y : ScopeName). (about_name y).span) (sym it.4)
foreign_use_stated files _ foreign j t at from x among same = absurd (let f : ⊥ = cc in f)

module _ (files : List PackageFile) (p : UnresolvedPackage) (legal : IsLegal files) (m : Makes files p) where
  abbrev written : List Occurrence
  written = all_occurrences files (item_turns m.order m.items)

  pub collects : Collects [] written m.seen
  collects = subst (λ (l : List Occurrence). Collects [] written l) (sym m.first) (firsts-collects m.same m.gives written)

  once : AllDiffer (keys m.seen)
  once = subst (λ (l : List Occurrence). AllDiffer (keys l)) (sym m.first) (firsts-differ m.same m.gives written)

  pub made_places : GivesPlaces m.id (keys m.seen)
  made_places = gives_places m.same m.gives m.seen m.id m.places once

  abbrev prefix : List Occurrence
  prefix = map foreign_use_occurrence (first_foreign_uses files)

  abbrev in_use : List Occurrence
  in_use = map foreign_use_occurrence (foreign_uses files)

  abbrev rest : List Occurrence
  rest = flat_map turn_occurrences (item_turns m.order m.items)

  ready : Ready (scope files) (IsSeen (keys prefix)) rest
  ready =
      let all = all_ready files legal m.order m.names_in_order m.in_order.0 m.in_order.1 in
      let here : Ready (scope files) (Has (keys in_use)) rest = subst (λ (l : List Item). Ready (scope files) (Has (keys in_use)) (flat_map turn_occurrences (item_turns m.order l))) (sym m.in_order.2) all in
      ready_wider (scope files) rest (Has (keys in_use)) (IsSeen (keys prefix)) (λ k has. collects_has in_use [] prefix (foreign_uses_seen files) k has) here

  abbrev Parts : ℕ → Occurrence → Type 0
  Parts n o = PartsPresent (scope files) (IsSeen (take n (keys m.seen))) o.span o.key

  used_parts : (n : ℕ) (o : Occurrence) → slice_get prefix n ≡ Some o → Parts n o
  used_parts n o at =
      let t = map_at foreign_use_occurrence (first_foreign_uses files) n o at in
      let foreign = let k = firsts_at same_foreign_use (foreign_uses files) n t.0 t.1 in (used_at files k.0 t.0 k.1).foreign in
      let own : Parts n (foreign_use_occurrence t.0) = λ x among called. (foreign_use_stated files t.0.from foreign n t.0 t.1 refl x among called, no_parts files t.0.from x (IsSeen (take n (keys m.seen))) foreign among) in
      subst (Parts n) t.2 own

  -- the parts of what occurs come before it
  parts_before : (n : ℕ) (o : Occurrence) → slice_get m.seen n ≡ Some o → Parts n o
  parts_before n o at = elim (three_ways n (length prefix)) [
    | inl lt ↦ (
        let it = collects_prefix (scope files) rest prefix m.seen (collects_after in_use rest [] prefix m.seen collects (foreign_uses_seen files)) in
        let x = at_within prefix n lt in
        used_parts n o (x.1 ∙ sym (at_prefix prefix it.0 n x.0 x.1) ∙ ap (λ (l : List Occurrence). slice_get l n) (sym it.1) ∙ at))
    | inr other ↦ seen_ready (scope files) rest prefix m.seen (collects_after in_use rest [] prefix m.seen collects (foreign_uses_seen files)) ready n o at (elim other [ inl one ↦ omega (arith, one) | inr gt ↦ omega (arith, gt) ])
  ]

  abbrev Stated : (Key → ℕ) → ℕ → Key → Span → Stability → TypeDef → Type 0
  Stated id n k span given e = IsEntryOf (scope files) (owner_at (interface_scopes files m.items) (world_scopes files m.items)) id (take n p.types) k span given e

  types_at : (n : ℕ) (id : Key → ℕ) → GivesPlaces id (take n (keys m.seen)) → (parts : Exprs) → AllPresent (IsSeen (take n (keys m.seen))) parts → types_of m.id parts ≡ types_of id parts
  types_at n id gives parts are_present = all_at-types_of id (take n (keys m.seen)) gives parts (types_of m.id parts) (types_of-at m.id (take n (keys m.seen)) (gives_used m.id (keys m.seen) made_places n) parts are_present)

  -- the entry of what occurs does not depend on places of what occurs later
  entry_is : (n : ℕ) (id : Key → ℕ) → GivesPlaces id (take n (keys m.seen)) → (k : Key) (span : Span) (given : Stability) (e : TypeDef) → PartsPresent (scope files) (IsSeen (take n (keys m.seen))) span k → Stated m.id n k span given e → Stated id n k span given e
  entry_is n id gives (Def s name) span given e are_present h =
      let x = h.0 in
      (x, h.1, h.2, h.3, h.4 ∙ ap (λ (ts : List Ty). ((about_name x).body.form, ts)) (types_at n id gives (name_exprs s x) (are_present x h.2 h.3).1), h.5)
  entry_is n id gives (Whole form parts) span given e are_present h =
      let types = types_at n id gives parts are_present in
      (h.0, h.1 ∙ ap (λ (ts : List Ty). (form, ts)) types, h.2 ∙ ap (λ (ts : List Ty). entry None owner.None (record { docs = no_docs; stability = first_known (given ∷ map (stability_at (take n p.types)) ts); external_id = None }) span h.0) types)

  -- and a name occurs where it is
  named_is : (n : ℕ) (o : Occurrence) (s : Address) (name : List ℕ) (e : TypeDef) → slice_get m.seen n ≡ Some o → slice_get p.types n ≡ Some e → o.key ≡ Def s name → (x : ScopeName) × Contains (scope files s) x × (local_name x ≡ name) × (o.span ≡ (about_name x).span)
  named_is n o s name e at_o at_e is =
      let h = subst (λ (k : Key). Stated m.id n k o.span o.given e) is (m.types n o e at_o at_e) in
      let parts = subst (PartsPresent (scope files) (IsSeen (take n (keys m.seen))) o.span) is (parts_before n o at_o) in
      (h.0, h.2, h.3, (parts h.0 h.2 h.3).0)

  -- so it is the list of first occurrences
  pub entries_made : IsOccurrence (declarations files (interface_scopes files m.items) (world_scopes files m.items)) m.seen p.types
  entries_made = record {
    count = m.count;
    once = once;
    named = λ n o s name at is. (let e = at_within p.types n (let lt = slice_get_within m.seen n o at in let count = m.count in omega (arith, lt, count)) in named_is n o s name e.0 at e.1 is);
    each = λ n o e at_o at_e id gives. entry_is n id gives o.key o.span o.given e (parts_before n o at_o) (m.types n o e at_o at_e);
  }
