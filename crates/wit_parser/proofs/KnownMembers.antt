-- The scopes of a package are: all that occurs in files occurs in them, and each name of them means its place.
use Rattle.std.proofs.Common.{◌≡◌, ℕ, suc, List, [], ◌∷◌, Some, ◌⊎◌, inl, inr, refl, sym, ap, ◌∙◌, subst}
use Rattle.wit_items.proofs.Common.{Address, AreNames, Decls, Def, DoneScope, Exprs, ForeignName, ForeignUse, Form, Has, IsInSignatureOf, IsLegal, IsNameOf, IsPresent, IsWholeOf, Key, Makes, Names, Occurrence, PackageFile, ScopeName, Turned, TypeOwner, UnresolvedPackage, Whole, address, all_occurrences, all_seen, collects_from, declarations, env_of, expr_of, firsts_has, foreign_interfaces, foreign_use_key, foreign_use_occurrence, foreign_uses, has_either, has_from, in_use_has, interface_scopes, item_turns, keys, keys-append, local_name, lookup-listed, lookup-place, map, name_exprs, names_of, occurrences, option_map, own_interfaces, owner_at, same_foreign_use, scope, seen, slice_get, slice_get-map, some_of, turn_occurrences, use_of_foreign-equal, use_of_foreign-from, used_from, uses_lead, visited, world_scopes}
use Rattle.wit_arena.proofs.DoneNames.{seen_in_turn}
use Rattle.wit_parser.proofs.KnownScopes.{IsKnown}
use Rattle.wit_parser.proofs.KnownOwners.{scopes, known_at, interface_resolved_scope, turn_part}
use Rattle.wit_arena.proofs.Wholes.{whole_in_names, whole_in_turn}
use Rattle.wit_parser.proofs.Images.{first_at}
use Rattle.wit_parser.proofs.PartsSeen.{collects, entries_made}

-- a key that occurs in what is taken is that of a name that is taken
foreign_use_of : (ts : List ForeignUse) (k : Key) → Has (keys (map foreign_use_occurrence ts)) k → (j : ℕ) × (t : ForeignUse) × (slice_get ts j ≡ Some t) × (foreign_use_key t ≡ k)
foreign_use_of [] k h = absurd h
foreign_use_of (t ∷ ts) k h = elim h [ inl here ↦ (0, t, refl, here) | inr rest ↦ (let it = foreign_use_of ts k rest in (suc it.0, it.1, it.2, it.3)) ]

module _ (files : List PackageFile) (p : UnresolvedPackage) (legal : IsLegal files) (m : Makes files p) where
  abbrev turns : List Turned
  turns = item_turns m.order m.items

  abbrev pub decls : Decls
  decls = declarations files (interface_scopes files m.items) (world_scopes files m.items)

  abbrev cs : List DoneScope
  cs = scopes files p legal m

  abbrev pub written : List Occurrence
  written = all_occurrences files (turns)

  abbrev Known : DoneScope → Type 0
  Known c = IsKnown files p (keys m.seen) (interface_scopes files m.items) (world_scopes files m.items) c

  pub known : (t : ℕ) (c : DoneScope) → slice_get cs t ≡ Some c → Known c
  known = known_at files p legal m

  -- what is written is taken, or is in a scope
  written_either : (k : Key) → Has (keys written) k → Has (keys (map foreign_use_occurrence (foreign_uses files))) k ⊎ Has (keys (occurrences (turns))) k
  written_either k has = has_either (keys (map foreign_use_occurrence (foreign_uses files))) (keys (occurrences (turns))) k (subst (λ (l : List Key). Has l k) (keys-append (map foreign_use_occurrence (foreign_uses files)) (occurrences (turns))) has)

  -- a name that is taken is one of the scope that it is taken from
  used_name : (s : Address) (name : List ℕ) → Has (keys (map foreign_use_occurrence (foreign_uses files))) (Def s name) → IsNameOf cs s name
  used_name s name has =
      let t = foreign_use_of (foreign_uses files) (Def s name) has in
      let v = used_from files (uses_lead files legal) t.0 t.1 t.2 in
      let from : t.1.from ≡ s = (let same = t.3 in cc) in
      let u = firsts_has same_foreign_use foreign_use_key use_of_foreign-from use_of_foreign-equal (foreign_uses files) t.0 t.1 t.2 in
      let key : foreign_use_key u.1 ≡ Def s name = u.3 ∙ t.3 in
      let there : u.1.from ≡ s = cc in
      let called : u.1.id.name.now ≡ name = cc in
      let k = in_use_has files (visited v.1) u.0 u.1 u.2 (there ∙ sym from ∙ sym v.3) in
      let c = interface_resolved_scope files p legal m v.0 (visited v.1) (first_at visited address (foreign_interfaces files) (own_interfaces m.items) (interface_scopes files m.items) refl v.0 v.1 v.2) in
      let x : ScopeName = ForeignName u.1.attributes u.1.id in
      let q = (known c.place c.resolved_scope c.at).done.turn.has k.0 x (ap (λ (a : Address). slice_get (scope files a) k.0) c.scope ∙ k.1) in
      record { place = c.place; resolved_scope = c.resolved_scope; at = c.at; scope = c.scope ∙ v.3 ∙ from; index = q.0; x = x; among = q.1; called = called }

  -- a name that is in a scope is one of it
  own_name : (s : Address) (name : List ℕ) → Has (keys (occurrences (turns))) (Def s name) → IsNameOf cs s name
  own_name s name has =
      let t = has_from turn_occurrences turns (Def s name) has in
      let it = seen_in_turn t.1.address t.1.names t.1.functions s name t.3 in
      let c = turn_part files p legal m t.0 t.1 t.2 in
      let q = c.names it.1.0 it.1.1 it.1.2 in
      record { place = c.place; resolved_scope = c.resolved_scope; at = c.at; scope = c.scope ∙ sym it.0; index = q.0; x = it.1.1; among = q.1; called = it.1.3 }

  pub before : (j : ℕ) (s : Address) (name : List ℕ) → slice_get (keys m.seen) j ≡ Some (Def s name) → IsNameOf cs s name
  before j s name at = elim (collects_from written [] m.seen (collects files p legal m) j (Def s name) at) [
    | inl none ↦ cc none.1
    | inr has ↦ elim (written_either (Def s name) has) [ inl in_use ↦ used_name s name in_use | inr own ↦ own_name s name own ]
  ]

  -- an unnamed type is written in a name of a scope, or in one of its functions
  own_whole : (form : Form) (parts : Exprs) → Has (keys (occurrences (turns))) (Whole form parts) → IsWholeOf cs form parts ⊎ IsInSignatureOf cs form parts
  own_whole form parts has =
      let t = has_from turn_occurrences turns (Whole form parts) has in
      let c = turn_part files p legal m t.0 t.1 t.2 in
      elim (whole_in_turn t.1.address t.1.names t.1.functions form parts t.3) [
        | inl named ↦ (
            let it = whole_in_names t.1.address t.1.names form parts named in
            let q = c.names it.0 it.1 it.2 in
            inl (record { place = c.place; resolved_scope = c.resolved_scope; at = c.at; index = q.0; x = it.1; among = q.1; has = subst (λ (a : Address). Has (all_seen (name_exprs a it.1)) (Whole form parts)) (sym c.scope) it.3 }))
        | inr it ↦ (
            let q = c.functions it.index it.fn it.among in
            inr (record {
              place = c.place;
              resolved_scope = c.resolved_scope;
              at = c.at;
              inside = record { index = q.0; fn = it.fn; among = q.1; position = it.position; shape = it.shape; written = it.written; has = subst (λ (a : Address). Has (seen (expr_of a it.shape)) (Whole form parts)) (sym c.scope) it.has };
            }))
      ]

  pub wholes : (form : Form) (parts : Exprs) → Has (keys written) (Whole form parts) → IsWholeOf cs form parts ⊎ IsInSignatureOf cs form parts
  wholes form parts has = elim (written_either (Whole form parts) has) [
    | inl in_use ↦ (let t = foreign_use_of (foreign_uses files) (Whole form parts) in_use in cc t.3)
    | inr own ↦ own_whole form parts own
  ]

  -- two scopes at one address have the same types
  same_types : (t j : ℕ) (c b : DoneScope) → slice_get cs t ≡ Some c → slice_get cs j ≡ Some b → b.address ≡ c.address → b.types ≡ c.types
  same_types t j c b at there same =
      let own = known t c at in
      let other = known j b there in
      let whose : b.owner ≡ c.owner = sym other.whose ∙ ap (owner_at (interface_scopes files m.items) (world_scopes files m.items)) same ∙ own.whose in
      sym other.names ∙ ap (names_of p) whose ∙ own.names

  pub are_present : (t : ℕ) (c : DoneScope) → slice_get cs t ≡ Some c → AreNames (keys m.seen) c.address (env_of c.types)
  are_present t c at = record {
    present = λ name id found. (let k = lookup-place c.types name id found in (known t c at).types.places k.0 name id k.1);
    has = λ j name key. (
        let n = before j c.address name key in
        let same = same_types t n.place c n.resolved_scope at n.at n.scope in
        let here : slice_get (map (λ (e : List ℕ × ℕ). e.0) c.types) n.index ≡ Some name = ap (λ (l : Names). slice_get (map (λ (e : List ℕ × ℕ). e.0) l) n.index) (sym same) ∙ ap (λ (l : List (List ℕ)). slice_get l n.index) (known n.place n.resolved_scope n.at).types.names ∙ slice_get-map local_name n.resolved_scope.names n.index ∙ ap (option_map local_name) n.among ∙ ap (λ (l : List ℕ). Some l) n.called in
        some_of (env_of c.types name) (lookup-listed c.types n.index name here));
  }

  abbrev pub present : IsPresent files decls written cs p.types
  present = record {
    seen = m.seen;
    collects = collects files p legal m;
    occurrence = entries_made files p legal m;
    each = λ t c at. (known t c at).done;
    own = λ t c at. ap (λ (o : TypeOwner). (scope files c.address, o)) (known t c at).whose;
    are_present = are_present;
    before = before;
    made = λ t c at. (known t c at).made;
  }
