-- What occurs in the names of a scope, one after another.
use Rattle.std.proofs.Common.{◌≡◌, ℕ, ◌+◌, cond, List, [], ◌∷◌, ◌++◌, length, Option, Some, None, nat_eq, inl, inr, refl, sym, ap, ◌∙◌, subst, append_assoc, arith, Contains}
use Rattle.wit_arena.proofs.Names.{Address, AreDistinct, AreKnown, AreNames, AreNew, AreResolved, Attribute, Collects, Decls, Def, Defined, Defines, Env, Extends, IsAdded, IsOccurrence, IsSeen, Key, Names, Occurrence, ResolvedScope, ScopeName, TypeDef, TypeDefKind, TypeOwner, UseName, Used, about_name, all_seen, append-nil, at_back, at_either, at_prefix, at_seam, body_of, differ_at, differ_by, env_of, contains_at, flat_map-append, length-map, types_of, Form, insert_entry, keys, kind_of, local_name, local_names, lookup-insert_entry, map, map-append, name_cases, name_exprs, name_itself, name_occurrences, named, names-insert_entry, pointwise, slice_get, slice_get_within, unwrap_or, metadata, no_docs, names_in}
use Rattle.wit_type_tree.specs.declared.types.TypeDef.{TypeDef as Definition}
use Rattle.wit_types.specs.declared.types.TypeDefKind.TheVariants.{Type_}
use Rattle.wit_types.specs.declared.types.«Type».{«Type» as Ty}
use Rattle.wit_types.specs.declared.types.«Type».TheVariants as type
use Rattle.wit_arena.proofs.Occurrence.{keys-append, collects_append, collects_from, collects_extended, names_kept, no_defs, occurrence_more, Has, has_either, has_from}
use Rattle.wit_arena.proofs.Resolving.{keys-shapes}
use Rattle.wit_arena.proofs.Placing.{AreOver}
use Rattle.wit_arena.proofs.OneKind.{key_extended, same_some}
use Rattle.wit_arena.proofs.Turns.{parts_occurrences, all_name_occurrences}

-- the scope at an address was resolved
pub record IsFound (cs : List ResolvedScope) (from : Address) (c : ResolvedScope) : Type 0 where
  pub place : ℕ
  pub at : slice_get cs place ≡ Some c
  pub called : c.address ≡ from

-- a used name was added, as another word for what it means in the interface that it comes from
pub record IsUsed (old new : List TypeDef) (cs : List ResolvedScope) (o : TypeOwner) (names names' : Names) (from : Address) (attributes : List Attribute) (n : UseName) : Type 0 where
  pub target : ResolvedScope
  pub found : IsFound cs from target
  pub id : ℕ
  pub present : env_of target.types n.name.name.now ≡ Some id
  pub free : env_of names (local_name (Used from attributes n)) ≡ None
  pub added : IsAdded old new o names names' (local_name (Used from attributes n)) (metadata no_docs attributes) n.name.span (Type_ (type.Id id))

-- a name that was not seen is free
pub name_free : (ks : List Key) (s : Address) (env : Env) (name : List ℕ) → AreNames ks s env → (IsSeen ks (Def s name) → ⊥) → env name ≡ None
name_free ks s env name names new = go (env name) refl
  where
    go : (o : Option ℕ) → env name ≡ o → env name ≡ None
    go None e = e
    go (Some i) e = absurd (new (i, names.present name i e))

-- the names with one more
names_added : (ks : List Key) (s : Address) (names : Names) (name : List ℕ) (place : ℕ) → AreNames ks s (env_of names) → (IsSeen ks (Def s name) → ⊥) → place ≡ length ks → AreNames (ks ++ Def s name ∷ []) s (env_of (insert_entry (pointwise nat_eq) names name place))
names_added ks s names name place is fresh at_end = record {
  present = λ n i h. elim (name_cases n name) [
    | inl same ↦ (
        let at = same_some (sym h ∙ lookup-insert_entry names name n place ∙ ap (λ b. cond b (Some place) (env_of names n)) (ap (λ m. pointwise nat_eq m name) same ∙ name_itself name)) ∙ at_end in
        rw (at, same) (at_seam ks (Def s name)))
    | inr other ↦ at_prefix ks (Def s name ∷ []) i (Def s n) (is.present n i (sym (lookup-insert_entry names name n place ∙ ap (λ b. cond b (Some place) (env_of names n)) other) ∙ h))
  ];
  has = λ j n at. elim (name_cases n name) [
    | inl same ↦ (place, lookup-insert_entry names name n place ∙ ap (λ b. cond b (Some place) (env_of names n)) (ap (λ m. pointwise nat_eq m name) same ∙ name_itself name))
    | inr other ↦ elim (at_either ks (Def s name) j (Def s n) at) [
      | inl old ↦ (let was = is.has j n old in (was.0, lookup-insert_entry names name n place ∙ ap (λ b. cond b (Some place) (env_of names n)) other ∙ was.1))
      | inr new ↦ cc (new.1, name_itself name, other)
    ]
  ];
}

-- what occurs in the parts of a name of a scope are the unnamed expressions in them
pub parts_keys : (s : Address) (x : ScopeName) → keys (parts_occurrences s x) ≡ all_seen (name_exprs s x)
parts_keys s x = keys-shapes (unwrap_or (about_name x).from s) (about_name x).metadata.stability (about_name x).body.parts

pub kind_stated : (k : Form × List Ty) (form : Form) (parts : List Ty) → k.0 ≡ form → k.1 ≡ parts → k ≡ (form, parts)
kind_stated k form parts same_form same_parts = λ i. (same_form i, same_parts i)

-- a name over parts that were resolved
defines_from : (old mid new : List TypeDef) (cs : List ResolvedScope) (o : TypeOwner) (s : Address) (names names' : Names) (x : ScopeName) (kind : TypeDefKind) → ((decls : Decls) (ms : List Occurrence) → IsOccurrence decls ms old → AreNames (keys ms) s (env_of names) → AreKnown (keys ms) s cs → Extends decls ms (parts_occurrences s x) mid (λ ks. AreOver ks (name_exprs s x) (kind_of kind).1)) → (kind_of kind).0 ≡ (about_name x).body.form → IsAdded mid new o names names' (local_name x) (about_name x).metadata (about_name x).span kind → Defines old new cs o s names names' (x ∷ [])
defines_from old mid new cs o s names names' x kind p form a = record {
  from = λ decls ms among distinct anew known m are_present. (
      let name = local_name x in
      let more = parts_occurrences s x in
      let it : Occurrence = record { key = Def s name; span = (about_name x).span; given = (about_name x).metadata.stability } in
      let own = among 0 x refl in
      let y = p decls ms m are_present known in
      let kept = names_kept ms y.now more s (env_of names) (name_exprs s x) (parts_keys s x) y.collects are_present in
      let fresh : IsSeen (keys y.now) (Def s name) → ⊥ = λ was. elim (collects_from more ms y.now y.collects was.0 (Def s name) was.1) [
        | inl before ↦ anew.new 0 x refl before
        | inr inner ↦ no_defs (name_exprs s x) s name (subst (λ ks. Has ks (Def s name)) (parts_keys s x) inner)
      ] in
      let count : length mid ≡ length (keys y.now) = y.occurrence.count ∙ sym (length-map y.now (λ (m : Occurrence). m.key)) in
      let owned = contains_at (decls s).0 own.0 x own.1 in
      let free = name_free (keys y.now) s (env_of names) name kept fresh in
      record {
        now = y.now ++ it ∷ [];
        collects = subst (λ l. Collects ms l (y.now ++ it ∷ [])) (sym (append-nil (more ++ it ∷ []))) (collects_append more (it ∷ []) ms y.now (y.now ++ it ∷ []) y.collects (inr (fresh, refl)));
        occurrence = subst (IsOccurrence decls (y.now ++ it ∷ [])) (sym a.last) (occurrence_more it (named o name kind (about_name x).metadata (about_name x).span) y.occurrence fresh (λ t n same. (let at : s ≡ t = cc in let called : name ≡ n = cc in (x, subst (λ (z : Address). Contains (decls z).0 x) at owned, called, refl))) (λ id gives. (x, kind, owned, refl, kind_stated (kind_of kind) (about_name x).body.form (types_of id (name_exprs s x)) form (y.holds id gives), ap (λ (w : TypeOwner). named w name kind (about_name x).metadata (about_name x).span) (sym own.2))));
        holds = (rw (a.inserted, keys-append y.now (it ∷ [])) (names_added (keys y.now) s names name (length mid) kept fresh count), ap (map (λ p. p.0)) a.inserted ∙ names-insert_entry names name (length mid) free);
      });
}

-- a definition over parts that were resolved
pub defines_one : (old mid new : List TypeDef) (cs : List ResolvedScope) (o : TypeOwner) (s : Address) (names names' : Names) (d : Definition) (kind : TypeDefKind) → AreResolved old mid s (env_of names) (about_name (Defined d)).metadata.stability (body_of d.body).parts (kind_of kind).1 → (kind_of kind).0 ≡ (body_of d.body).form → IsAdded mid new o names names' d.name.name.now (about_name (Defined d)).metadata d.name.span kind → Defines old new cs o s names names' (Defined d ∷ [])
defines_one old mid new cs o s names names' d kind p form a = defines_from old mid new cs o s names names' (Defined d) kind (λ decls ms m are_present known. p.from decls ms m are_present) form a

-- the names of a scope mean their places, however it is called
key_at_scope : {ks : List Key} {s t : Address} {env : Env} → AreNames ks s env → s ≡ t → (name : List ℕ) (i : ℕ) → env name ≡ Some i → slice_get ks i ≡ Some (Def t name)
key_at_scope {ks} {s} {t} {env} names same name i h = names.present name i h ∙ ap (λ (x : Address). Some (Def x name)) same

-- a name that is used from a scope that was resolved is defined, after the others
pub used_adds : {old new : List TypeDef} {cs : List ResolvedScope} {o : TypeOwner} {names names' : Names} {from : Address} {attributes : List Attribute} {n : UseName} → IsUsed old new cs o names names' from attributes n → ((s : Address) → Defines old new cs o s names names' (Used from attributes n ∷ [])) × (names_in names' ≡ names_in names ++ local_name (Used from attributes n) ∷ [])
used_adds {old} {new} {cs} {o} {names} {names'} {from} {attributes} {n} u = (
  λ s. defines_from old old new cs o s names names' (Used from attributes n) (Type_ (type.Id u.id)) (λ decls ms m are_present known. record {
    now = ms;
    collects = refl;
    occurrence = m;
    holds = λ id gives. ap (λ (i : ℕ). type.Id i ∷ []) (sym (gives.at u.id (Def from n.name.name.now) (key_at_scope (known.names u.found.place u.target u.found.at) u.found.called n.name.name.now u.id u.present)));
  }) refl u.added,
  ap names_in u.added.inserted ∙ names-insert_entry names (local_name (Used from attributes n)) (length old) u.free,
)

pub name_keys : (s : Address) (x : ScopeName) → keys (name_occurrences s x) ≡ keys (parts_occurrences s x) ++ Def s (local_name x) ∷ []
name_keys s x = keys-append (parts_occurrences s x) (record { key = Def s (local_name x); span = (about_name x).span; given = (about_name x).metadata.stability } ∷ [])

-- a name that occurs in names of a scope is one of them
pub name_seen_in : (s : Address) (xs : List ScopeName) (t : Address) (name : List ℕ) → Has (keys (all_name_occurrences s xs)) (Def t name) → (t ≡ s) × ((i : ℕ) × (x : ScopeName) × (slice_get xs i ≡ Some x) × (local_name x ≡ name))
name_seen_in s xs t name h =
    let it = has_from (name_occurrences s) xs (Def t name) h in
    elim (has_either (keys (parts_occurrences s it.1)) (Def s (local_name it.1) ∷ []) (Def t name) (subst (λ ks. Has ks (Def t name)) (name_keys s it.1) it.3)) [
      | inl inner ↦ absurd (no_defs (name_exprs s it.1) t name (subst (λ ks. Has ks (Def t name)) (parts_keys s it.1) inner))
      | inr last ↦ elim last [
        | inl here ↦ (let a : t ≡ s = cc in let b : local_name it.1 ≡ name = cc in (a, (it.0, it.1, it.2, b)))
        | inr none ↦ absurd none
      ]
    ]

-- names of scopes still are once names of another scope occurred
pub known_kept : (a b : List Occurrence) (s : Address) (cs : List ResolvedScope) (xs : List ScopeName) → Collects a (all_name_occurrences s xs) b → AreKnown (keys a) s cs → AreKnown (keys b) s cs
known_kept a b s cs xs h known = record {
  names = λ t c at. record {
    present = λ n id found. key_extended (collects_extended (all_name_occurrences s xs) a b h) id (Def c.address n) ((known.names t c at).present n id found);
    has = λ j n jat. elim (collects_from (all_name_occurrences s xs) a b h j (Def c.address n) jat) [
      | inl before ↦ (known.names t c at).has before.0 n before.1
      | inr new ↦ absurd (known.others t c at (name_seen_in s xs c.address n new).0)
    ];
  };
  others = known.others;
}

pub defines_none : (es : List TypeDef) (cs : List ResolvedScope) (o : TypeOwner) (s : Address) (names : Names) → Defines es es cs o s names names []
defines_none es cs o s names = record { from = λ decls ms among distinct anew known m are_present. record { now = ms; collects = refl; occurrence = m; holds = (are_present, sym (append-nil (map (λ p. p.0) names))) } }

-- some names, and then others
pub defines_more : (old mid new : List TypeDef) (cs : List ResolvedScope) (o : TypeOwner) (s : Address) (a b c : Names) (xs ys : List ScopeName) → Defines old mid cs o s a b xs → Defines mid new cs o s b c ys → Defines old new cs o s a c (xs ++ ys)
defines_more old mid new cs o s a b c xs ys p q = record {
  from = λ decls ms among distinct anew known m are_present. (
      let distinct_left : AreDistinct xs = differ_by local_name xs (λ i j d e ati atj same. differ_at local_name (xs ++ ys) distinct i j d e (at_prefix xs ys i d ati) (at_prefix xs ys j e atj) same) in
      let distinct_right : AreDistinct ys = differ_by local_name ys (λ i j d e ati atj same. (let both = differ_at local_name (xs ++ ys) distinct (length xs + i) (length xs + j) d e (at_back xs ys i d ati) (at_back xs ys j e atj) same in omega arith)) in
      let x = p.from decls ms (λ i x at. among i x (at_prefix xs ys i x at)) distinct_left (record { new = λ i d at. anew.new i d (at_prefix xs ys i d at) }) known m are_present in
      let new_right : AreNew (keys x.now) s ys = record {
        new = λ i e at was. elim (collects_from (all_name_occurrences s xs) ms x.now x.collects was.0 (Def s (local_name e)) was.1) [
          | inl before ↦ anew.new (length xs + i) e (at_back xs ys i e at) before
          | inr inner ↦ (
              let d = (name_seen_in s xs s (local_name e) inner).1 in
              let both = differ_at local_name (xs ++ ys) distinct d.0 (length xs + i) d.1 e (at_prefix xs ys d.0 d.1 d.2) (at_back xs ys i e at) d.3 in
              let within = slice_get_within xs d.0 d.1 d.2 in
              omega arith)
        ];
      } in
      let y = q.from decls x.now (λ i x at. among (length xs + i) x (at_back xs ys i x at)) distinct_right new_right (known_kept ms x.now s cs xs x.collects known) x.occurrence x.holds.0 in
      record {
        now = y.now;
        collects = subst (λ l. Collects ms l y.now) (sym (flat_map-append (name_occurrences s) xs ys)) (collects_append (all_name_occurrences s xs) (all_name_occurrences s ys) ms x.now y.now x.collects y.collects);
        occurrence = y.occurrence;
        holds = (y.holds.0, y.holds.1 ∙ ap (λ ns. ns ++ local_names ys) x.holds.1 ∙ append_assoc (map (λ p. p.0) a) (local_names xs) (local_names ys) ∙ ap (λ ns. map (λ p. p.0) a ++ ns) (sym (map-append local_name xs ys)));
      });
}
