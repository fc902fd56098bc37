-- The list of occurrences, as it grows.
use Rattle.std.proofs.Common.{◌≡◌, ℕ, ◌+◌, List, [], ◌∷◌, ◌++◌, length, take, Some, None, ◌⊎◌, inl, inr, refl, sym, ap, ◌∙◌, subst, arith, length-append, suc, ◌↔◌, zero, Bool, true, false, not, cond, ◌&&◌, append_assoc, append-nil, Option, is_some, Contains}
use Rattle.wit_arena.proofs.Names.{Address, AreNames, Collects, Decls, Def, End, Env, Expr, Exprs, Extends, GivesPlaces, IsEntryOf, IsInterned, IsOccurrence, IsSeen, Key, More, Occurrence, Of, ScopeName, Span, Stability, TypeDef, TypeDefKind, Whole, about_name, all_seen, at_either, at_seam, at_within, differ_more, first_known, flat_map, keys, kind_of, length-map, local_name, map, map-append, seen, slice_get, slice_get_within, stability_at, take_prefix, take_seam, types_of, unnamed, AllDiffer, and_parts, both_ways, cases_Bool, cond-false, cond-true, filter, firsts, firsts_differ, not-true, not_from_false, not_from_true, Borrow, BorrowForm, FixedLengthListForm, Form, FutureForm, IsAnonymousForm, ListForm, MapForm, OptionForm, Own, ResultForm, StreamForm, TupleForm, option_to_list}
use Rattle.wit_arena.specs.Occurrences.{settled}
use Rattle.wit_arena.proofs.OneKind.{Extended, extended_trans, key_extended, all_at_injective}
use Rattle.wit_arena.proofs.Placing.{AreOver, entry_over, gives_in, gives_used, over_at, place_in}
use Rattle.wit_types.specs.declared.types.«Type».{«Type» as Ty}
use Rattle.wit_types.specs.declared.types.«Type».TheVariants.{Id}
use Rattle.wit_types.specs.declared.types.TypeDefKind.TheVariants as kind

pub keys-append : (ms ls : List Occurrence) → keys (ms ++ ls) ≡ keys ms ++ keys ls
keys-append ms ls = map-append (λ (m : Occurrence). m.key) ms ls

-- one occurrence after another
pub collects_append : (ks ls : List Occurrence) (a b c : List Occurrence) → Collects a ks b → Collects b ls c → Collects a (ks ++ ls) c
collects_append [] ls a b c h k = subst (λ x. Collects x ls c) h k
collects_append (x ∷ ks) ls a b c h k = elim h [
  | inl old ↦ inl (old.0, collects_append ks ls a b c old.1 k)
  | inr fresh ↦ inr (fresh.0, collects_append ks ls (a ++ x ∷ []) b c fresh.1 k)
]

pub collects_extended : (ks : List Occurrence) (a b : List Occurrence) → Collects a ks b → Extended (keys a) (keys b)
collects_extended [] a b h = record { more = []; is = ap keys h ∙ sym (append-nil (keys a)) }
collects_extended (x ∷ ks) a b h = elim h [
  | inl old ↦ collects_extended ks a b old.1
  | inr fresh ↦ (let step : Extended (keys a) (keys (a ++ x ∷ [])) = record { more = x.key ∷ []; is = keys-append a (x ∷ []) } in extended_trans step (collects_extended ks (a ++ x ∷ []) b fresh.1))
]

abbrev pub Has : List Key → Key → Type 0
Has [] k = ⊥
Has (x ∷ xs) k = (x ≡ k) ⊎ Has xs k

pub has_either : (xs ys : List Key) (k : Key) → Has (xs ++ ys) k → Has xs k ⊎ Has ys k
has_either [] ys k h = inr h
has_either (x ∷ xs) ys k h = elim h [ inl here ↦ inl (inl here) | inr rest ↦ elim (has_either xs ys k rest) [ inl a ↦ inl (inr a) | inr b ↦ inr b ] ]

-- a key that occurs in what elements of a list become occurs in what one of them becomes
pub has_from : {X : Type 0} (f : X → List Occurrence) (xs : List X) (k : Key) → Has (keys (flat_map f xs)) k → (j : ℕ) × (x : X) × (slice_get xs j ≡ Some x) × Has (keys (f x)) k
has_from f [] k h = absurd h
has_from f (x ∷ xs) k h = elim (has_either (keys (f x)) (keys (flat_map f xs)) k (subst (λ (ks : List Key). Has ks k) (keys-append (f x) (flat_map f xs)) h)) [
  | inl first ↦ (0, x, refl, first)
  | inr rest ↦ (let it = has_from f xs k rest in (suc it.0, it.1, it.2, it.3))
]

-- what is in the end was there before or occurred
pub collects_from : (ks : List Occurrence) (a b : List Occurrence) → Collects a ks b → (j : ℕ) (k : Key) → slice_get (keys b) j ≡ Some k → IsSeen (keys a) k ⊎ Has (keys ks) k
collects_from [] a b h j k at = inl (j, subst (λ l. slice_get (keys l) j ≡ Some k) h at)
collects_from (x ∷ ks) a b h j k at = elim h [
  | inl old ↦ elim (collects_from ks a b old.1 j k at) [ inl p ↦ inl p | inr q ↦ inr (inr q) ]
  | inr fresh ↦ elim (collects_from ks (a ++ x ∷ []) b fresh.1 j k at) [
    | inl p ↦ elim (at_either (keys a) x.key p.0 k (sym (ap (λ l. slice_get l p.0) (keys-append a (x ∷ []))) ∙ p.1)) [ inl before ↦ inl (p.0, before) | inr new ↦ inr (inl (sym new.1)) ]
    | inr q ↦ inr (inr q)
  ]
]

-- no definition occurs in an expression
mutual
  pub no_def : (e : Expr) (s : Address) (name : List ℕ) → Has (seen e) (Def s name) → ⊥
  no_def (Of form parts) s name h = elim (has_either (all_seen parts) (Whole form parts ∷ []) (Def s name) h) [
    | inl inner ↦ no_defs parts s name inner
    | inr last ↦ elim last [ inl here ↦ (let f : ⊥ = cc in f) | inr none ↦ none ]
  ]
  no_def _ s name h = h

  pub no_defs : (es : Exprs) (s : Address) (name : List ℕ) → Has (all_seen es) (Def s name) → ⊥
  no_defs End s name h = h
  no_defs (More e es) s name h = elim (has_either (seen e) (all_seen es) (Def s name) h) [ inl a ↦ no_def e s name a | inr b ↦ no_defs es s name b ]

pub names_kept : (a b more : List Occurrence) (s : Address) (env : Env) (es : Exprs) → keys more ≡ all_seen es → Collects a more b → AreNames (keys a) s env → AreNames (keys b) s env
names_kept a b more s env es same h names = record {
  present = λ name i is. key_extended (collects_extended more a b h) i (Def s name) (names.present name i is);
  has = λ j name at. elim (collects_from more a b h j (Def s name) at) [
    | inl before ↦ names.has before.0 name before.1
    | inr new ↦ absurd (no_defs es s name (subst (λ ks. Has ks (Def s name)) same new))
  ];
}

-- what is at one place of two lists that are as long, with one element more each
both_either : {X Y : Type 0} (us : List X) (u : X) (xs : List Y) (x : Y) → length xs ≡ length us → (i : ℕ) (a : X) (b : Y) → slice_get (us ++ u ∷ []) i ≡ Some a → slice_get (xs ++ x ∷ []) i ≡ Some b → ((slice_get us i ≡ Some a) × (slice_get xs i ≡ Some b)) ⊎ ((i ≡ length us) × (a ≡ u) × (b ≡ x))
both_either us u xs x count i a b at_a at_b = elim (at_either us u i a at_a) [
  | inl old_a ↦ elim (at_either xs x i b at_b) [
    | inl old_b ↦ inl (old_a, old_b)
    | inr new_b ↦ absurd (omega (arith, slice_get_within us i a old_a, new_b.0, count))
  ]
  | inr new_a ↦ elim (at_either xs x i b at_b) [
    | inl old_b ↦ absurd (omega (arith, slice_get_within xs i b old_b, new_a.0, count))
    | inr new_b ↦ inr (new_a.0, new_a.1, new_b.1)
  ]
]

-- the entry of what occurs over the places of these keys, after these entries
abbrev pub IsEntryOver : Decls → List Key → List TypeDef → Occurrence → TypeDef → Type 0
IsEntryOver decls ks es m e = (id : Key → ℕ) → GivesPlaces id ks → IsEntryOf (λ s. (decls s).0) (λ s. (decls s).1) id es m.key m.span m.given e

-- a name that occurs is where a name of its scope is
abbrev pub IsWhereNamed : Decls → Occurrence → Type 0
IsWhereNamed decls m = (s : Address) (name : List ℕ) → m.key ≡ Def s name → (x : ScopeName) × Contains (decls s).0 x × (local_name x ≡ name) × (m.span ≡ (about_name x).span)

-- what comes before the last
before_last : {X : Type 0} (xs : List X) (x : X) (n : ℕ) → n ≡ length xs → take n (xs ++ x ∷ []) ≡ xs
before_last xs x n at = ap (λ (k : ℕ). take k (xs ++ x ∷ [])) at ∙ take_seam xs (x ∷ [])

-- one occurrence more, with its entry
pub occurrence_more : {decls : Decls} {ms : List Occurrence} {es : List TypeDef} (m : Occurrence) (e : TypeDef) → IsOccurrence decls ms es → (IsSeen (keys ms) m.key → ⊥) → IsWhereNamed decls m → IsEntryOver decls (keys ms) es m e → IsOccurrence decls (ms ++ m ∷ []) (es ++ e ∷ [])
occurrence_more {decls} {ms} {es} m e before new named is = record {
  count = length-append es (e ∷ []) ∙ ap (λ n. n + 1) before.count ∙ sym (length-append ms (m ∷ []));
  once = subst AllDiffer (sym (keys-append ms (m ∷ []))) (differ_more (keys ms) m.key before.once (λ i at. new (i, at)));
  named = λ i x s name at. elim (at_either ms m i x at) [
    | inl old ↦ before.named i x s name old
    | inr last ↦ subst (λ (y : Occurrence). y.key ≡ Def s name → (z : ScopeName) × Contains (decls s).0 z × (local_name z ≡ name) × (y.span ≡ (about_name z).span)) (sym last.1) (named s name)
  ];
  each = λ i x f at there. elim (both_either ms m es e before.count i x f at there) [
    | inl old ↦ (
        let lt = slice_get_within ms i x old.0 in
        let ks = ap (take i) (keys-append ms (m ∷ [])) ∙ take_prefix (keys ms) (m.key ∷ []) i (let long = length-map ms (λ (y : Occurrence). y.key) in omega (arith, lt, long)) in
        let fs = take_prefix es (e ∷ []) i (let count = before.count in omega (arith, lt, count)) in
        rw (ks, fs) (before.each i x f old.0 old.1))
    | inr last ↦ (
        let ks = ap (take i) (keys-append ms (m ∷ [])) ∙ before_last (keys ms) m.key i (last.0 ∙ sym (length-map ms (λ (y : Occurrence). y.key))) in
        let fs = before_last es e i (last.0 ∙ sym before.count) in
        rw (ks, fs, last.1, last.2) is)
  ];
}

-- what occurs, and then more
pub extends_then : {decls : Decls} {ms a b : List Occurrence} {mid new : List TypeDef} {P Q : List Key → Type 0} (R : List Key → Type 0) (x : Extends decls ms a mid P) (y : Extends decls x.now b new Q) → R (keys y.now) → Extends decls ms (a ++ b) new R
extends_then {decls} {ms} {a} {b} {mid} {new} {P} {Q} R x y holds = record { now = y.now; collects = collects_append a b ms x.now y.now x.collects y.collects; occurrence = y.occurrence; holds = holds }

found_key : (decls : Decls) (ks : List Key) → AllDiffer ks → (es : List TypeDef) (k : Key) (span : Span) (given : Stability) (parts : Exprs) (e : TypeDef) → ((id : Key → ℕ) → GivesPlaces id ks → IsEntryOf (λ s. (decls s).0) (λ s. (decls s).1) id es k span given e) → e.name ≡ None → AreOver ks parts (kind_of e.kind).1 → k ≡ Whole (kind_of e.kind).0 parts
found_key decls ks differ es (Def s name) span given parts e h none at = absurd (let wrong = ap (λ (y : TypeDef). y.name) (h (place_in ks 0) (gives_in ks 0 differ)).5 in let f : ⊥ = cc in f)
found_key decls ks differ es (Whole form parts') span given parts e h none at =
    let same : (id : Key → ℕ) → GivesPlaces id ks → kind_of e.kind ≡ (form, types_of id parts') = λ id gives. ap (λ (y : TypeDef). kind_of y.kind) (h id gives).2 ∙ (h id gives).1 in
    let forms = ap (λ k. k.0) (same (place_in ks 0) (gives_in ks 0 differ)) in
    let inner = all_at_injective ks parts' parts (kind_of e.kind).1 (over_at ks differ parts' (kind_of e.kind).1 (λ id gives. ap (λ k. k.1) (same id gives))) (over_at ks differ parts (kind_of e.kind).1 at) in
    ap (λ (f : Form). Whole f parts') (sym forms) ∙ ap (Whole (kind_of e.kind).0) inner

-- this kind alone has its form and parts
pub record IsOnly (what : TypeDefKind) : Type 0 where
  pub same : (k : TypeDefKind) → (kind_of k).0 ≡ (kind_of what).0 → (kind_of k).1 ≡ (kind_of what).1 → k ≡ what

-- an unnamed type occurs, whether it was there or was added
pub occur_whole : (decls : Decls) (ms : List Occurrence) (old new : List TypeDef) (kind : TypeDefKind) (given : Stability) (span : Span) (parts : Exprs) (i : ℕ) → IsOnly kind → IsOccurrence decls ms old → AreOver (keys ms) parts (kind_of kind).1 → IsInterned old new kind given span i → Extends decls ms (record { key = Whole (kind_of kind).0 parts; span = span; given = given } ∷ []) new (λ ks. slice_get ks i ≡ Some (Whole (kind_of kind).0 parts))
occur_whole decls ms old new kind given span parts i only m at interned = elim interned.either [
  | inl found ↦ (
      let e = found.1.0 in
      let is = found.1.2 in
      let count = m.count ∙ sym (length-map ms (λ (y : Occurrence). y.key)) in
      let lt = slice_get_within old i e found.1.1.is in
      let key = at_within (keys ms) i (omega arith) in
      let at' = subst (λ (k : TypeDefKind). AreOver (keys ms) parts (kind_of k).1) (sym is.kind) at in
      let it = entry_over m i key.0 e key.1 found.1.1.is in
      let same = found_key decls (keys ms) m.once (take i old) key.0 it.0.span it.0.given parts e (λ id gives. it.3 id (gives_used id (keys ms) gives i)) is.name at' in
      let there : slice_get (keys ms) i ≡ Some (Whole (kind_of kind).0 parts) = key.1 ∙ ap Some same ∙ ap (λ (k : TypeDefKind). Some (Whole (kind_of k).0 parts)) is.kind in
      record { now = ms; collects = inl ((i, there), refl); occurrence = subst (IsOccurrence decls ms) (sym found.0) m; holds = there })
  | inr added ↦ (
      let key = Whole (kind_of kind).0 parts in
      let count = m.count ∙ sym (length-map ms (λ (y : Occurrence). y.key)) in
      let id = place_in (keys ms) 0 in
      let gives = gives_in (keys ms) 0 m.once in
      let fresh : IsSeen (keys ms) key → ⊥ = λ was. (
      let lt = slice_get_within (keys ms) was.0 key was.1 in
      let e = at_within old was.0 (omega arith) in
      let it = (entry_over m was.0 key e.0 was.1 e.1).3 id (gives_used id (keys ms) gives was.0) in
      let same = ap (λ (y : TypeDef). kind_of y.kind) it.2 ∙ it.1 in
      added.2 was.0 e.0 (record { is = e.1 }) (record { name = ap (λ (y : TypeDef). y.name) it.2; kind = only.same e.0.kind (ap (λ k. k.0) same) (ap (λ k. k.1) same ∙ sym (at id gives)) })) in
      let x : Occurrence = record { key = key; span = span; given = given } in
      record {
        now = ms ++ x ∷ [];
        collects = inr (fresh, refl);
        occurrence = subst (IsOccurrence decls (ms ++ x ∷ [])) (sym added.0) (occurrence_more x (unnamed kind (settled old given kind) span) m fresh (λ s name named. absurd (let f : ⊥ = cc in f)) (λ id gives. (kind, ap (λ (ts : List Ty). ((kind_of kind).0, ts)) (at id gives), ap (λ (ts : List Ty). unnamed kind (first_known (given ∷ map (stability_at old) ts)) span) (at id gives))));
        holds = rw (added.1, count) (ap (λ l. slice_get l (length (keys ms))) (keys-append ms (x ∷ [])) ∙ at_seam (keys ms) key);
      })
]

-- what occurs first, and what occurs after it
pub collects_split : (ks ls a c : List Occurrence) → Collects a (ks ++ ls) c → (b : List Occurrence) × Collects a ks b × Collects b ls c
collects_split [] ls a c h = (a, refl, h)
collects_split (x ∷ ks) ls a c h = elim h [
  | inl old ↦ (let it = collects_split ks ls a c old.1 in (it.0, inl (old.0, it.1), it.2))
  | inr fresh ↦ (let it = collects_split ks ls (a ++ x ∷ []) c fresh.1 in (it.0, inr (fresh.0, it.1), it.2))
]

-- it is one list
pub collects_one : (ks a b c : List Occurrence) → Collects a ks b → Collects a ks c → b ≡ c
collects_one [] a b c h k = h ∙ sym k
collects_one (x ∷ ks) a b c h k = elim h [
  | inl old ↦ elim k [ inl other ↦ collects_one ks a b c old.1 other.1 | inr fresh ↦ absurd (fresh.0 old.0) ]
  | inr fresh ↦ elim k [ inl old ↦ absurd (fresh.0 old.0) | inr other ↦ collects_one ks (a ++ x ∷ []) b c fresh.1 other.1 ]
]

-- where more occurs, there is more
pub collects_longer : (ks ls a b c : List Occurrence) → Collects a ks b → Collects a (ks ++ ls) c → Extended (keys b) (keys c)
collects_longer ks ls a b c h k =
    let it = collects_split ks ls a c k in
    subst (λ (ms : List Occurrence). Extended (keys ms) (keys c)) (collects_one ks a it.0 b it.1 h) (collects_extended ls it.0 c it.2)

-- What is first seen, as the first of each.
-- what two tests keep, one after the other, is what both keep
filter_both : {X : Type 0} (p q r : X → Bool) → ((x : X) → r x ≡ (q x && p x)) → (xs : List X) → filter p (filter q xs) ≡ filter r xs
filter_both p q r is [] = refl
filter_both p q r is (x ∷ xs) = rw (is x) (elim (q x) as (λ b. filter p (cond b (x ∷ filter q xs) (filter q xs)) ≡ cond (b && p x) (x ∷ filter r xs) (filter r xs)) [
  | true ↦ ap (λ l. cond (p x) (x ∷ l) l) (filter_both p q r is xs)
  | false ↦ filter_both p q r is xs
])

filter_all : {X : Type 0} (xs : List X) → filter (λ x. true) xs ≡ xs
filter_all [] = refl
filter_all (x ∷ xs) = ap (λ l. x ∷ l) (filter_all xs)

and_swap : (a b c : Bool) → (a && (b && c)) ≡ (b && (a && c))
and_swap true b c = refl
and_swap false true c = refl
and_swap false false c = refl

module _ (same : Key → Key → Bool) (gives : (a b : Key) → (same a b ≡ true) ↔ (a ≡ b)) where
  abbrev same_occurrence : Occurrence → Occurrence → Bool
  same_occurrence a b = same a.key b.key

  -- a key is that of none of these
  abbrev is_new : List Occurrence → Key → Bool
  is_new [] k = true
  is_new (m ∷ ms) k = not (same m.key k) && is_new ms k

  is_new-more : (ms : List Occurrence) (m : Occurrence) (k : Key) → is_new (ms ++ m ∷ []) k ≡ (not (same m.key k) && is_new ms k)
  is_new-more [] m k = refl
  is_new-more (x ∷ ms) m k = ap (λ b. not (same x.key k) && b) (is_new-more ms m k) ∙ and_swap (not (same x.key k)) (not (same m.key k)) (is_new ms k)

  new_determines : (ms : List Occurrence) (k : Key) → is_new ms k ≡ true → IsSeen (keys ms) k → ⊥
  new_determines [] k new (i, at) = absurd (let f : ⊥ = cc in f)
  new_determines (m ∷ ms) k new (zero, at) =
      let here : m.key ≡ k = cc in
      both_ways (same m.key k) (not-true (same m.key k) (and_parts (not (same m.key k)) (is_new ms k) new).0) ((gives m.key k).1 here)
  new_determines (m ∷ ms) k new (suc i, at) = new_determines ms k (and_parts (not (same m.key k)) (is_new ms k) new).1 (i, at)

  old_determines : (ms : List Occurrence) (k : Key) → is_new ms k ≡ false → IsSeen (keys ms) k
  old_determines [] k old = absurd (let f : ⊥ = cc in f)
  old_determines (m ∷ ms) k old = elim (cases_Bool (same m.key k)) [
    | inl hit ↦ (0, ap Some ((gives m.key k).0 hit))
    | inr miss ↦ (let it = old_determines ms k (ap (λ b. b && is_new ms k) (sym (not_from_false (same m.key k) miss)) ∙ old) in (suc it.0, it.1))
  ]

  abbrev new_of : List Occurrence → List Occurrence → List Occurrence
  new_of ms xs = filter (λ (y : Occurrence). is_new ms y.key) xs

  abbrev others : Occurrence → List Occurrence → List Occurrence
  others x xs = filter (λ (y : Occurrence). not (same x.key y.key)) xs

  -- what is none of these, after one of them
  new-old : (ms : List Occurrence) (x : Occurrence) (xs : List Occurrence) → is_new ms x.key ≡ false → new_of ms (x ∷ others x xs) ≡ new_of ms xs
  new-old ms x xs old =
      cond-false (is_new ms x.key) (x ∷ new_of ms (others x xs)) (new_of ms (others x xs)) old
      ∙ filter_both (λ (y : Occurrence). is_new ms y.key) (λ (y : Occurrence). not (same x.key y.key)) (λ (y : Occurrence). is_new ms y.key) (λ y. known y.key) xs
    where
      known : (k : Key) → is_new ms k ≡ (not (same x.key k) && is_new ms k)
      known k = elim (cases_Bool (same x.key k)) [
        | inl hit ↦ ap (is_new ms) (sym ((gives x.key k).0 hit)) ∙ old ∙ ap (λ b. b && is_new ms k) (sym (not_from_true (same x.key k) hit))
        | inr miss ↦ ap (λ b. b && is_new ms k) (sym (not_from_false (same x.key k) miss))
      ]

  -- and after one that is none of them
  new-fresh : (ms : List Occurrence) (x : Occurrence) (xs : List Occurrence) → is_new ms x.key ≡ true → new_of ms (x ∷ others x xs) ≡ x ∷ new_of (ms ++ x ∷ []) xs
  new-fresh ms x xs fresh =
      cond-true (is_new ms x.key) (x ∷ new_of ms (others x xs)) (new_of ms (others x xs)) fresh
      ∙ ap (λ l. x ∷ l) (filter_both (λ (y : Occurrence). is_new ms y.key) (λ (y : Occurrence). not (same x.key y.key)) (λ (y : Occurrence). is_new (ms ++ x ∷ []) y.key) (λ y. is_new-more ms x y.key) xs)

  -- what occurs anew is the first of each that is none of what occurred
  collects_firsts : (ms ks : List Occurrence) → Collects ms ks (ms ++ new_of ms (firsts same_occurrence ks))
  collects_firsts ms [] = append-nil ms
  collects_firsts ms (x ∷ ks) = elim (cases_Bool (is_new ms x.key)) [
    | inl fresh ↦ (
        let now = ms ++ x ∷ [] in
        let is : now ++ new_of now (firsts same_occurrence ks) ≡ ms ++ new_of ms (firsts same_occurrence (x ∷ ks)) = append_assoc ms (x ∷ []) (new_of now (firsts same_occurrence ks)) ∙ ap (λ l. ms ++ l) (sym (new-fresh ms x (firsts same_occurrence ks) fresh)) in
        inr (new_determines ms x.key fresh, subst (Collects now ks) is (collects_firsts now ks)))
    | inr old ↦ (
        let is : ms ++ new_of ms (firsts same_occurrence ks) ≡ ms ++ new_of ms (firsts same_occurrence (x ∷ ks)) = ap (λ l. ms ++ l) (sym (new-old ms x (firsts same_occurrence ks) old)) in
        inl (old_determines ms x.key old, subst (Collects ms ks) is (collects_firsts ms ks)))
  ]

  pub firsts-collects : (all : List Occurrence) → Collects [] all (firsts (λ a b. same a.key b.key) all)
  firsts-collects all = subst (Collects [] all) (filter_all (firsts same_occurrence all)) (collects_firsts [] all)

  pub collects-firsts : (all seen : List Occurrence) → Collects [] all seen → seen ≡ firsts (λ a b. same a.key b.key) all
  collects-firsts all seen collects = collects_one all [] seen (firsts same_occurrence all) collects (firsts-collects all)

  -- no key occurs twice in them
  pub firsts-differ : (all : List Occurrence) → AllDiffer (keys (firsts (λ a b. same a.key b.key) all))
  firsts-differ all = firsts_differ same_occurrence (λ (m : Occurrence). m.key) (λ x y is. (gives x.key y.key).1 is) (λ x y is. (gives x.key y.key).0 is) all

-- Kinds and their forms and parts.
-- the kind of an unnamed type from its form and parts
abbrev kind_from : Form → List Ty → TypeDefKind
kind_from BorrowForm (Id r ∷ []) = kind.Handle (Borrow r)
kind_from TupleForm ts = kind.Tuple (record { types = ts })
kind_from OptionForm (t ∷ []) = kind.Option t
kind_from (ResultForm true true) (t ∷ u ∷ []) = kind.Result (record { ok = Some t; err = Some u })
kind_from (ResultForm true false) (t ∷ []) = kind.Result (record { ok = Some t; err = None })
kind_from (ResultForm false true) (u ∷ []) = kind.Result (record { ok = None; err = Some u })
kind_from (ResultForm false false) [] = kind.Result (record { ok = None; err = None })
kind_from ListForm (t ∷ []) = kind.List t
kind_from MapForm (t ∷ u ∷ []) = kind.Map t u
kind_from (FixedLengthListForm n) (t ∷ []) = kind.FixedLengthList t n
kind_from (FutureForm true) (t ∷ []) = kind.Future (Some t)
kind_from (FutureForm false) [] = kind.Future None
kind_from (StreamForm true) (t ∷ []) = kind.Stream (Some t)
kind_from (StreamForm false) [] = kind.Stream None
kind_from _ _ = kind.Unknown

result_again : (ok err : Option Ty) → kind_from (ResultForm (is_some ok) (is_some err)) (option_to_list ok ++ option_to_list err) ≡ kind.Result (record { ok = ok; err = err })
result_again (Some t) (Some u) = refl
result_again (Some t) None = refl
result_again None (Some u) = refl
result_again None None = refl

-- it is found again
kind_again : (k : TypeDefKind) → IsAnonymousForm (kind_of k).0 → kind_from (kind_of k).0 (kind_of k).1 ≡ k
kind_again (kind.Result r) h = result_again r.ok r.err
kind_again (kind.Handle (Own r)) h = absurd h
kind_again (kind.Future None) h = refl
kind_again (kind.Stream None) h = refl
kind_again k h = search

-- the form and parts of an unnamed type are those of no other kind
pub only_anonymous : (what : TypeDefKind) → IsAnonymousForm (kind_of what).0 → IsOnly what
only_anonymous what anonymous = record {
  same = λ k form parts. sym (kind_again k (subst IsAnonymousForm (sym form) anonymous)) ∙ ap (λ f. kind_from f (kind_of k).1) form ∙ ap (kind_from (kind_of what).0) parts ∙ kind_again what anonymous;
}
