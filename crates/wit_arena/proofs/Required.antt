-- What handles require of other packages: what is given by the arena is what the files say.
use Rattle.std.proofs.Common.{◌≡◌, ℕ, ◌+◌, List, [], ◌∷◌, ◌++◌, length, map, Option, Some, None, ◌⊎◌, inl, inr, refl, sym, ap, ◌∙◌, subst, arith, zero, suc, length-append}
use Rattle.wit_arena.proofs.Names.{Address, AllZip, AreEnded, AreNames, AreRequired, Decls, Def, Env, HandleRequires, Id, IsOccurrence, IsResource, Key, Occurrence, OneByOne, PackageFile, Required, TypeDef, at_split, cons_option, filter_map, filter_map-append, keys, slice_get, slice_get_within}
use Rattle.wit_arena.specs.Kind as ends
use Rattle.wit_arena.proofs.OneKind.{Extended, key_extended}
use Rattle.wit_arena.proofs.Ends.{IsDeclared, entry_end-more, end_source}

-- those of names, and of further ones
pub ended_append : (env : Env) (es : List TypeDef) (ids more : List Id) (rs new : List Required) → AreEnded env es ids rs → AreEnded env es more new → AreEnded env es (ids ++ more) (rs ++ new)
ended_append env es [] more rs new h k = subst (λ (x : List Required). AreEnded env es more (x ++ new)) (sym h) k
ended_append env es (id ∷ ids) more rs new (place, steps, present, inl own) k = (place, steps, present, inl (own.0, ended_append env es ids more rs new own.1 k))
ended_append env es (id ∷ ids) more rs new (place, steps, present, inr far) k = (place, steps, present, inr (far.0, far.1 ++ new, far.2, ap (λ (x : List Required). x ++ new) far.3, ended_append env es ids more far.1 new far.4 k))

-- what is at one place of two lists, each after another, where the first ones are as long
pub both_parts : {X Y : Type 0} (us vs : List X) (xs ys : List Y) → length xs ≡ length us → (t : ℕ) (a : X) (x : Y) → slice_get (us ++ vs) t ≡ Some a → slice_get (xs ++ ys) t ≡ Some x → ((slice_get us t ≡ Some a) × (slice_get xs t ≡ Some x)) ⊎ ((j : ℕ) × (slice_get vs j ≡ Some a) × (slice_get ys j ≡ Some x))
both_parts us vs xs ys count t a x at there = elim (at_split us vs t a at) [
  | inl h ↦ elim (at_split xs ys t x there) [
    | inl g ↦ inl (h, g)
    | inr g ↦ absurd (let lt = slice_get_within us t a h in let spot = g.1 in let f : ⊥ = omega (arith, lt, spot, count) in f)
  ]
  | inr h ↦ elim (at_split xs ys t x there) [
    | inl g ↦ absurd (let lt = slice_get_within xs t x g in let spot = h.1 in let f : ⊥ = omega (arith, lt, spot, count) in f)
    | inr g ↦ (let p = h.1 in let q = g.1 in let same : h.0 ≡ g.0 = omega (arith, p, q, count) in inr (h.0, h.2, ap (slice_get ys) same ∙ g.2))
  ]
]

-- lists whose elements belong together, one by one: none, one more in front, and others after them
pub one_by_one-none : {X Y : Type 0} (Holds : X → Y → Type 0) → OneByOne Holds [] []
one_by_one-none Holds = record { count = refl; each = λ k x y at. absurd (let f : ⊥ = cc in f) }

pub one_by_one-more : {X Y : Type 0} (Holds : X → Y → Type 0) (x : X) (y : Y) (xs : List X) (ys : List Y) → Holds x y → OneByOne Holds xs ys → OneByOne Holds (x ∷ xs) (y ∷ ys)
one_by_one-more {X} {Y} Holds x y xs ys first rest = record { count = ap suc rest.count; each = each }
  where
    each : (k : ℕ) (u : X) (v : Y) → slice_get (x ∷ xs) k ≡ Some u → slice_get (y ∷ ys) k ≡ Some v → Holds u v
    each zero u v at there =
        let one : x ≡ u = cc in
        let two : y ≡ v = cc in
        subst (λ (z : X). Holds z v) one (subst (Holds x) two first)
    each (suc k) u v at there = rest.each k u v at there

pub one_by_one-append : {X Y : Type 0} (Holds : X → Y → Type 0) (xs us : List X) (ys vs : List Y) → OneByOne Holds xs ys → OneByOne Holds us vs → OneByOne Holds (xs ++ us) (ys ++ vs)
one_by_one-append Holds xs us ys vs p q = record {
  count = omega (arith, length-append ys vs, length-append xs us, p.count, q.count);
  each = λ k x y at there. elim (both_parts xs us ys vs p.count k x y at there) [
    | inl h ↦ p.each k x y h.0 h.1
    | inr h ↦ q.each h.0 x y h.1 h.2
  ];
}

-- lists that belong together, one after another
pub zip_both : {X Y : Type 0} (R : X → Y → Type 0) (us vs : List X) (xs ys : List Y) → AllZip R us xs → AllZip R vs ys → AllZip R (us ++ vs) (xs ++ ys)
zip_both R [] vs [] ys h k = k
zip_both R (u ∷ us) vs (x ∷ xs) ys h k = (h.0, zip_both R us vs xs ys h.1 k)
zip_both R us vs xs ys h k = absurd h

pub zip_weaker : {X Y : Type 0} (R S : X → Y → Type 0) → ((x : X) (y : Y) → R x y → S x y) → (xs : List X) (ys : List Y) → AllZip R xs ys → AllZip S xs ys
zip_weaker R S f [] [] h = tt
zip_weaker R S f (x ∷ xs) (y ∷ ys) h = (f x y h.0, zip_weaker R S f xs ys h.1)
zip_weaker R S f xs ys h = absurd h

-- of no names nothing is required
pub required_none : (files : List PackageFile) (ks : List Key) → AreRequired files ks [] []
required_none files ks = ([], tt, refl)

-- what one name more requires comes first
pub required_more : (files : List PackageFile) (ks : List Key) (h : Address × Id) (r : Option Required) (hs : List (Address × Id)) (rs : List Required) → HandleRequires files ks h r → AreRequired files ks hs rs → AreRequired files ks (h ∷ hs) (cons_option r rs)
required_more files ks h r hs rs own rest = (r ∷ rest.0, (own, rest.1), ap (cons_option r) rest.2)

pub required_append : (files : List PackageFile) (ks : List Key) (hs more : List (Address × Id)) (rs new : List Required) → AreRequired files ks hs rs → AreRequired files ks more new → AreRequired files ks (hs ++ more) (rs ++ new)
required_append files ks hs more rs new h k = (
  h.0 ++ k.0,
  zip_both (HandleRequires files ks) hs more h.0 k.0 h.1 k.1,
  ap (λ (l : List Required). l ++ new) h.2 ∙ ap (λ (l : List Required). filter_map (λ (r : Option Required). r) h.0 ++ l) k.2 ∙ sym (filter_map-append (λ (r : Option Required). r) h.0 k.0),
)

-- in a grown arena, and with more names, they are what they were
pub ended_more : (env env' : Env) (es more : List TypeDef) (ids : List Id) (rs : List Required) → ((name : List ℕ) (i : ℕ) → env name ≡ Some i → env' name ≡ Some i) → AreEnded env es ids rs → AreEnded env' (es ++ more) ids rs
ended_more env env' es more [] rs keep h = h
ended_more env env' es more (id ∷ ids) rs keep (place, steps, present, inl own) = (place, steps, keep id.name.now place present, inl (entry_end-more steps es more place IsResource (λ wrong. let f : ⊥ = cc in f) own.0, ended_more env env' es more ids rs keep own.1))
ended_more env env' es more (id ∷ ids) rs keep (place, steps, present, inr far) = (place, steps, keep id.name.now place present, inr (far.0, far.1, entry_end-more steps es more place (ends.IsUnknown far.0) (λ wrong. let f : ⊥ = cc in f) far.2, far.3, ended_more env env' es more ids far.1 keep far.4))

-- where more occurred, too
pub required_extended : (files : List PackageFile) {a b : List Key} → Extended a b → (hs : List (Address × Id)) (rs : List Required) → AreRequired files a hs rs → AreRequired files b hs rs
required_extended files {a} {b} g hs rs h = (h.0, zip_weaker (HandleRequires files a) (HandleRequires files b) extended hs h.0 h.1, h.2)
  where
    extended : (x : Address × Id) (r : Option Required) → HandleRequires files a x r → HandleRequires files b x r
    extended x None own = own
    extended x (Some r) far = (far.0, far.1, far.2, key_extended g r.0 (Def far.0 far.1) far.3, far.4)

-- a name in a handle, with its scope
abbrev pub in_scope : Address → Id → Address × Id
in_scope s id = (s, id)

module _ (files : List PackageFile) (decls : Decls) (ms : List Occurrence) (es : List TypeDef) (m : IsOccurrence decls ms es) (scopes : (j : ℕ) (t : Address) (name : List ℕ) → slice_get (keys ms) j ≡ Some (Def t name) → IsDeclared files decls t) (s : Address) (env : Env) (names : AreNames (keys ms) s env) where
  abbrev ks : List Key
  ks = keys ms

  -- what is required is what the files say
  pub ended_required : (ids : List Id) (rs : List Required) → AreEnded env es ids rs → AreRequired files ks (map (in_scope s) ids) rs
  ended_required [] rs h = subst (AreRequired files ks []) (sym h) (required_none files ks)
  ended_required (id ∷ ids) rs (place, steps, present, inl own) = required_more files ks (s, id) None (map (in_scope s) ids) rs (end_source files decls ms es m scopes steps place s id IsResource (names.present id.name.now place present) own.0) (ended_required ids rs own.1)
  ended_required (id ∷ ids) rs (place, steps, present, inr far) =
      let it = end_source files decls ms es m scopes steps place s id (ends.IsUnknown far.0) (names.present id.name.now place present) far.2 in
      subst (AreRequired files ks (map (in_scope s) (id ∷ ids))) (sym far.3) (required_more files ks (s, id) (Some (far.0, id.span)) (map (in_scope s) ids) far.1 (it.0, it.1, it.3, it.2, refl) (ended_required ids far.1 far.4))
