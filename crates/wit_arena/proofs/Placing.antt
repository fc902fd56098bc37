-- Where a function gives the place of each key, it gives the types of all expressions, and the entries of the arena.
use Rattle.std.proofs.Common.{◌≡◌, ◌↔◌, ℕ, zero, suc, Bool, true, false, List, [], ◌∷◌, take, Some, if◌then◌else◌, inl, inr, refl, sym, ap, ◌∙◌, subst, arith}
use Rattle.wit_arena.proofs.Names.{Address, AllDiffer, AreAt, AreDistinct, Decls, Def, End, Expr, Exprs, GivesPlaces, IsAt, IsEntry, IsEntryOf, IsKeyed, IsOccurrence, Key, More, Occurrence, Of, Prim, ScopeName, TypeDef, Use, Whole, about_name, at_contains, at_take, cases_Bool, cond-false, cond-true, differ_at, entry, keys, kind_of, length-map, map_at, name_exprs, position_or_len, slice_get, type_of, types_of}
use Rattle.wit_types.specs.declared.types.«Type».{«Type» as Ty}
use Rattle.wit_types.specs.declared.types.«Type».TheVariants.{Id}
use Rattle.wit_arena.proofs.Interfaces.{prefix_len-only}
use Rattle.wit_arena.proofs.OneKind.{Extended, key_extended}
use Rattle.wit_arena.proofs.OneMadeArena.{one_called}
use Rattle.wit_arena.proofs.SameKeys.{same_key, same_key_determines}

module _ (same : Key → Key → Bool) (gives : (a b : Key) → (same a b ≡ true) ↔ (a ≡ b)) (seen : List Occurrence) (id : Key → ℕ) (places : (k : Key) → id k ≡ position_or_len (λ (m : Occurrence). same k m.key) seen) where
  -- where none occurs twice, the first that is the same is the one
  pub gives_places : AllDiffer (keys seen) → GivesPlaces id (keys seen)
  gives_places differ = record {
    at = λ i k at. (
        let m = map_at (λ (m : Occurrence). m.key) seen i k at in
        places k ∙ prefix_len-only (λ (y : Occurrence). same k y.key) seen i m.0 m.1 ((gives k m.0.key).1 (sym m.2)) (λ j y at_y is. differ_at (λ (m : Occurrence). m.key) seen differ j i y m.0 at_y m.1 (sym ((gives k y.key).0 is) ∙ sym m.2)));
  }

module _ (id : Key → ℕ) (ks : List Key) (gives : GivesPlaces id ks) where
  -- so it does of the first of them
  pub gives_used : (n : ℕ) → GivesPlaces id (take n ks)
  gives_used n = record { at = λ i k at. gives.at i k (at_take ks n i k at).0 }

  pub at-type_of : (e : Expr) (t : Ty) → IsAt ks e t → t ≡ type_of id e
  at-type_of (Prim p) t h = h
  at-type_of (Use s name) t h = h.1 ∙ ap Id (sym (gives.at h.0 (Def s name) h.2))
  at-type_of (Of form parts) t h = h.1 ∙ ap Id (sym (gives.at h.0 (Whole form parts) h.2))

  pub all_at-types_of : (es : Exprs) (ts : List Ty) → AreAt ks es ts → ts ≡ types_of id es
  all_at-types_of End [] h = refl
  all_at-types_of (More e es) (t ∷ ts) h = ap (λ x. x ∷ ts) (at-type_of e t h.0) ∙ ap (λ l. type_of id e ∷ l) (all_at-types_of es ts h.1)
  all_at-types_of _ ts h = absurd h

-- so it does of fewer keys
pub gives_fewer : {a b : List Key} → Extended a b → (id : Key → ℕ) → GivesPlaces id b → GivesPlaces id a
gives_fewer g id gives = record { at = λ i k at. gives.at i k (key_extended g i k at) }

-- the place of a key among these; one that is not among them comes so far after them
abbrev pub place_in : List Key → ℕ → Key → ℕ
place_in [] far k = far
place_in (x ∷ ks) far k = if same_key k x then 0 else suc (place_in ks far k)

module _ (x : Key) (ks : List Key) (far : ℕ) (k : Key) where
  first_place : same_key k x ≡ true → slice_get (x ∷ ks) (place_in (x ∷ ks) far k) ≡ Some k
  first_place hit = ap (slice_get (x ∷ ks)) (cond-true (same_key k x) 0 (suc (place_in ks far k)) hit) ∙ ap Some (sym ((same_key_determines k x).0 hit))

  next_place : same_key k x ≡ false → place_in (x ∷ ks) far k ≡ suc (place_in ks far k)
  next_place miss = cond-false (same_key k x) 0 (suc (place_in ks far k)) miss

-- a key that is among them is at its place
place_found : (ks : List Key) (far i : ℕ) (k : Key) → slice_get ks i ≡ Some k → slice_get ks (place_in ks far k) ≡ Some k
place_found [] far i k at = absurd (let f : ⊥ = cc in f)
place_found (x ∷ ks) far zero k at = first_place x ks far k ((same_key_determines k x).1 (let same : k ≡ x = cc in same))
place_found (x ∷ ks) far (suc i) k at = elim (cases_Bool (same_key k x)) [
  | inl hit ↦ first_place x ks far k hit
  | inr miss ↦ ap (slice_get (x ∷ ks)) (next_place x ks far k miss) ∙ place_found ks far i k at
]

pub gives_in : (ks : List Key) (far : ℕ) → AllDiffer ks → GivesPlaces (place_in ks far) ks
gives_in ks far differ = record { at = λ i k at. differ.differ (place_in ks far k) i k (place_found ks far i k at) at }

-- a key whose place does not depend on what is not among them is among them
pub place_seen : (ks : List Key) (k : Key) → place_in ks 0 k ≡ place_in ks 1 k → slice_get ks (place_in ks 0 k) ≡ Some k
place_seen [] k same = absurd (let wrong : 0 ≡ 1 = same in omega (arith, wrong))
place_seen (x ∷ ks) k same = elim (cases_Bool (same_key k x)) [
  | inl hit ↦ first_place x ks 0 k hit
  | inr miss ↦ ap (slice_get (x ∷ ks)) (next_place x ks 0 k miss) ∙ place_seen ks k (let both = sym (next_place x ks 0 k miss) ∙ same ∙ next_place x ks 1 k miss in omega (arith, both))
]

same_id : {i j : ℕ} → Id i ≡ Id j → i ≡ j
same_id e = cc

-- so a type that does not depend on that is at its place
pub at_places : (ks : List Key) (e : Expr) (t : Ty) → t ≡ type_of (place_in ks 0) e → t ≡ type_of (place_in ks 1) e → IsAt ks e t
at_places ks (Prim p) t first second = first
at_places ks (Use s name) t first second = (place_in ks 0 (Def s name), first, place_seen ks (Def s name) (same_id (sym first ∙ second)))
at_places ks (Of form parts) t first second = (place_in ks 0 (Whole form parts), first, place_seen ks (Whole form parts) (same_id (sym first ∙ second)))

-- over the places of some keys, whatever others may be, these are the types of expressions
abbrev pub AreOver : List Key → Exprs → List Ty → Type 0
AreOver ks es ts = (id : Key → ℕ) → GivesPlaces id ks → ts ≡ types_of id es

all_at_places : (ks : List Key) (es : Exprs) (ts : List Ty) → ts ≡ types_of (place_in ks 0) es → ts ≡ types_of (place_in ks 1) es → AreAt ks es ts
all_at_places ks End [] first second = tt
all_at_places ks (More e es) (t ∷ ts) first second = (at_places ks e t (cc) (cc), all_at_places ks es ts (cc) (cc))
all_at_places ks es ts first second = absurd (let f : ⊥ = cc in f)

-- so they are at their places
pub over_at : (ks : List Key) → AllDiffer ks → (es : Exprs) (ts : List Ty) → AreOver ks es ts → AreAt ks es ts
over_at ks differ es ts over = all_at_places ks es ts (over (place_in ks 0) (gives_in ks 0 differ)) (over (place_in ks 1) (gives_in ks 1 differ))

module _ {decls : Decls} {ms : List Occurrence} {es : List TypeDef} (o : IsOccurrence decls ms es) where
  -- the entry of a key, and where it occurs
  pub entry_over : (i : ℕ) (k : Key) (e : TypeDef) → slice_get (keys ms) i ≡ Some k → slice_get es i ≡ Some e → (m : Occurrence) × (slice_get ms i ≡ Some m) × (m.key ≡ k) × ((id : Key → ℕ) → GivesPlaces id (take i (keys ms)) → IsEntryOf (λ s. (decls s).0) (λ s. (decls s).1) id (take i es) k m.span m.given e)
  entry_over i k e key there =
      let m = map_at (λ (m : Occurrence). m.key) ms i k key in
      (m.0, m.1, m.2, λ id gives. subst (λ (x : Key). IsEntryOf (λ s. (decls s).0) (λ s. (decls s).1) id (take i es) x m.0.span m.0.given e) m.2 (o.each i m.0 e m.1 there id gives))

  differ_used : (n : ℕ) → AllDiffer (take n (keys ms))
  differ_used n = record { differ = λ i j k at_i at_j. o.once.differ i j k (at_take (keys ms) n i k at_i).0 (at_take (keys ms) n j k at_j).0 }

  -- where the names of each scope are distinct, each entry is that of its key, whose parts are at their places
  module _ (distinct : (j : ℕ) (s : Address) (name : List ℕ) → slice_get (keys ms) j ≡ Some (Def s name) → AreDistinct (decls s).0) where
    entry_keyed : (i : ℕ) (k : Key) (e : TypeDef) → slice_get (keys ms) i ≡ Some k → slice_get es i ≡ Some e → IsEntry decls (take i (keys ms)) k e
    entry_keyed i (Def s name) e key there =
        let ks = take i (keys ms) in
        let m = entry_over i (Def s name) e key there in
        let n = o.named i m.0 s name m.1 m.2 in
        let p = at_contains (decls s).0 n.0 n.1 in
        let same : (id : Key → ℕ) → GivesPlaces id ks → (kind_of e.kind ≡ ((about_name n.0).body.form, types_of id (name_exprs s n.0))) × (e ≡ entry (Some name) (decls s).1 (about_name n.0).metadata m.0.span e.kind) = λ id gives. (
        let h = m.3 id gives in
        let x = one_called (decls s).0 (distinct i s name key) h.0 n.0 h.2 n.1 (h.3 ∙ sym n.2) in
        let kind = ap (λ (y : TypeDef). y.kind) h.5 in
        (ap kind_of kind ∙ h.4 ∙ ap (λ (y : ScopeName). ((about_name y).body.form, types_of id (name_exprs s y))) x, h.5 ∙ ap (λ (y : ScopeName). entry (Some name) (decls s).1 (about_name y).metadata m.0.span h.1) x ∙ ap (entry (Some name) (decls s).1 (about_name n.0).metadata m.0.span) (sym kind))) in
        let it = same (place_in ks 0) (gives_in ks 0 (differ_used i)) in
        let parts = over_at ks (differ_used i) (name_exprs s n.0) (kind_of e.kind).1 (λ id gives. ap (λ k. k.1) (same id gives).0) in
        (p.0, n.0, p.1, n.2, ap (λ (y : TypeDef). y.name) it.1, ap (λ (y : TypeDef). y.span) it.1 ∙ n.3, ap (λ (y : TypeDef). y.owner) it.1, ap (λ k. k.0) it.0, parts, record { docs = ap (λ (y : TypeDef). y.docs) it.1; stability = ap (λ (y : TypeDef). y.stability) it.1; external_id = ap (λ (y : TypeDef). y.external_id) it.1 })
    entry_keyed i (Whole form parts) e key there =
        let ks = take i (keys ms) in
        let m = entry_over i (Whole form parts) e key there in
        let it = m.3 (place_in ks 0) (gives_in ks 0 (differ_used i)) in
        let same : (id : Key → ℕ) → GivesPlaces id ks → kind_of e.kind ≡ (form, types_of id parts) = λ id gives. ap (λ (y : TypeDef). kind_of y.kind) (m.3 id gives).2 ∙ (m.3 id gives).1 in
        (ap (λ (y : TypeDef). y.name) it.2, ap (λ (y : TypeDef). y.owner) it.2, ap (λ k. k.0) (same (place_in ks 0) (gives_in ks 0 (differ_used i))), over_at ks (differ_used i) parts (kind_of e.kind).1 (λ id gives. ap (λ k. k.1) (same id gives)))

    pub keyed_by : IsKeyed decls (keys ms) es
    keyed_by = record { count = o.count ∙ sym (length-map ms (λ (m : Occurrence). m.key)); once = o.once; each = entry_keyed }
