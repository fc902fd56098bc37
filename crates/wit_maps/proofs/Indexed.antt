-- What an index of keys finds.
use Rattle.std.proofs.Common.{◌≡◌, ◌⊎◌, ℕ, zero, suc, ◌+◌, ◌<◌, Bool, true, false, cond, not, nat_lt, List, [], ◌∷◌, ◌++◌, length, slice_get, slice_set, option_map, subst, position, Some, None, Option, refl, sym, ap, ◌∙◌, arith, unwrap_or, inl, inr, lt-ltb, le-ltb, true≢false, IsTrue, IfSome, IfNone, Box}
use native.Mathlib.Decide.{dec_lt}
use Rattle.std.proofs.lemmas.Bool.{cases_Bool}
use Rattle.std.specs.Bool.{MatchBool}
use Rattle.std.specs.BTreeMap.{BTreeMap, get}
use Rattle.std.proofs.lemmas.Option.{slice_get-map, slice_get_within}
use Rattle.std.specs.List.{position_or_len}
use Rattle.std.specs.Map.{keys_of, lookup}
use Rattle.indexmap.specs.IndexMap.{insert_entry, set_value_at}
use Rattle.indexmap.proofs.MapLemmas.{Found-position, Missing-position, insert_entry-first, insert_entry-absent}
use Rattle.std.specs.declared.cmp.Ordering.{Ordering}
use Rattle.std.specs.declared.alloc.Global.{Global}
use Rattle.wit_maps.specs.declared.index.Index.{Index}
use Rattle.wit_maps.specs.Indexed.{AreApart, AreKnown, IsFoundOrNew, IsIndexed, IsKept, IsKeptWith, IsKnown}
use Rattle.wit_maps.specs.Slots.{key_hash_of, home_of, AreFilled, IsAt, IsFull, IsNear, IsNotAt, IsNowhere, IsNowhereNear, IsRoom}

same_key : {A : Type 0} {x y : A} → Some x ≡ Some y → x ≡ y
same_key {A} {x} e = ap (λ r. unwrap_or r x) e

-- whether the key at a place passes
pub stated_at : {K : Type 0} (t : K → Bool) (ks : List K) (i : ℕ) (k : K) → slice_get ks i ≡ Some k → (b : Bool) → b ≡ t k → MatchBool b (IsAt t ks i) (IsNotAt t ks i)
stated_at t ks i k at true is = (k, at, sym is)
stated_at t ks i k at false is = λ l there. ap t (same_key (sym there ∙ at)) ∙ sym is

module _ {K : Type 0} (t : K → Bool) where
  -- no key before a place passes
  abbrev pub NoneBefore : List K → ℕ → Type 0
  NoneBefore ks i = (j : ℕ) (l : K) → j < i → slice_get ks j ≡ Some l → t l ≡ false

  or_len_here : (ks : List K) (i : ℕ) → NoneBefore ks i → IsAt t ks i → position_or_len t ks ≡ i
  or_len_here [] i none at = absurd (let e = at.1 in let f : ⊥ = cc in f)
  or_len_here (x ∷ ks) zero none at = ap (λ b. cond (not b) (1 + position_or_len t ks) 0) (ap t (same_key at.1) ∙ at.2)
  or_len_here (x ∷ ks) (suc i) none at =
      ap (λ b. cond (not b) (1 + position_or_len t ks) 0) (none zero x (omega arith) refl)
      ∙ ap (λ n. 1 + n) (or_len_here ks i (λ j l before. none (suc j) l (omega (arith, before))) at) ∙ omega arith

  within : (ks : List K) (i : ℕ) → IsAt t ks i → i < length ks
  within [] i at = absurd (let e = at.1 in let f : ⊥ = cc in f)
  within (x ∷ ks) zero at = omega arith
  within (x ∷ ks) (suc i) at = omega (arith, within ks i at)

  or_len_nowhere : (ks : List K) → ((j : ℕ) (l : K) → slice_get ks j ≡ Some l → t l ≡ false) → position_or_len t ks ≡ length ks
  or_len_nowhere [] none = refl
  or_len_nowhere (x ∷ ks) none =
      ap (λ b. cond (not b) (1 + position_or_len t ks) 0) (none zero x refl)
      ∙ ap (λ n. 1 + n) (or_len_nowhere ks (λ j. none (suc j))) ∙ omega arith

  pub position_here : (ks : List K) (i : ℕ) → NoneBefore ks i → IsAt t ks i → position t ks ≡ Some i
  position_here ks i none at = ap (λ n. cond (nat_lt n (length ks)) (Some n) None) (or_len_here ks i none at) ∙ ap (λ b. cond b (Some i) None) (lt-ltb i _ (within ks i at))

  pub position_nowhere : (ks : List K) → ((j : ℕ) (l : K) → slice_get ks j ≡ Some l → t l ≡ false) → position t ks ≡ None
  position_nowhere ks none = ap (λ n. cond (nat_lt n (length ks)) (Some n) None) (or_len_nowhere ks none) ∙ ap (λ b. cond b (Some (length ks)) None) (le-ltb (length ks) (length ks) (omega arith))

-- that a test passes as a key does
abbrev pub IsTestOf : {K : Type 0} → (K → K → Bool) → (K → Bool) → Type 0
IsTestOf {K} eq t = (x y : K) → IsTrue (t x) → t y ≡ eq x y

module _ {K : Type 0} (eq : K → K → Bool) (ks : List K) (apart : AreApart eq ks) (t : K → Bool) (same : IsTestOf eq t) where
  none_before : (i : ℕ) → IsAt t ks i → NoneBefore t ks i
  none_before i at j l before there = elim (cases_Bool (t l)) [
    | inl hit ↦ absurd (true≢false (sym at.2 ∙ same l at.0 hit ∙ apart j i l at.0 before there at.1))
    | inr miss ↦ miss
  ]

  pub position_apart : (i : ℕ) → IsAt t ks i → position t ks ≡ Some i
  position_apart i at = position_here t ks i (none_before i at) at

  -- the place where it was found, or none
  pub position_found : (r : Option ℕ) → IfSome r (IsAt t ks) → IfNone r (IsNowhere t ks) → r ≡ position t ks
  position_found (Some i) found missed = sym (position_apart i found)
  position_found None found missed = sym (position_nowhere t ks missed)

-- what is sought in slots, where its hash has this home
module _ {K : Type 0} (cmp : K → K → Ordering) (writes : K → List (List ℕ)) (slots : List ℕ) (keys : BTreeMap K ℕ) (ks : List K) (known : AreKnown cmp writes slots keys ks (length ks)) (t : K → Bool) (h : ℕ) (home : (k : K) → IsTrue (t k) → h ≡ home_of (length slots) (key_hash_of (writes k))) (far : IsNowhereNear t ks slots h) where
  nowhere_but : ((j : ℕ) (k : K) → slice_get ks j ≡ Some k → IsTrue (t k) → IsFull slots h → get cmp keys k ≡ Some j → ⊥) → IsNowhere t ks
  nowhere_but rest j k at = elim (cases_Bool (t k)) [
    | inr miss ↦ miss
    | inl hit ↦ elim (known j k (slice_get_within ks j k at) at) [
      | inl near ↦ far j (subst (λ g. IsNear slots g j) (sym (home k hit)) near) k at
      | inr kept ↦ absurd (rest j k at hit (subst (IsFull slots) (sym (home k hit)) kept.0) kept.1)
    ]
  ]

  -- a slot is free
  pub nowhere_with_room : (slot : ℕ) → IsRoom slots h slot → IsNowhere t ks
  nowhere_with_room slot room = nowhere_but (λ j k at hit full kept. full room.step room.near (ap (slice_get slots) (sym room.is) ∙ room.free))

  -- none is free, and what is at the key is not it
  pub nowhere_kept : (r : Option ℕ) → ((k : K) → IsTrue (t k) → r ≡ get cmp keys k) → ((i : ℕ) → r ≡ Some i → IsNotAt t ks i) → IsNowhere t ks
  nowhere_kept r finds missed = nowhere_but (λ j k at hit full kept. true≢false (sym hit ∙ missed j (finds k hit ∙ kept) k at))

module _ {K : Type 0} (eq : K → K → Bool) (cmp : K → K → Ordering) (writes : K → List (List ℕ)) where
  -- what is known is still known of slots with more in them, and of more keys, where no key is written anew
  pub known_more : (slots slots' : List ℕ) (keys keys' : BTreeMap K ℕ) (k : K) (j : ℕ)
      → length slots' ≡ length slots → AreFilled slots slots' → (get cmp keys k ≡ Some j → get cmp keys' k ≡ Some j)
      → IsKnown cmp writes slots keys k j → IsKnown cmp writes slots' keys' k j
  known_more slots slots' keys keys' k j len filled kept known = elim known [
    | inl near ↦ inl (subst (λ n. IsNear slots' (home_of n (key_hash_of (writes k))) j) (sym len) (filled.near _ j near))
    | inr full ↦ inr (subst (λ n. IsFull slots' (home_of n (key_hash_of (writes k)))) (sym len) (filled.full _ full.0), kept full.1)
  ]

  -- all is known with one more place, whose key is another than those before it
  pub known_next : ((k l : K) → eq k l ≡ eq l k) → (slots slots' : List ℕ) (keys keys' : BTreeMap K ℕ) (ks : List K) (key : K) (place : ℕ)
      → AreApart eq ks → slice_get ks place ≡ Some key
      → length slots' ≡ length slots → AreFilled slots slots'
      → ((k : K) (j : ℕ) → eq key k ≡ false → get cmp keys k ≡ Some j → get cmp keys' k ≡ Some j)
      → IsKnown cmp writes slots' keys' key place
      → AreKnown cmp writes slots keys ks place → AreKnown cmp writes slots' keys' ks (place + 1)
  known_next symm slots slots' keys keys' ks key place apart here len filled others noted known j k below at = elim (dec_lt j place) [
    | yes before ↦ known_more slots slots' keys keys' k j len filled (others k j (symm key k ∙ apart j place k key before at here)) (known j k before at)
    | no not_before ↦
        let is : place ≡ j = omega (arith, below, not_before) in
        let same : key ≡ k = same_key (sym here ∙ ap (slice_get ks) is ∙ at) in
        subst (λ l. IsKnown cmp writes slots' keys' l j) same (subst (λ p. IsKnown cmp writes slots' keys' key p) is noted)
  ]

  get_pushed : (ks : List K) (k l : K) (j : ℕ) → slice_get (ks ++ k ∷ []) j ≡ Some l → (slice_get ks j ≡ Some l) ⊎ ((j ≡ length ks) × (k ≡ l))
  get_pushed [] k l zero at = inr (refl, same_key at)
  get_pushed [] k l (suc j) at = absurd (let f : ⊥ = cc in f)
  get_pushed (x ∷ ks) k l zero at = inl at
  get_pushed (x ∷ ks) k l (suc j) at = elim (get_pushed ks k l j at) [
    | inl h ↦ inl h
    | inr h ↦ inr (omega (arith, h.0), h.1)
  ]

  -- a key after the others, which differs from them
  pub apart_push : (ks : List K) (key : K) → AreApart eq ks → ((j : ℕ) (l : K) → slice_get ks j ≡ Some l → eq l key ≡ false) → AreApart eq (ks ++ key ∷ [])
  apart_push ks key apart other i j k l before at_i at_j = elim (get_pushed ks key l j at_j) [
    | inl old ↦ elim (get_pushed ks key k i at_i) [
      | inl older ↦ apart i j k l before older old
      | inr last ↦ absurd (let f : ⊥ = omega (arith, before, last.0, slice_get_within ks j l old) in f)
    ]
    | inr new ↦ elim (get_pushed ks key k i at_i) [
      | inl older ↦ ap (eq k) (sym new.1) ∙ other i k older
      | inr last ↦ absurd (let f : ⊥ = omega (arith, before, last.0, new.0) in f)
    ]
  ]

  -- a key after the others, whose place is known
  pub indexed_push : (slots slots' : List ℕ) (keys keys' : BTreeMap K ℕ) (ks : List K) (key : K) (place : ℕ)
      → place ≡ length ks
      → IsIndexed eq cmp writes slots keys ks
      → ((j : ℕ) (l : K) → slice_get ks j ≡ Some l → eq l key ≡ false)
      → ((j : ℕ) (l : K) → slice_get ks j ≡ Some l → IsKnown cmp writes slots keys l j → IsKnown cmp writes slots' keys' l j)
      → IsKnown cmp writes slots' keys' key place
      → IsIndexed eq cmp writes slots' keys' (ks ++ key ∷ [])
  indexed_push slots slots' keys keys' ks key place is ix other still known = record {
    apart = apart_push ks key ix.apart other;
    known = λ j k below at. elim (get_pushed ks key k j at) [
      | inl old ↦ still j k old (ix.known j k (slice_get_within ks j k old) old)
      | inr new ↦ let here : place ≡ j = omega (arith, is, new.0) in subst (λ l. IsKnown cmp writes slots' keys' l j) new.1 (subst (λ p. IsKnown cmp writes slots' keys' key p) here known)
    ];
  }

module _ {K : Type 0} (eq : K → K → Bool) (cmp : K → K → Ordering) (writes : K → List (List ℕ)) (ks : List K) where
  pub apart_of : (index : Option (Box (Index K) Global)) → IsKept eq cmp writes ks index → AreApart eq ks
  apart_of None kept = kept
  apart_of (Some index) kept = kept.apart

  -- without an index, where the key was found or not
  pub kept_by_found : (index : Option (Box (Index K) Global)) → AreApart eq ks → (key : K) → ((l : K) → eq l key ≡ eq key l) → index ≡ None → (r : Option ℕ) → IfSome r (IsAt (eq key) ks) → IfNone r (IsNowhere (eq key) ks) → IsKeptWith eq cmp writes ks key index r
  kept_by_found index apart key symm none (Some i) found missed = found
  kept_by_found index apart key symm none None found missed = (missed, subst (IsKept eq cmp writes (ks ++ key ∷ [])) (sym none) (apart_push eq cmp writes ks key apart (λ j l at. symm l ∙ missed j l at)))

  -- with an index, in which it was found or is known
  pub kept_with : (key : K) → ((l : K) → eq l key ≡ eq key l) → (index : Box (Index K) Global) → IsIndexed eq cmp writes index.value.slots.items index.value.keys ks → (r : Option ℕ) → IsFoundOrNew eq cmp writes index.value.slots.items index.value.keys ks key r → IsKeptWith eq cmp writes ks key (Some index) r
  kept_with key symm index ix (Some i) found = found
  kept_with key symm index ix None found = (found.0, indexed_push eq cmp writes index.value.slots.items index.value.slots.items index.value.keys index.value.keys ks key (length ks) refl ix (λ j l at. symm l ∙ found.0 j l at) (λ j l at known. known) found.1)

module _ {K X : Type 0} where
  pub slice_get-keys_of : (es : List (K × X)) (i : ℕ) (e : K × X) → slice_get es i ≡ Some e → slice_get (keys_of es) i ≡ Some e.0
  slice_get-keys_of es i e at = slice_get-map (λ (e : K × X). e.0) es i ∙ ap (option_map (λ (e : K × X). e.0)) at

  pub keys_of-slice_set : (es : List (K × X)) (i : ℕ) (e : K × X) (w : X) → slice_get es i ≡ Some e → keys_of (slice_set es i (e.0, w)) ≡ keys_of es
  keys_of-slice_set [] i e w at = refl
  keys_of-slice_set (x ∷ es) zero e w at = ap (λ (y : K × X). y.0 ∷ keys_of es) (sym (same_key at))
  keys_of-slice_set (x ∷ es) (suc i) e w at = ap (λ ks. x.0 ∷ ks) (keys_of-slice_set es i e w at)

  pub slice_set-value : (es : List (K × X)) (i : ℕ) (e : K × X) (w : X) → slice_get es i ≡ Some e → slice_set es i (e.0, w) ≡ set_value_at es i w
  slice_set-value [] i e w at = refl
  slice_set-value (x ∷ es) zero e w at = ap (λ (y : K × X). (y.0, w) ∷ es) (sym (same_key at))
  slice_set-value (x ∷ es) (suc i) e w at = ap (λ l. x ∷ l) (slice_set-value es i e w at)

  pub lookup_at : (t : K → Bool) (es : List (K × X)) (i : ℕ) (e : K × X) → position t (keys_of es) ≡ Some i → slice_get es i ≡ Some e → lookup t es ≡ Some e.1
  lookup_at t es i e p at = (Found-position t es i p).value ∙ (slice_get-map (λ (e : K × X). e.1) es i ∙ ap (option_map (λ (e : K × X). e.1)) at)

  pub lookup_nowhere : (t : K → Bool) (es : List (K × X)) → position t (keys_of es) ≡ None → lookup t es ≡ None
  lookup_nowhere t es p = (Missing-position t es p).value

  pub place_of_key : (t : K → Bool) (es : List (K × X)) (i : ℕ) → position t (keys_of es) ≡ Some i → i < length es
  place_of_key t es i p = (Found-position t es i p).within

  pub insert_at : (eq : K → K → Bool) (k : K) (v : X) (es : List (K × X)) (i : ℕ) (e : K × X) → position (eq k) (keys_of es) ≡ Some i → slice_get es i ≡ Some e → slice_set es i (e.0, v) ≡ insert_entry eq es k v
  insert_at eq k v es i e p at = slice_set-value es i e v at ∙ sym (insert_entry-first eq k v es i (Found-position (eq k) es i p).first)

  pub insert_new : (eq : K → K → Bool) (k : K) (v : X) (es : List (K × X)) → position (eq k) (keys_of es) ≡ None → es ++ (k, v) ∷ [] ≡ insert_entry eq es k v
  insert_new eq k v es p = sym (insert_entry-absent eq k v es (Missing-position (eq k) es p).absent)
