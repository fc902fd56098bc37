-- What a map from texts finds and stores, on its entries as contracts see them.
use Rattle.std.proofs.Common.{zero, get_or, slice_set, swap, Option, Some, None, slice_get, position, cond, not, nat_lt, ◌&&◌, ◌+◌, sym, ◌≡◌, ℕ, suc, Bool, List, [], ◌∷◌, String, string_bytes, nat_eq, length, refl, ap, ◌∙◌, inl, inr}
use Rattle.std.proofs.lemmas.Bool.{cases_Bool}
use Rattle.std.proofs.lemmas.List.{length-map}
use Rattle.std.specs.Cmp.Lexicographic.{pointwise}
use Rattle.std.specs.Str.{bytes_eq}
use Rattle.std.specs.Map.{lookup, lookup_entry, keys_of, values_of}
use Rattle.std.specs.HashMap.{entries_eq}
use Rattle.std.specs.List.{AllZip, list_all, position_or_len}
use Rattle.std.specs.Option.{option_eq, option_map}
use Rattle.std.specs.declared.alloc.Global.{Global}
use Rattle.indexmap.specs.IndexMap.{insert_entry, set_value_at}
use Rattle.wit_maps.specs.TextEntries.{text_entries}

pub length-text_entries : {V : Type 0} (es : List (String Global × V)) → length (text_entries es) ≡ length es
length-text_entries [] = refl
length-text_entries (e ∷ es) = ap suc (length-text_entries es)

pub values_of-text_entries : {V : Type 0} (es : List (String Global × V)) → values_of (text_entries es) ≡ values_of es
values_of-text_entries [] = refl
values_of-text_entries (e ∷ es) = ap (λ vs. e.1 ∷ vs) (values_of-text_entries es)

pub lookup-text_entries : {V : Type 0} (bs : List ℕ) (es : List (String Global × V)) → lookup (λ k. bytes_eq bs (string_bytes k)) es ≡ lookup (pointwise nat_eq bs) (text_entries es)
lookup-text_entries bs [] = refl
lookup-text_entries bs (e ∷ es) = elim (cases_Bool (pointwise nat_eq bs (string_bytes e.0))) [
  | inl hit ↦ rw hit refl
  | inr miss ↦ rw miss (lookup-text_entries bs es)
]

pub text_entries-insert_entry : {V : Type 0} (es : List (String Global × V)) (k : String Global) (v : V) → text_entries (insert_entry (λ a b. pointwise nat_eq (string_bytes a) (string_bytes b)) es k v) ≡ insert_entry (pointwise nat_eq) (text_entries es) (string_bytes k) v
text_entries-insert_entry [] k v = refl
text_entries-insert_entry (e ∷ es) k v = elim (cases_Bool (pointwise nat_eq (string_bytes k) (string_bytes e.0))) [
  | inl hit ↦ rw hit refl
  | inr miss ↦ rw miss (ap (λ l. (string_bytes e.0, e.1) ∷ l) (text_entries-insert_entry es k v))
]

pub slice_get-text_entries : {V : Type 0} (es : List (String Global × V)) (i : ℕ) → slice_get (text_entries es) i ≡ option_map (λ e. (string_bytes e.0, e.1)) (slice_get es i)
slice_get-text_entries [] i = refl
slice_get-text_entries (e ∷ es) zero = refl
slice_get-text_entries (e ∷ es) (suc i) = slice_get-text_entries es i

-- the value at a place is the same, whichever way its key is seen
pub value-text_entries : {V : Type 0} (es : List (String Global × V)) (i : ℕ) → option_map (λ (e : List ℕ × V). e.1) (slice_get (text_entries es) i) ≡ option_map (λ (e : String Global × V). e.1) (slice_get es i)
value-text_entries [] i = refl
value-text_entries (e ∷ es) zero = refl
value-text_entries (e ∷ es) (suc i) = value-text_entries es i

same_len : {V : Type 0} (bs : List ℕ) (es : List (String Global × V)) → position_or_len (λ k. bytes_eq bs (string_bytes k)) (keys_of es) ≡ position_or_len (pointwise nat_eq bs) (keys_of (text_entries es))
same_len bs [] = refl
same_len bs (e ∷ es) = ap (λ n. cond (not (bytes_eq bs (string_bytes e.0))) (1 + n) 0) (same_len bs es)

-- the place of a text is the same, whichever way its key is seen
pub position-text_entries : {V : Type 0} (bs : List ℕ) (es : List (String Global × V)) → position (λ k. bytes_eq bs (string_bytes k)) (keys_of es) ≡ position (pointwise nat_eq bs) (keys_of (text_entries es))
position-text_entries {V} bs es =
    let len : length (keys_of es) ≡ length (keys_of (text_entries es)) = length-map es (λ (e : String Global × V). e.0) ∙ (sym (length-text_entries es) ∙ sym (length-map (text_entries es) (λ (e : List ℕ × V). e.0))) in
    ap (λ n. cond (nat_lt n (length (keys_of es))) (Some n) None) (same_len bs es)
    ∙ ap (λ n. cond (nat_lt (position_or_len (pointwise nat_eq bs) (keys_of (text_entries es))) n) (Some (position_or_len (pointwise nat_eq bs) (keys_of (text_entries es)))) None) len

pub text_entries-set_value_at : {V : Type 0} (es : List (String Global × V)) (i : ℕ) (w : V) → text_entries (set_value_at es i w) ≡ set_value_at (text_entries es) i w
text_entries-set_value_at [] i w = refl
text_entries-set_value_at (e ∷ es) zero w = refl
text_entries-set_value_at (e ∷ es) (suc i) w = ap (λ l. (string_bytes e.0, e.1) ∷ l) (text_entries-set_value_at es i w)

-- an entry, its key seen as a text
abbrev seen_entry : {V : Type 0} → String Global × V → List ℕ × V
seen_entry e = (string_bytes e.0, e.1)

text_entries-slice_set : {V : Type 0} (es : List (String Global × V)) (i : ℕ) (e : String Global × V) → text_entries (slice_set es i e) ≡ slice_set (text_entries es) i (seen_entry e)
text_entries-slice_set [] i e = refl
text_entries-slice_set (x ∷ es) zero e = refl
text_entries-slice_set (x ∷ es) (suc i) e = ap (λ l. seen_entry x ∷ l) (text_entries-slice_set es i e)

text_entries-get_or : {V : Type 0} (es : List (String Global × V)) (i : ℕ) (d : String Global × V) → seen_entry (get_or es i d) ≡ get_or (text_entries es) i (seen_entry d)
text_entries-get_or [] i d = refl
text_entries-get_or (x ∷ es) zero d = refl
text_entries-get_or (x ∷ es) (suc i) d = text_entries-get_or es i d

-- two entries change places, whichever way their keys are seen
pub text_entries-swap : {V : Type 0} (es : List (String Global × V)) (i j : ℕ) → text_entries (swap es i j) ≡ swap (text_entries es) i j
text_entries-swap [] i j = refl
text_entries-swap (d ∷ ys) i j =
    let es = d ∷ ys in
    text_entries-slice_set (slice_set es i (get_or es j d)) j (get_or es i d)
    ∙ ap (λ l. slice_set l j (seen_entry (get_or es i d))) (text_entries-slice_set es i (get_or es j d))
    ∙ (λ t. slice_set (slice_set (text_entries es) i (text_entries-get_or es j d t)) j (text_entries-get_or es i d t))

pub AllZip-text_entries : {V : Type 0} (C : V → V → Type 0) (es fs : List (String Global × V)) → AllZip (λ p q. (string_bytes q.0 ≡ string_bytes p.0) × C p.1 q.1) es fs → AllZip (λ p q. (q.0 ≡ p.0) × C p.1 q.1) (text_entries es) (text_entries fs)
AllZip-text_entries C [] [] h = h
AllZip-text_entries C [] (f ∷ fs) h = h
AllZip-text_entries C (e ∷ es) [] h = h
AllZip-text_entries C (e ∷ es) (f ∷ fs) h = (h.0, AllZip-text_entries C es fs h.1)

module _ {V : Type 0} (E : V → V → Bool) where
  abbrev bytes_match : String Global → String Global → Bool
  bytes_match a b = pointwise nat_eq (string_bytes a) (string_bytes b)

  lookup_entry-text_entries : (k : String Global) (es : List (String Global × V)) → lookup_entry (pointwise nat_eq (string_bytes k)) (text_entries es) ≡ option_map (λ e. (string_bytes e.0, e.1)) (lookup_entry (bytes_match k) es)
  lookup_entry-text_entries k [] = refl
  lookup_entry-text_entries k (e ∷ es) = elim (cases_Bool (pointwise nat_eq (string_bytes k) (string_bytes e.0))) [
    | inl hit ↦ rw hit refl
    | inr miss ↦ rw miss (lookup_entry-text_entries k es)
  ]

  option_eq-text : (p q : Option (String Global × V)) → option_eq {T = List ℕ × V} (λ a b. E a.1 b.1) (option_map (λ e. (string_bytes e.0, e.1)) p) (option_map (λ e. (string_bytes e.0, e.1)) q) ≡ option_eq {T = String Global × V} (λ a b. E a.1 b.1) p q
  option_eq-text None None = refl
  option_eq-text None (Some y) = refl
  option_eq-text (Some x) None = refl
  option_eq-text (Some x) (Some y) = refl

  agree-text : (ks es fs : List (String Global × V)) → list_all (λ k. option_eq {T = List ℕ × V} (λ a b. E a.1 b.1) (lookup_entry (pointwise nat_eq k) (text_entries es)) (lookup_entry (pointwise nat_eq k) (text_entries fs))) (keys_of (text_entries ks)) ≡ list_all (λ k. option_eq {T = String Global × V} (λ a b. E a.1 b.1) (lookup_entry (bytes_match k) es) (lookup_entry (bytes_match k) fs)) (keys_of ks)
  agree-text [] es fs = refl
  agree-text (k ∷ ks) es fs =
      let here = (λ j. option_eq {T = List ℕ × V} (λ a b. E a.1 b.1) (lookup_entry-text_entries k.0 es j) (lookup_entry-text_entries k.0 fs j)) ∙ option_eq-text (lookup_entry (bytes_match k.0) es) (lookup_entry (bytes_match k.0) fs) in
      λ j. here j && agree-text ks es fs j

  pub entries_eq-text_entries : (es fs : List (String Global × V)) → entries_eq (λ a b. pointwise nat_eq (string_bytes a) (string_bytes b)) (λ p q. E p.1 q.1) es fs ≡ entries_eq (pointwise nat_eq) (λ p q. E p.1 q.1) (text_entries es) (text_entries fs)
  unfolding entries_eq
  entries_eq-text_entries es fs = sym (λ j. agree-text es es fs j && agree-text fs es fs j)
