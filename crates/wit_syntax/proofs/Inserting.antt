-- Entries that are put, one after another, at keys that are not there yet.
use Rattle.std.proofs.Common.{◌≡◌, ◌⊎◌, ℕ, suc, ◌+◌, ◌<◌, Bool, true, false, cond, List, [], ◌∷◌, ◌++◌, length, Some, inl, inr, refl, sym, ap, ◌∙◌, arith, append_assoc}
use Rattle.std.specs.Prelude.{slice_get, map}
use Rattle.std.specs.List.{list_any}
use Rattle.std.specs.Map.{keys_of}
use Rattle.std.specs.Option.{option_map}
use Rattle.std.proofs.lemmas.Bool.{cases_Bool}
use Rattle.std.proofs.lemmas.List.{map-append}
use Rattle.std.proofs.lemmas.Option.{slice_get-map, slice_get_within}
use Rattle.indexmap.specs.IndexMap.{insert_entry}
use Rattle.indexmap.specs.IndexSet.{insert_key}
use Rattle.wit_syntax.specs.Repeats.{AllDiffer}
use Rattle.wit_syntax.proofs.Lists.{at_prefix, at_back, at_split, map_at}

-- what is put at a key that is not there comes last
pub insert_entry-new : {K V : Type 0} (eq : K → K → Bool) (es : List (K × V)) (k : K) (v : V) → ((i : ℕ) (e : K × V) → slice_get es i ≡ Some e → eq k e.0 ≡ false) → insert_entry eq es k v ≡ es ++ (k, v) ∷ []
insert_entry-new eq [] k v other = refl
insert_entry-new eq (e ∷ es) k v other = rw (other 0 e refl) (ap (λ l. e ∷ l) (insert_entry-new eq es k v (λ i d at. other (suc i) d at)))

cons-cond : {K : Type 0} (b : Bool) (x : K) (xs ys : List K) → x ∷ cond b xs ys ≡ cond b (x ∷ xs) (x ∷ ys)
cons-cond true x xs ys = refl
cons-cond false x xs ys = refl

-- the keys stay if one is equal to the key at which an entry is put, and else that key goes last
pub keys-insert_entry : {K V : Type 0} (eq : K → K → Bool) (es : List (K × V)) (k : K) (v : V) → keys_of (insert_entry eq es k v) ≡ insert_key eq (keys_of es) k
keys-insert_entry eq [] k v = refl
keys-insert_entry eq (e ∷ es) k v = elim (cases_Bool (eq k e.0)) [
  | inl hit ↦ rw hit refl
  | inr miss ↦ rw miss (ap (λ l. e.0 ∷ l) (keys-insert_entry eq es k v) ∙ cons-cond (list_any (eq k) (keys_of es)) e.0 (keys_of es) (keys_of es ++ k ∷ []))
]

module _ {X K V : Type 0} (eq : K → K → Bool) (key : X → K) (value : X → V) where
  abbrev entry : X → K × V
  entry x = (key x, value x)

  -- no entry before one has its key, where keys differ
  key_before : (es : List (K × V)) (xs rest : List X) (x : X) → AllDiffer (map (λ e. e.0) es ++ map key (xs ++ x ∷ rest)) → (i : ℕ) (e : K × V) → slice_get (es ++ map entry xs) i ≡ Some e → key x ≡ e.0 → ⊥
  key_before es xs rest x differ i e there same =
      let old = map (λ (d : K × V). d.0) es in
      let all = xs ++ x ∷ rest in
      let place = λ (j : ℕ) (y : X) (at : slice_get all j ≡ Some y). at_back old (map key all) j (key y) (slice_get-map key all j ∙ ap (option_map key) at) in
      let here : slice_get (old ++ map key all) (length old + (length xs + 0)) ≡ Some (key x) = place (length xs + 0) x (at_back xs (x ∷ rest) 0 x refl) in
      elim (at_split es (map entry xs) i e there) [
        | inl early ↦ (
            let prefix : slice_get old i ≡ Some e.0 = slice_get-map (λ (d : K × V). d.0) es i ∙ ap (option_map (λ (d : K × V). d.0)) early in
            let one = differ.differ i (length old + (length xs + 0)) (key x) (at_prefix old (map key all) i (key x) (prefix ∙ ap Some (sym same))) here in
            let lt : i < length old = slice_get_within old i e.0 prefix in
            let f : ⊥ = omega arith in
            f)
        | inr late ↦ (
            let y = map_at entry xs late.0 e late.2 in
            let other : key y.0 ≡ key x = ap (λ (d : K × V). d.0) y.2 ∙ sym same in
            let before : slice_get (old ++ map key all) (length old + late.0) ≡ Some (key x) = place late.0 y.0 (at_prefix xs (x ∷ rest) late.0 y.0 y.1) ∙ ap Some other in
            let one = differ.differ (length old + late.0) (length old + (length xs + 0)) (key x) before here in
            let lt : late.0 < length xs = slice_get_within xs late.0 y.0 y.1 in
            let f : ⊥ = omega arith in
            f)
      ]

  -- one entry more of those whose keys differ
  pub inserted_next : (es : List (K × V)) (xs rest : List X) (x : X) → ((d : K × V) → (key x ≡ d.0) ⊎ (eq (key x) d.0 ≡ false)) → AllDiffer (map (λ e. e.0) es ++ map key (xs ++ x ∷ rest)) → insert_entry eq (es ++ map entry xs) (key x) (value x) ≡ es ++ map entry (xs ++ x ∷ [])
  inserted_next es xs rest x cases differ =
      insert_entry-new eq (es ++ map entry xs) (key x) (value x) (λ i e there. elim (cases e) [
        | inl same ↦ absurd (key_before es xs rest x differ i e there same)
        | inr other ↦ other
      ])
      ∙ append_assoc es (map entry xs) (entry x ∷ [])
      ∙ ap (λ l. es ++ l) (sym (map-append entry xs (x ∷ [])))
