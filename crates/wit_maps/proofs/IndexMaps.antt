-- Keys that differ: as maps of either kind say it, after entries changed places, and inserted one after the other.
use Rattle.std.proofs.Common.{◌≡◌, ℕ, ◌<◌, Bool, List, [], ◌∷◌, ◌++◌, get_or, length, swap, refl, sym, ap, ◌∙◌, subst, arith}
use Rattle.std.specs.Cmp.{IsEquivalence}
use Rattle.std.specs.List.{IsDistinct}
use Rattle.std.specs.Map.{keys_of}
use Rattle.std.proofs.lemmas.List.{append-nil, append_assoc}
use Rattle.std.proofs.lemmas.List.Sorted.{IsPermutation-map, IsPermutation-swap}
use Rattle.std.proofs.lemmas.Map.Keys.{apart_from_distinct, IsDistinct-from_apart, IsDistinct-IsPermutation}
use Rattle.std.proofs.lemmas.Option.{get_or_from_slice_get, slice_get-get_or, slice_get_within}
use Rattle.indexmap.specs.IndexMap.{insert_all}
use Rattle.indexmap.proofs.MapLemmas.{absent_before, absent_from_lookup, insert_entry-absent}
use Rattle.wit_maps.specs.Indexed.{AreApart}

module _ {K : Type 0} (eq : K → K → Bool) (ks : List K) where
  pub apart_from_unique : IsDistinct eq ks → AreApart eq ks
  apart_from_unique distinct i j k l before at_i at_j =
      let one : get_or ks i l ≡ k = get_or_from_slice_get ks i k l at_i in
      let other : get_or ks j l ≡ l = get_or_from_slice_get ks j l l at_j in
      ap (λ x. eq x l) (sym one) ∙ ap (eq (get_or ks i l)) (sym other) ∙ apart_from_distinct eq ks i j l distinct before (slice_get_within ks j l at_j)

  pub unique_from_apart : AreApart eq ks → IsDistinct eq ks
  unique_from_apart apart = IsDistinct-from_apart eq ks (λ i j d before within. apart i j (get_or ks i d) (get_or ks j d) before (slice_get-get_or ks i d (omega (arith, before, within))) (slice_get-get_or ks j d within))

module _ {K X : Type 0} (eq : K → K → Bool) (laws : IsEquivalence eq) where
  insert_more : (done es : List (K × X)) → IsDistinct eq (keys_of (done ++ es)) → insert_all eq done es ≡ done ++ es
  insert_more done [] distinct = sym (append-nil done)
  insert_more done (e ∷ es) distinct =
      let new = insert_entry-absent eq e.0 e.1 done (absent_from_lookup (eq e.0) done (absent_before laws done es e distinct)) in
      let rest = append_assoc done (e ∷ []) es in
      ap (λ l. insert_all eq l es) new ∙ insert_more (done ++ e ∷ []) es (subst (λ l. IsDistinct eq (keys_of l)) (sym rest) distinct) ∙ rest

  -- entries whose keys differ, inserted one after the other
  pub insert_all_apart : (es : List (K × X)) → AreApart eq (keys_of es) → insert_all eq [] es ≡ es
  insert_all_apart es apart = insert_more [] es (unique_from_apart eq (keys_of es) apart)

  -- keys still differ where two entries changed places
  pub apart_swap : (es : List (K × X)) (i j : ℕ) → i < length es → j < length es → AreApart eq (keys_of es) → AreApart eq (keys_of (swap es i j))
  apart_swap es i j one other apart =
      let moved = IsPermutation-map (λ (e : K × X). e.0) es (swap es i j) (IsPermutation-swap es (swap es i j) i j one other refl) in
      apart_from_unique eq (keys_of (swap es i j)) (IsDistinct-IsPermutation eq laws.symm (keys_of es) (keys_of (swap es i j)) moved (unique_from_apart eq (keys_of es) apart))
