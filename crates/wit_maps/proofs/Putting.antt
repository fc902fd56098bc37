-- What putting a value at a key makes of entries, after room was made for it and its place was looked for.
use Rattle.std.proofs.Common.{◌≡◌, ◌++◌, ◌∷◌, [], List, ℕ, Bool, Option, Some, None, Box, get_or, position, slice_get, slice_set, refl, sym, ap, ◌∙◌, subst}
use Rattle.std.specs.Map.{keys_of, lookup}
use Rattle.std.specs.declared.alloc.Global.{Global}
use Rattle.std.specs.declared.cmp.Ordering.{Ordering}
use Rattle.std.proofs.lemmas.List.{map-append}
use Rattle.std.proofs.lemmas.Option.{slice_get_read}
use Rattle.indexmap.specs.IndexMap.{insert_entry}
use Rattle.wit_maps.specs.declared.index.Index.{Index}
use Rattle.wit_maps.specs.Indexed.{AreApart, IsKept, IsKeptWith}
use Rattle.wit_maps.proofs.Indexed.{IsTestOf, apart_of, insert_at, insert_new, keys_of-slice_set, lookup_at, lookup_nowhere, place_of_key, position_apart, position_nowhere}

-- entries of a map, with room for one more; the index before and after the look; and what the look stated
module _ {K X : Type 0} (eq : K → K → Bool) (cmp : K → K → Ordering) (writes : K → List (List ℕ)) (key : K) (es inside old lent : List (K × X)) (roomy : es ≡ inside) (seen : inside ≡ old) (lends : lent ≡ es) (after : Option (Box (Index K) Global)) (as_stated : Option ℕ) (found : IsKeptWith eq cmp writes (keys_of lent) key after as_stated) where
  pub place_missed : as_stated ≡ None → position (eq key) (keys_of es) ≡ None
  place_missed none = position_nowhere (eq key) (keys_of es) (subst (λ l. IsKeptWith eq cmp writes (keys_of l) key after None) lends (subst (IsKeptWith eq cmp writes (keys_of lent) key after) none found)).0

  -- a new key comes last
  pub put_last : (v : X) → as_stated ≡ None → es ++ (key, v) ∷ [] ≡ insert_entry eq old key v
  put_last v none = insert_new eq key v es (place_missed none) ∙ ap (λ l. insert_entry eq l key v) (roomy ∙ seen)

  -- the index of the keys with it
  pub kept_last : (v : X) → as_stated ≡ None → IsKept eq cmp writes (keys_of (es ++ (key, v) ∷ [])) after
  kept_last v none =
      let new = subst (λ l. IsKeptWith eq cmp writes (keys_of l) key after None) lends (subst (IsKeptWith eq cmp writes (keys_of lent) key after) none found) in
      subst (λ ks. IsKept eq cmp writes ks after) (sym (map-append (λ (e : K × X). e.0) es ((key, v) ∷ []))) new.1

  pub was_nowhere : as_stated ≡ None → None ≡ lookup (eq key) old
  was_nowhere none = sym (lookup_nowhere (eq key) es (place_missed none)) ∙ ap (lookup (eq key)) (roomy ∙ seen)

  pub stated_nowhere : as_stated ≡ None → None ≡ position (eq key) (keys_of old)
  stated_nowhere none = sym (place_missed none) ∙ ap (λ l. position (eq key) (keys_of l)) (roomy ∙ seen)

  module _ (same : IsTestOf eq (eq key)) (before : Option (Box (Index K) Global)) (kept : IsKept eq cmp writes (keys_of inside) before) (place : ℕ) (some : as_stated ≡ Some place) where
    place_found : position (eq key) (keys_of es) ≡ Some place
    place_found =
        let apart : AreApart eq (keys_of es) = subst (λ l. AreApart eq (keys_of l)) (sym roomy) (apart_of eq cmp writes (keys_of inside) before kept) in
        position_apart eq (keys_of es) apart (eq key) same place (subst (λ l. IsKeptWith eq cmp writes (keys_of l) key after (Some place)) lends (subst (IsKeptWith eq cmp writes (keys_of lent) key after) some found))

    pub stated_there : Some place ≡ position (eq key) (keys_of old)
    stated_there = sym place_found ∙ ap (λ l. position (eq key) (keys_of l)) (roomy ∙ seen)

    -- the entry at the place, as it was read
    module _ (e : K × X) (read : e ≡ get_or es place e) where
      entry_there : slice_get es place ≡ Some e
      entry_there = slice_get_read es _ place e refl (place_of_key (eq key) es place place_found) read

      -- with another value there, the index is still that of the keys
      pub kept_there : (v : X) → IsKept eq cmp writes (keys_of lent) after → IsKept eq cmp writes (keys_of (slice_set es place (e.0, v))) after
      kept_there v still = subst (λ ks. IsKept eq cmp writes ks after) (sym (keys_of-slice_set es place e v entry_there)) (subst (λ l. IsKept eq cmp writes (keys_of l) after) lends still)

      pub put_there : (v : X) → slice_set es place (e.0, v) ≡ insert_entry eq old key v
      put_there v = insert_at eq key v es place e place_found entry_there ∙ ap (λ l. insert_entry eq l key v) (roomy ∙ seen)

      pub was_there : Some e.1 ≡ lookup (eq key) old
      was_there = sym (lookup_at (eq key) es place e place_found entry_there) ∙ ap (lookup (eq key)) (roomy ∙ seen)
