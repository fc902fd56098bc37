-- Entries that are found by hashes of their keys.
use Rattle.std.specs.Prelude.{◌≡◌, ◌⊎◌, ◌<◌, ℕ, Bool, false, List, Option, Some, None, Box, length, slice_get, [], ◌∷◌, ◌++◌}
use Rattle.std.specs.declared.alloc.Global.{Global}
use Rattle.std.specs.BTreeMap.{BTreeMap, get}
use Rattle.std.specs.declared.cmp.Ordering.{Ordering}
use Rattle.wit_maps.specs.Slots.{key_hash_of, home_of, IsAt, IsFull, IsNear, IsNowhere}
use Rattle.wit_maps.specs.declared.index.Index.{Index}

module _ {K : Type 0} where
  -- no two keys are equal
  abbrev pub AreApart : (K → K → Bool) → List K → Type 0
  AreApart eq ks = (i j : ℕ) (k l : K) → i < j → slice_get ks i ≡ Some k → slice_get ks j ≡ Some l → eq k l ≡ false

  -- a place is in the slots for the hash of its key, or, where these are full, at the key itself
  abbrev pub IsKnown : (K → K → Ordering) → (K → List (List ℕ)) → List ℕ → BTreeMap K ℕ → K → ℕ → Type 0
  IsKnown cmp writes slots keys k j = IsNear slots (home_of (length slots) (key_hash_of (writes k))) j ⊎ (IsFull slots (home_of (length slots) (key_hash_of (writes k))) × (get cmp keys k ≡ Some j))

  -- the first places are known
  abbrev pub AreKnown : (K → K → Ordering) → (K → List (List ℕ)) → List ℕ → BTreeMap K ℕ → List K → ℕ → Type 0
  AreKnown cmp writes slots keys ks count = (j : ℕ) (k : K) → j < count → slice_get ks j ≡ Some k → IsKnown cmp writes slots keys k j

  -- no two keys are equal, and all places are known
  pub record IsIndexed (eq : K → K → Bool) (cmp : K → K → Ordering) (writes : K → List (List ℕ)) (slots : List ℕ) (keys : BTreeMap K ℕ) (ks : List K) : Type 0 where
    pub apart : AreApart eq ks
    pub known : AreKnown cmp writes slots keys ks (length ks)

  -- where a key is; or that none is equal, and the place after the last is known
  abbrev pub IsFoundOrNew : (K → K → Bool) → (K → K → Ordering) → (K → List (List ℕ)) → List ℕ → BTreeMap K ℕ → List K → K → Option ℕ → Type 0
  IsFoundOrNew eq cmp writes slots keys ks k (Some i) = IsAt (eq k) ks i
  IsFoundOrNew eq cmp writes slots keys ks k None = IsNowhere (eq k) ks × IsKnown cmp writes slots keys k (length ks)

  -- no two keys are equal, and where there is an index, all places are known
  abbrev pub IsKept : (K → K → Bool) → (K → K → Ordering) → (K → List (List ℕ)) → List K → Option (Box (Index K) Global) → Type 0
  IsKept eq cmp writes ks None = AreApart eq ks
  IsKept eq cmp writes ks (Some index) = IsIndexed eq cmp writes index.value.slots.items index.value.keys ks

  -- where a key is; or that none is equal, and that with it after the others, this is their index, if there is one
  abbrev pub IsKeptWith : (K → K → Bool) → (K → K → Ordering) → (K → List (List ℕ)) → List K → K → Option (Box (Index K) Global) → Option ℕ → Type 0
  IsKeptWith eq cmp writes ks k index (Some i) = IsAt (eq k) ks i
  IsKeptWith eq cmp writes ks k index None = IsNowhere (eq k) ks × IsKept eq cmp writes (ks ++ k ∷ []) index
