-- Slots in which places are near the hashes of what is there.
use Rattle.std.specs.Prelude.{◌≡◌, ℕ, ◌+◌, ◌-◌, ◌%◌, ◌<◌, Bool, true, false, List, Some, slice_get, nat_lt, if◌then◌else◌}
use Rattle.std.specs.Hash.FoldHasher.{initial, write, finish}
use Rattle.std.specs.List.{fold}
use Rattle.wit_maps.specs.declared.slots.Sight.{Sight}
use Rattle.wit_maps.specs.declared.slots.Sight.TheVariants.{Entry, Room, Full}

-- the hash of what a key writes
abbrev pub key_hash_of : List (List ℕ) → ℕ
key_hash_of writes = finish (fold write initial writes)

-- the first slot for a hash, of as many slots
abbrev pub home_of : ℕ → ℕ → ℕ
home_of len d = if nat_lt 8 len then d % (len - 8) else 0

-- each slot is free
abbrev pub AreFree : List ℕ → Type 0
AreFree slots = (i s : ℕ) → slice_get slots i ≡ Some s → s ≡ 0

-- none of the first slots from one on is free
abbrev pub AreUsed : List ℕ → ℕ → ℕ → Type 0
AreUsed slots h count = (v : ℕ) → v < count → slice_get slots (h + v) ≡ Some 0 → ⊥

-- none of the slots from one on is free
abbrev pub IsFull : List ℕ → ℕ → Type 0
IsFull slots h = AreUsed slots h 8

-- a place is in one of the slots from one on, after none that is free
pub record IsNear (slots : List ℕ) (h j : ℕ) : Type 0 where
  pub step : ℕ
  pub near : step < 8
  pub at : slice_get slots (h + step) ≡ Some (1 + j)
  pub in_use : AreUsed slots h step

-- a slot is free, and after none that is
pub record IsRoom (slots : List ℕ) (h slot : ℕ) : Type 0 where
  pub step : ℕ
  pub near : step < 8
  pub is : slot ≡ h + step
  pub free : slice_get slots slot ≡ Some 0
  pub in_use : AreUsed slots h step

-- what was in slots is there still
pub record AreFilled (old new : List ℕ) : Type 0 where
  pub near : (h j : ℕ) → IsNear old h j → IsNear new h j
  pub full : (h : ℕ) → IsFull old h → IsFull new h

module _ {K : Type 0} where
  -- the key at a place passes
  abbrev pub IsAt : (K → Bool) → List K → ℕ → Type 0
  IsAt t ks i = (k : K) × (slice_get ks i ≡ Some k) × (t k ≡ true)

  -- no key at a place passes
  abbrev pub IsNotAt : (K → Bool) → List K → ℕ → Type 0
  IsNotAt t ks i = (k : K) → slice_get ks i ≡ Some k → t k ≡ false

  -- no key passes at a place that is in the slots from one on
  abbrev pub IsNowhereNear : (K → Bool) → List K → List ℕ → ℕ → Type 0
  IsNowhereNear t ks slots h = (j : ℕ) → IsNear slots h j → IsNotAt t ks j

  -- what the slots from one on say of the key that passes
  abbrev pub IsSight : (K → Bool) → List K → List ℕ → ℕ → Sight → Type 0
  IsSight t ks slots h (Entry i) = IsAt t ks i
  IsSight t ks slots h (Room slot) = IsNowhereNear t ks slots h × IsRoom slots h slot
  IsSight t ks slots h Full = IsNowhereNear t ks slots h × IsFull slots h

  -- no key passes
  abbrev pub IsNowhere : (K → Bool) → List K → Type 0
  IsNowhere t ks = (j : ℕ) (k : K) → slice_get ks j ≡ Some k → t k ≡ false

  -- where the key that passes is, or that none does, and which slot is free for one
  abbrev pub IsSightOf : (K → Bool) → List K → List ℕ → ℕ → Sight → Type 0
  IsSightOf t ks slots h (Entry i) = IsAt t ks i
  IsSightOf t ks slots h (Room slot) = IsNowhere t ks × IsRoom slots h slot
  IsSightOf t ks slots h Full = IsNowhere t ks × IsFull slots h
