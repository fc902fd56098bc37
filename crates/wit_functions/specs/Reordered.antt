-- Entries put into another order.
use Rattle.std.specs.Prelude.{◌≡◌, ℕ, ◌<◌, List, Some, length, slice_get, swap}
use Rattle.std.specs.Option.{option_and_then}

-- at each place is the entry that is stated to be there, by the place where it was at first
abbrev pub Shows : {E : Type 0} → List E → List ℕ → List E → Type 0
Shows first entries now = (k : ℕ) → slice_get now k ≡ option_and_then (slice_get first) (slice_get entries k)

-- the one list is the other's entries, each once, in the order of these places
pub record IsOrder {E : Type 0} (first : List E) (order : List ℕ) (now : List E) : Type 0 where
  pub shows : Shows first order now
  pub all : length order ≡ length first
  pub within : (k w : ℕ) → slice_get order k ≡ Some w → w < length first
  pub once : (i j w : ℕ) → slice_get order i ≡ Some w → slice_get order j ≡ Some w → i ≡ j

-- where the one list has a place, the other has the way back
abbrev pub TurnsBack : List ℕ → List ℕ → Type 0
TurnsBack there back = (k w : ℕ) → slice_get there k ≡ Some w → slice_get back w ≡ Some k

-- so many entries are at as many places, and the two lists say the same of them
pub record ArePositions (n : ℕ) (entries places : List ℕ) : Type 0 where
  pub all_entries : length entries ≡ n
  pub all_places : length places ≡ n
  pub found : TurnsBack entries places
  pub kept : TurnsBack places entries

-- each is where it was at first
abbrev pub AreFirst : List ℕ → Type 0
AreFirst entries = (k w : ℕ) → slice_get entries k ≡ Some w → w ≡ k

-- an entry comes to a place, and what was there to where it was
pub record IsExchange (was now : List ℕ) (place entry from : ℕ) : Type 0 where
  pub place_within : place < length was
  pub from_within : from < length was
  pub was_there : slice_get was from ≡ Some entry
  pub exchanged : now ≡ swap was place from

-- up to a place the entries are in the order that is wanted
pub record AreBrought {E : Type 0} (first now : List E) (order entries : List ℕ) (n : ℕ) : Type 0 where
  pub long : length now ≡ length first
  pub shown : Shows first entries now
  pub done : (k : ℕ) → k < n → slice_get entries k ≡ slice_get order k
