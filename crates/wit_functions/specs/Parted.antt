-- Items parted, on the way back through them, into setters that come before their getter and others.
use Rattle.std.specs.Prelude.{◌≡◌, ℕ, ◌++◌, ◌||◌, Bool, List, [], ◌∷◌, Option, Some, None, reverse, if◌then◌else◌, nat_eq}
use Rattle.std.specs.BTreeMap.{get_by_text}
use Rattle.std.specs.BTreeSet.{contains_text}
use Rattle.std.specs.Cmp.Lexicographic.{pointwise}
use Rattle.std.specs.List.{filter, list_any}
use Rattle.std.specs.Option.{option_and_then, option_to_list}
use Rattle.wit_functions.specs.SettersPlaced.{early, others, both}
use Rattle.wit_functions.specs.declared.function.Function.{Function}
use Rattle.wit_functions.specs.declared.parted.Parted.{Parted}
use Rattle.wit_functions.specs.MaybeFunction.{HaveOwnNames, goes, offered, wanted}

-- a name that is one of these
abbrev pub known : (List ℕ → Bool) → Option (List ℕ) → Option (List ℕ)
known has None = None
known has (Some name) = if has name then Some name else None

-- what waits under each name, but under this one
abbrev pub without : {X : Type 0} → Option (List ℕ) → (List ℕ → Option X) → List ℕ → Option X
without None waits name = waits name
without (Some gone) waits name = if pointwise nat_eq gone name then None else waits name

-- besides those names are these, of which this one is offered
abbrev pub OffersBeside : Option (List ℕ) → (List ℕ → Bool) → (List ℕ → Bool) → Type 0
OffersBeside offer old new = (name : List ℕ) → new name ≡ (both (pointwise nat_eq) (Some name) offer || old name)

module _ {X : Type 0} (function_at : X → Option Function) where
  -- the setter that waits for an item
  abbrev pub waiting_for : (List ℕ → Option X) → X → Option X
  waiting_for waits g = option_and_then waits (offered (function_at g))

  -- each item, and directly after it the setter that waits for it, which waits no longer
  abbrev pub served : (List ℕ → Option X) → List X → List X
  served waits [] = []
  served waits (g ∷ gs) = g ∷ option_to_list (waiting_for waits g) ++ served (without (offered (function_at g)) waits) gs

  -- the items are parted: those that wait for none, the last first, the names of getters, and under these the setters that wait
  pub record IsParted (es kept : List X) (has : List ℕ → Bool) (waits : List ℕ → Option X) : Type 0 where
    pub stay : reverse kept ≡ others (goes function_at) es
    pub offer : (name : List ℕ) → has name ≡ list_any (λ g. both (pointwise nat_eq) (Some name) (offered (function_at g))) es
    pub wait : (name : List ℕ) → option_to_list (waits name) ≡ filter (λ s. both (pointwise nat_eq) (wanted (function_at s)) (Some name)) (early (goes function_at) es)

  -- these items are parted so
  abbrev pub AreParted : List X → Parted X → Type 0
  AreParted es parted = IsParted es parted.others.items (contains_text parted.getters) (get_by_text parted.waiting)

  -- an item is parted before any that were
  abbrev pub PartsNext : X → Parted X → Parted X → Type 0
  PartsNext e old new = (es : List X) → HaveOwnNames function_at (e ∷ es) → AreParted es old → AreParted (e ∷ es) new
