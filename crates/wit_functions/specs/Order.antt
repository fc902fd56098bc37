-- The places of entries, each with the function that is there, and the order in which setters are placed.
use Rattle.std.specs.Prelude.{◌≡◌, ℕ, List, Option, Some, map, slice_get}
use Rattle.std.specs.List.{enumerate_from}
use Rattle.std.specs.Option.{option_copied}
use denote.Param.Members.{Shared}
use denote.Ref.{Bor}
use Rattle.wit_functions.specs.declared.function.Function.{Function}
use Rattle.wit_functions.specs.MaybeFunction.{HaveOwnNames, goes}
use Rattle.wit_functions.specs.Reordered.{IsOrder}
use Rattle.wit_functions.specs.SettersPlaced.{Computes, HaveDistinctNames, placed, setters_placed}

-- the function at a place
abbrev pub function_there : ℕ × Option (Bor Function) → Option Function
function_there t = option_copied t.1

-- these are the places of items, each with its function
abbrev pub ArePlacesOf : {X : Type 0} → (X → Option Function) → List X → List (ℕ × Option (Bor Function)) → Type 0
ArePlacesOf function_at es places = map {B = ℕ × Option Function} (λ t. (t.0, option_copied t.1)) places ≡ map (λ z. (z.0, function_at z.1)) (enumerate_from 0 es)

-- if no two functions have one name, their setters are placed in this order
abbrev pub IsOrderOf : List (ℕ × Option (Bor Function)) → List ℕ → Type 0
IsOrderOf places order = HaveOwnNames function_there places → order ≡ map (λ t. t.0) (setters_placed (goes function_there) places)

-- entries whose functions calls at their values say
module _ {F V : Type 0} (call : Shared F (Bor V × Unit {0}) (Option (Bor Function))) (f : F) where
  -- this one is at a place
  abbrev pub SaysAt : {K : Type 0} → List (K × V) → ℕ → Option (Bor Function) → Type 0
  SaysAt {K} es place r = (function_at : V → Option Function) → Computes call f function_at → (e : K × V) → slice_get es place ≡ Some e → option_copied r ≡ function_at e.1

  -- these are at the places
  abbrev pub SayAll : {K : Type 0} → List (K × V) → List (ℕ × Option (Bor Function)) → Type 0
  SayAll es places = (function_at : V → Option Function) → Computes call f function_at → ArePlacesOf (λ e. function_at e.1) es places

  -- in this order the setters are placed
  abbrev pub IsSetterOrder : {K : Type 0} → List (K × V) → List ℕ → Type 0
  IsSetterOrder es order = (function_at : V → Option Function) → Computes call f function_at → HaveDistinctNames function_at es → IsOrder es order (placed function_at es)

  -- the setters are placed
  abbrev pub PlacesSetters : {K : Type 0} → List (K × V) → List (K × V) → Type 0
  PlacesSetters old new = (function_at : V → Option Function) → Computes call f function_at → HaveDistinctNames function_at old → new ≡ placed function_at old
