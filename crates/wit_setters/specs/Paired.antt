-- Setters that come after their getters.
use Rattle.std.specs.Prelude.{◌≡◌, ℕ, ◌<◌, true, List, Some, length, slice_get}
use Rattle.wit_functions.specs.declared.function.Function.{Function}
use Rattle.wit_functions.specs.SettersPlaced.{is_getter_of}
use Rattle.wit_functions.specs.MaybeFunction.{is_setter}

-- the getter of the function at a place comes before it, if that is a setter
abbrev pub IsPaired : List Function → ℕ → Type 0
IsPaired fs i = (s : Function) → slice_get fs i ≡ Some s → is_setter (Some s) ≡ true → (j : ℕ) × (g : Function) × (j < i) × (slice_get fs j ≡ Some g) × (is_getter_of s g ≡ true)

abbrev pub ArePaired : List Function → Type 0
ArePaired fs = (i : ℕ) → i < length fs → IsPaired fs i
