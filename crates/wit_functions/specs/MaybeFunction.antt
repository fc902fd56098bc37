-- The names by which a setter finds its getter, among items of which some are functions.
use Rattle.std.specs.Prelude.{ℕ, ◌++◌, Bool, false, List, Option, Some, None, if◌then◌else◌, nat_eq}
use Rattle.std.specs.Cmp.Lexicographic.{pointwise}
use Rattle.std.specs.List.{IsDistinct, flat_map}
use Rattle.std.specs.Option.{is_some, option_map}
use Rattle.wit_names.specs.Prefix.{rest_after}
use Rattle.wit_functions.specs.SettersPlaced.{prefixes, is_getter, name_in, both, is_getter_of}
use Rattle.wit_functions.specs.declared.function.Function.{Function}

-- it is a function, and a setter
abbrev pub is_setter : Option Function → Bool
is_setter None = false
is_setter (Some f) = is_some (prefixes f.kind)

-- a name with the second of two prefixes in place of the first
abbrev pub turned : Option (List ℕ × List ℕ) → List ℕ → Option (List ℕ)
turned None name = None
turned (Some f) name = option_map (λ rest. f.1 ++ rest) (rest_after f.0 name)

-- the name of the getter that a setter wants
abbrev pub wanted : Option Function → Option (List ℕ)
wanted None = None
wanted (Some f) = turned (prefixes f.kind) f.name

-- the name that a getter offers
abbrev pub offered : Option Function → Option (List ℕ)
offered None = None
offered (Some f) = if is_getter f.kind then Some f.name else None

module _ {X : Type 0} (function_at : X → Option Function) where
  -- the one is a setter, and the other its getter
  abbrev pub goes : X → X → Bool
  goes s g = both is_getter_of (function_at s) (function_at g)

  -- no two functions have one name
  abbrev pub HaveOwnNames : List X → Type 0
  HaveOwnNames es = IsDistinct (pointwise nat_eq) (flat_map (λ e. name_in (function_at e)) es)
