-- Setters put directly after their getters.
use Rattle.std.specs.Prelude.{◌≡◌, ℕ, ◌&&◌, Bool, true, false, List, [], ◌∷◌, Option, Some, None, codes, if◌then◌else◌, nat_eq}
use Rattle.std.specs.Cmp.Lexicographic.{pointwise}
use Rattle.std.specs.Fn.{FnReturnsAt}
use Rattle.std.specs.List.{IsDistinct, filter, flat_map, list_any}
use Rattle.std.specs.Option.{option_copied, option_map_or}
use denote.Param.Members.{Shared}
use denote.Ref.{Bor}
use Rattle.wit_names.specs.Prefix.{rest_after}
use Rattle.wit_functions.specs.declared.function.Function.{Function}
use Rattle.wit_functions.specs.declared.function.FunctionKind.{FunctionKind}
use Rattle.wit_functions.specs.declared.function.FunctionKind.TheVariants as kind

-- of a setter's kind, the prefix of its name and that of its getter's name
abbrev pub prefixes : FunctionKind → Option (List ℕ × List ℕ)
prefixes kind.Setter = Some (codes "[set]", codes "[get]")
prefixes (kind.MethodSetter r) = Some (codes "[method][set]", codes "[method][get]")
prefixes (kind.StaticSetter r) = Some (codes "[static][set]", codes "[static][get]")
prefixes _ = None

-- a getter's kind
abbrev pub is_getter : FunctionKind → Bool
is_getter kind.Getter = true
is_getter (kind.MethodGetter r) = true
is_getter (kind.StaticGetter r) = true
is_getter _ = false

-- both are there, and pass the test together
abbrev pub both : {A B : Type 0} → (A → B → Bool) → Option A → Option B → Bool
both test p q = option_map_or (λ a. option_map_or (test a) q false) p false

-- after the one prefix the first name goes on as the second does after the other
abbrev pub goes_on_alike : Option (List ℕ × List ℕ) → List ℕ → List ℕ → Bool
goes_on_alike f s g = option_map_or (λ (f : List ℕ × List ℕ). both (pointwise nat_eq) (rest_after f.0 s) (rest_after f.1 g)) f false

-- g is the getter of the setter s: its name is that of s with `[get]` for `[set]`
abbrev pub is_getter_of : Function → Function → Bool
is_getter_of s g = is_getter g.kind && goes_on_alike (prefixes s.kind) s.name g.name

-- each call at a value shows what `says` says of it
abbrev pub Computes : {F V : Type 0} → Shared F (Bor V × Unit {0}) (Option (Bor Function)) → F → (V → Option Function) → Type 0
Computes {F} {V} g f function_at = (x : V) (r : Option (Bor Function)) → FnReturnsAt g f x r → option_copied r ≡ function_at x

-- the setters that come before their getter, where the test says a setter's getter
abbrev pub early : {X : Type 0} → (X → X → Bool) → List X → List X
early goes [] = []
early goes (e ∷ es) = if list_any (goes e) es then e ∷ early goes es else early goes es

-- the list without them
abbrev pub others : {X : Type 0} → (X → X → Bool) → List X → List X
others goes [] = []
others goes (e ∷ es) = if list_any (goes e) es then others goes es else e ∷ others goes es

-- an element, and directly after it those of the setters whose getter it is
abbrev pub with_setters : {X : Type 0} → (X → X → Bool) → List X → X → List X
with_setters goes setters g = g ∷ filter (λ s. goes s g) setters

-- the setters that come before their getter are taken out, and put directly after it
abbrev pub setters_placed : {X : Type 0} → (X → X → Bool) → List X → List X
setters_placed goes es = flat_map (with_setters goes (early goes es)) (others goes es)

-- the name of a function, where there is one
abbrev pub name_in : Option Function → List (List ℕ)
name_in None = []
name_in (Some f) = f.name ∷ []

module _ {K V : Type 0} (function_at : V → Option Function) where
  -- the function of the second entry is the getter of that of the first, a setter
  abbrev pub pairs : K × V → K × V → Bool
  pairs s g = both is_getter_of (function_at s.1) (function_at g.1)

  -- the names of the functions of the entries
  abbrev pub stated_names : List (K × V) → List (List ℕ)
  stated_names es = flat_map (λ e. name_in (function_at e.1)) es

  -- no two functions have one name
  abbrev pub HaveDistinctNames : List (K × V) → Type 0
  HaveDistinctNames es = IsDistinct (pointwise nat_eq) (stated_names es)

  -- the entries, with each setter that came before its getter directly after it
  abbrev pub placed : List (K × V) → List (K × V)
  placed es = setters_placed pairs es
