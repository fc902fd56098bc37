-- What the iterators over a package have left.
use Rattle.std.specs.Prelude.{ℕ, ◌-◌, List, drop, length, map}
use Rattle.std.specs.List.{range_with_len}
use Rattle.wit_functions.specs.declared.function.Function.{Function}
use Rattle.wit_model.specs.declared.unresolved.UnresolvedPackage.{UnresolvedPackage}

-- the places of a list from one on, each with the package
abbrev pub places_from : {X : Type 0} → UnresolvedPackage → List X → ℕ → List (UnresolvedPackage × ℕ)
places_from p xs next = map (λ place. (p, place)) (range_with_len next (length xs - next))

-- those of the types, of the interfaces and of the worlds
abbrev pub type_places : UnresolvedPackage → ℕ → List (UnresolvedPackage × ℕ)
type_places p next = places_from p p.types next

abbrev pub interface_places : UnresolvedPackage → ℕ → List (UnresolvedPackage × ℕ)
interface_places p next = places_from p p.interfaces next

abbrev pub world_places : UnresolvedPackage → ℕ → List (UnresolvedPackage × ℕ)
world_places p next = places_from p p.worlds next

-- the entries of a map from a place on, each with the package
abbrev pub entries_from : {X : Type 0} → UnresolvedPackage → List X → ℕ → List (UnresolvedPackage × X)
entries_from p xs next = map (λ x. (p, x)) (drop next xs)

-- the functions of a map from a place on, each with the package
abbrev pub functions_from : UnresolvedPackage → List (List ℕ × Function) → ℕ → List (UnresolvedPackage × Function)
functions_from p fs next = map (λ f. (p, f.1)) (drop next fs)
