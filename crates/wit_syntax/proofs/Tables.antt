-- Where names are in a table of rows.
use Rattle.std.proofs.Common.{◌≡◌, ℕ, List, [], Option, Some, None, refl, get_or}
use Rattle.std.specs.Prelude.{slice_get}
use Rattle.std.specs.Str.{bytes_eq}
use Rattle.std.proofs.lemmas.List.Quantifiers.{position-Some}
use Rattle.std.proofs.lemmas.Option.{slice_get-get_or}
use Rattle.wit_graph.specs.Table.{Row, place_of}
use Rattle.wit_syntax.proofs.Names.{name_equal}

-- the row at the place of a name has the name
pub place_of-Some : (rs : List Row) (name : List ℕ) (b : ℕ) → place_of rs name ≡ Some b → (r : Row) × (slice_get rs b ≡ Some r) × (name ≡ r.name)
place_of-Some rs name b some =
    let d : Row = record { name = name; needs = [] } in
    let it = position-Some (λ (row : Row). bytes_eq name row.name) rs b d some in
    (get_or rs b d, slice_get-get_or rs b d it.0, name_equal name (get_or rs b d).name it.1)

pub none_if : (o : Option ℕ) → ((i : ℕ) → o ≡ Some i → ⊥) → o ≡ None
none_if None h = refl
none_if (Some i) h = absurd (h i refl)
