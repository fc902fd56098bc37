-- What holds of the JSON of all groups.
use Rattle.std.specs.Prelude.{◌≡◌, ℕ, ◌+◌, List, All, length, map, string_bytes}
use Rattle.json.specs.Json.{Json}
use Rattle.json.specs.Strict.{HasUniqueKeys}
use Rattle.wit_lex.specs.declared.source.Source.{Source}
use Rattle.wit_model.specs.declared.unresolved.UnresolvedPackage.{UnresolvedPackage}
use Rattle.wit_json.specs.Group.{group_json}
use Rattle.wit_json.specs.DistinctKeys.{HasOwnEntries}
use Rattle.wit_json.specs.Numbers.{HasShortNumbers}
use Rattle.wit_json.specs.PlainPackages.{IsPlainPackage}

-- sources, the package that they make, and those that are nested in them
abbrev pub Group : Type 0
Group = List Source × UnresolvedPackage × List UnresolvedPackage

abbrev pub json_of : Group → Json
json_of g = group_json g.0 g.1 g.2

-- versions and names are the only ones with their texts
pub record IsPlain (g : Group) : Type 0 where
  pub main : IsPlainPackage g.1
  pub nested : All IsPlainPackage g.2

-- no map of its packages has a key twice
pub record HasOwnMaps (g : Group) : Type 0 where
  pub main : HasOwnEntries g.1
  pub nested : All HasOwnEntries g.2

-- no object in the JSON of a group has a key twice
abbrev pub KeysAreUnique : Type 0
KeysAreUnique = (g : Group) → HasOwnMaps g → IsPlain g → HasUniqueKeys (json_of g)

-- the path of a source, and where it begins and ends
abbrev pub place_of : Source → List ℕ × ℕ × ℕ
place_of s = (string_bytes s.path, s.offset, s.offset + length (string_bytes s.contents))

-- all of a group but the texts of its sources
abbrev pub stated_of : Group → List (List ℕ × ℕ × ℕ) × UnresolvedPackage × List UnresolvedPackage
stated_of g = (map place_of g.0, g.1, g.2)

-- two groups with one JSON are equal, but for the texts of their sources
abbrev pub JsonDetermines : Type 0
JsonDetermines = (g h : Group) → IsPlain g → IsPlain h → HasShortNumbers (json_of g) → json_of g ≡ json_of h → stated_of g ≡ stated_of h
