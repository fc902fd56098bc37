-- A package and those that are nested in it, with the sources to which their spans lead.
use Rattle.std.specs.Prelude.{ℕ, ◌+◌, List, [], ◌∷◌, length, map, string_bytes}
use Rattle.json.specs.Json.{Json, string}
use Rattle.wit_lex.specs.declared.source.Source.{Source}
use Rattle.wit_model.specs.declared.unresolved.UnresolvedPackage.{UnresolvedPackage}
use Rattle.wit_json.specs.declared.member_words.Word.TheVariants as w
use Rattle.wit_json.specs.Values.{at, fields, list, number_json}
use Rattle.wit_json.specs.Package.{package_json}

-- the path of a source, and its range over all sources
abbrev pub source_members : Source → List (List ℕ × Json)
source_members s = at w.Path (string (string_bytes s.path)) ∷ at w.Start (number_json s.offset) ∷ at w.End (number_json (s.offset + length (string_bytes s.contents))) ∷ []

abbrev pub source_json : Source → Json
source_json s = fields (source_members s)

-- a package, and then those that are nested in its sources
abbrev pub packages_of : UnresolvedPackage → List UnresolvedPackage → List Json
packages_of main nested = package_json main ∷ map package_json nested

abbrev pub group_members : List Source → UnresolvedPackage → List UnresolvedPackage → List (List ℕ × Json)
group_members sources main nested = at w.Sources (list (map source_json sources)) ∷ at w.Packages (list (packages_of main nested)) ∷ []

-- the group
abbrev pub group_json : List Source → UnresolvedPackage → List UnresolvedPackage → Json
group_json sources main nested = fields (group_members sources main nested)
