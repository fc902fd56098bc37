-- Groups that are equal but for the texts of their sources have one JSON.
use Rattle.std.proofs.Common.{◌≡◌, ℕ, List, [], ◌∷◌, map, sym, ap, ◌∙◌}
use Rattle.json.specs.Json.{Json, string}
use Rattle.wit_arena.proofs.Common.{UnresolvedPackage, map_map}
use Rattle.wit_json.specs.Group.{packages_of}
use Rattle.wit_json.specs.Laws.{Group, json_of, place_of, stated_of}
use Rattle.wit_json.specs.Values.{at, fields, list, number_json}
use Rattle.wit_json.specs.declared.member_words.Word.TheVariants as w

-- the JSON of a source, by its path and its range
abbrev place_json : List ℕ × ℕ × ℕ → Json
place_json p = fields (at w.Path (string p.0) ∷ at w.Start (number_json p.1) ∷ at w.End (number_json p.2) ∷ [])

abbrev stated_json : List (List ℕ × ℕ × ℕ) × UnresolvedPackage × List UnresolvedPackage → Json
stated_json t = fields (at w.Sources (list (map place_json t.0)) ∷ at w.Packages (list (packages_of t.1 t.2)) ∷ [])

json_by_stated : (g : Group) → stated_json (stated_of g) ≡ json_of g
json_by_stated g = ap (λ (js : List Json). fields (at w.Sources (list js) ∷ at w.Packages (list (packages_of g.1 g.2)) ∷ [])) (map_map place_json place_of g.0)

pub alike_stated : (g h : Group) → stated_of g ≡ stated_of h → json_of g ≡ json_of h
alike_stated g h same = sym (json_by_stated g) ∙ ap stated_json same ∙ json_by_stated h
