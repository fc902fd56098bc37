-- The tokens of a value or of its parts, and its text.
use Rattle.std.specs.Prelude.{◌≡◌, ℕ, List, ◌∷◌, ◌++◌, Some}
use Rattle.std.specs.List.{flat_map}
use Rattle.json.specs.Token.{Token}
use Rattle.json.specs.Json.{Json, document}
use Rattle.json.specs.Print.{print}
use Rattle.json.specs.Tree.{json_tokens}

-- the text of a value, on one line, with no spaces
abbrev pub json_text : Json → List ℕ
json_text j = print (json_tokens j)

-- the grammar of JSON reads the text as the value
abbrev pub ReadsAs : List ℕ → Json → Type 0
ReadsAs text j = document text ≡ Some j

-- a key and its value
abbrev pub member_tokens : List ℕ × Json → List Token
member_tokens m = Token.key m.0 ∷ json_tokens m.1

-- the tokens of a value are appended
abbrev pub Adds : List Token → List Token → Json → Type 0
Adds old new j = new ≡ old ++ json_tokens j

-- those of some values are
abbrev pub AddsEach : List Token → List Token → List Json → Type 0
AddsEach old new js = new ≡ old ++ flat_map json_tokens js

-- those of some members are
abbrev pub AddsMembers : List Token → List Token → List (List ℕ × Json) → Type 0
AddsMembers old new ms = new ≡ old ++ flat_map member_tokens ms
