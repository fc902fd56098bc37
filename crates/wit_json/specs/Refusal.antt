-- A refusal: the number of its rule, where it is, if it is in a source, and its message.
use Rattle.std.specs.Prelude.{ℕ, List, [], ◌∷◌, ◌++◌, Option, Some, None}
use Rattle.json.specs.Json.{Json, string}
use Rattle.wit_json.specs.declared.refusal.Place.{Place}
use Rattle.wit_json.specs.declared.member_words.Word.TheVariants as w
use Rattle.wit_json.specs.Values.{at, fields, number_json, tagged}

-- the path of a source, and a range in its text
abbrev pub Range : Type 0
Range = List ℕ × ℕ × ℕ

abbrev pub range_of : Place → Range
range_of p = (p.path.now, p.start, p.end)

abbrev pub optional_range : Option Place → Option Range
optional_range None = None
optional_range (Some p) = Some (range_of p)

abbrev pub range_members : Range → List (List ℕ × Json)
range_members r = at w.Path (string r.0) ∷ at w.Start (number_json r.1) ∷ at w.End (number_json r.2) ∷ []

-- none if it is in no source
abbrev pub place_members : Option Range → List (List ℕ × Json)
place_members None = []
place_members (Some r) = range_members r

abbrev pub refusal_members : ℕ → Option Range → List ℕ → List (List ℕ × Json)
refusal_members rule place message = at w.Rule (number_json rule) ∷ (place_members place ++ at w.Message (string message) ∷ [])

-- the same of a refusal whose path is of a reference
abbrev pub members_at : ℕ → Option Place → List ℕ → List (List ℕ × Json)
members_at rule place message = refusal_members rule (optional_range place) message

abbrev pub refusal_json : ℕ → Option Range → List ℕ → Json
refusal_json rule place message = tagged w.Error (fields (refusal_members rule place message))

abbrev pub refusal_at : ℕ → Option Place → List ℕ → Json
refusal_at rule place message = refusal_json rule (optional_range place) message
