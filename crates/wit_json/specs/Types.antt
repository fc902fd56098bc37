-- The entries of the arena of types.
use Rattle.std.specs.Prelude.{ℕ, List, [], ◌∷◌, ◌++◌}
use Rattle.json.specs.Json.{Json, null}
use Rattle.wit_types.specs.declared.types.TypeOwner.{TypeOwner}
use Rattle.wit_types.specs.declared.types.TypeOwner.TheVariants as owner
use Rattle.wit_types.specs.declared.types.TypeDef.{TypeDef}
use Rattle.wit_json.specs.declared.member_words.Word.TheVariants as w
use Rattle.wit_json.specs.Values.{at, fields, number_json, optional_text, tagged}
use Rattle.wit_json.specs.Metadata.{metadata_members, span_json}
use Rattle.wit_json.specs.Kinds.{kind_json}

abbrev pub owner_json : TypeOwner → Json
owner_json (owner.World place) = tagged w.World (number_json place)
owner_json (owner.Interface i) = tagged w.Interface (number_json i)
owner_json owner.None = null

-- its name, what it is, and its owner
abbrev pub def_prefix : TypeDef → List (List ℕ × Json)
def_prefix t = at w.Name (optional_text t.name) ∷ at w.Kind (kind_json t.kind) ∷ at w.Owner (owner_json t.owner) ∷ []

abbrev pub def_members : TypeDef → List (List ℕ × Json)
def_members t = def_prefix t ++ (metadata_members t.docs.contents t.stability t.external_id ++ at w.Span (span_json t.span) ∷ [])

abbrev pub def_json : TypeDef → Json
def_json t = fields (def_members t)
