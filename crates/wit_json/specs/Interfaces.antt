-- Interfaces.
use Rattle.std.specs.Prelude.{ℕ, List, [], ◌∷◌, ◌++◌, Option, Some, None, map}
use Rattle.json.specs.Json.{Json}
use Rattle.wit_model.specs.declared.interface.Interface.{Interface}
use Rattle.wit_json.specs.declared.member_words.Word.TheVariants as w
use Rattle.wit_json.specs.Values.{at, fields, number_json, optional_number, optional_text}
use Rattle.wit_json.specs.Metadata.{metadata_members, span_json}
use Rattle.wit_json.specs.Functions.{function_json}

-- a map in its order
abbrev pub table_json : {A : Type 0} → (A → Json) → List (List ℕ × A) → Json
table_json f entries = fields (map (λ e. (e.0, f e.1)) entries)

abbrev pub clone_members : Option ℕ → List (List ℕ × Json)
clone_members None = []
clone_members (Some i) = at w.CloneOf (number_json i) ∷ []

abbrev pub interface_prefix : Interface → List (List ℕ × Json)
interface_prefix i = at w.Name (optional_text i.name) ∷ at w.Types (table_json number_json i.types) ∷ at w.Functions (table_json function_json i.functions) ∷ []

abbrev pub interface_back : Interface → List (List ℕ × Json)
interface_back i = at w.Package (optional_number i.package) ∷ (clone_members i.clone_of ++ at w.Span (span_json i.span) ∷ [])

abbrev pub interface_members : Interface → List (List ℕ × Json)
interface_members i = interface_prefix i ++ (metadata_members i.docs.contents i.stability None ++ interface_back i)

abbrev pub interface_json : Interface → Json
interface_json i = fields (interface_members i)
