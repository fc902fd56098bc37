-- Worlds.
use Rattle.std.specs.Prelude.{ℕ, List, [], ◌∷◌, ◌++◌, Option, None, codes, map}
use Rattle.std.specs.Fmt.{decimal}
use Rattle.json.specs.Json.{Json, string}
use Rattle.wit_values.specs.declared.span.Span.{Span}
use Rattle.wit_types.specs.declared.docs.Docs.{Docs}
use Rattle.wit_types.specs.declared.stability.Stability.{Stability}
use Rattle.wit_model.specs.declared.world.World.{World}
use Rattle.wit_model.specs.declared.world.WorldInclude.{WorldInclude}
use Rattle.wit_model.specs.declared.world.IncludeName.{IncludeName}
use Rattle.wit_model.specs.declared.world.WorldKey.{WorldKey}
use Rattle.wit_model.specs.declared.world.WorldKey.TheVariants as key
use Rattle.wit_model.specs.declared.world.WorldItem.{WorldItem}
use Rattle.wit_model.specs.declared.world.WorldItem.TheVariants as item
use Rattle.wit_json.specs.declared.member_words.Word.TheVariants as w
use Rattle.wit_json.specs.declared.worlds.Import.{Import}
use Rattle.wit_json.specs.Values.{at, fields, list, number_json, optional_number, tagged}
use Rattle.wit_json.specs.Metadata.{docs_members, external_members, metadata_members, span_json, stability_members}
use Rattle.wit_json.specs.Functions.{function_json}

-- an interface that is imported or exported; here an external id precedes the docs
abbrev pub import_members : ℕ → Stability → Option (List ℕ) → Option (List ℕ) → Span → List (List ℕ × Json)
import_members id stability external docs span = at w.Id (number_json id) ∷ (stability_members stability ++ (external_members external ++ (docs_members docs ++ at w.Span (span_json span) ∷ [])))

abbrev pub import_json : ℕ → Stability → Option (List ℕ) → Docs → Span → Json
import_json id stability external docs span = fields (import_members id stability external docs.contents span)

-- so of what is borrowed
abbrev pub borrowed_members : Import → List (List ℕ × Json)
borrowed_members i = import_members i.id i.stability.now i.external_id.now i.docs.now.contents i.span

-- a type that a world uses or defines: its id, and the span of its name there
abbrev pub type_members : ℕ → Span → List (List ℕ × Json)
type_members id span = at w.Type_ (number_json id) ∷ at w.Span (span_json span) ∷ []

-- an import or export
abbrev pub item_json : WorldItem → Json
item_json (item.Interface id stability external_id docs span) = tagged w.Interface (import_json id stability external_id docs span)
item_json (item.Function f) = tagged w.Function (function_json f)
item_json (item.Type_ id span) = fields (type_members id span)

-- the key of an import or export by path; no label has a colon
abbrev pub interface_key : ℕ → List ℕ
interface_key place = codes "interface:" ++ decimal place

-- a name, or the id of an interface
abbrev pub world_key : WorldKey → List ℕ
world_key (key.Name name) = name
world_key (key.Interface place) = interface_key place

abbrev pub extern_member : WorldKey → WorldItem → List ℕ × Json
extern_member key item = (world_key key, item_json item)

-- imports or exports by their keys, in order
abbrev pub extern_members : List (WorldKey × WorldItem) → List (List ℕ × Json)
extern_members entries = map (λ e. extern_member e.0 e.1) entries

abbrev pub externs_json : List (WorldKey × WorldItem) → Json
externs_json entries = fields (extern_members entries)

abbrev pub rename_members : IncludeName → List (List ℕ × Json)
rename_members r = at w.Name (string r.name) ∷ at w.As (string r.as_) ∷ []

abbrev pub rename_json : IncludeName → Json
rename_json r = fields (rename_members r)

abbrev pub include_members : WorldInclude → List (List ℕ × Json)
include_members i = stability_members i.stability ++ at w.Id (number_json i.id) ∷ at w.Names (list (map rename_json i.names)) ∷ at w.Span (span_json i.span) ∷ []

abbrev pub include_json : WorldInclude → Json
include_json i = fields (include_members i)

abbrev pub world_prefix : World → List (List ℕ × Json)
world_prefix v = at w.Name (string v.name) ∷ at w.Imports (externs_json v.imports) ∷ at w.Exports (externs_json v.exports) ∷ []

abbrev pub world_back : World → List (List ℕ × Json)
world_back v = at w.Package (optional_number v.package) ∷ (metadata_members v.docs.contents v.stability None ++ at w.Includes (list (map include_json v.includes)) ∷ at w.Span (span_json v.span) ∷ [])

abbrev pub world_members : World → List (List ℕ × Json)
world_members v = world_prefix v ++ world_back v

abbrev pub world_json : World → Json
world_json v = fields (world_members v)
