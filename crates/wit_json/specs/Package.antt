-- A package whose names are resolved, but not those of other packages.
use Rattle.std.specs.Prelude.{ℕ, List, [], ◌∷◌, ◌++◌, map}
use Rattle.json.specs.Json.{Json, string}
use Rattle.wit_values.specs.declared.span.Span.{Span}
use Rattle.wit_types.specs.declared.stability.Stability.{Stability}
use Rattle.wit_package_names.specs.declared.package_name.PackageName.{PackageName}
use Rattle.wit_package_names.specs.PackageName.{name_text}
use Rattle.wit_model.specs.declared.ast_item.AstItem.{AstItem}
use Rattle.wit_model.specs.declared.ast_item.AstItem.TheVariants as item
use Rattle.wit_model.specs.declared.unresolved.UnresolvedPackage.{UnresolvedPackage}
use Rattle.wit_json.specs.declared.member_words.Word.TheVariants as w
use Rattle.wit_json.specs.Values.{at, fields, list, number_json, tagged}
use Rattle.wit_json.specs.Metadata.{docs_members, span_json, stability_json}
use Rattle.wit_json.specs.Types.{def_json}
use Rattle.wit_json.specs.Interfaces.{interface_json, table_json}
use Rattle.wit_json.specs.Worlds.{world_json}

abbrev pub ast_item_json : AstItem → Json
ast_item_json (item.Interface i) = tagged w.Interface (number_json i)
ast_item_json (item.World v) = tagged w.World (number_json v)

-- an item of another package, and the stability of each path that leads to it
abbrev pub foreign_json : AstItem × List Stability → Json
foreign_json e = list (ast_item_json e.0 ∷ list (map stability_json e.1) ∷ [])

abbrev pub dep_member : PackageName → List (List ℕ × (AstItem × List Stability)) → List ℕ × Json
dep_member name items = (name_text name, table_json foreign_json items)

-- the other packages with their items, both in order
abbrev pub dep_members : List (PackageName × List (List ℕ × (AstItem × List Stability))) → List (List ℕ × Json)
dep_members deps = map (λ d. dep_member d.0 d.1) deps

abbrev pub deps_json : List (PackageName × List (List ℕ × (AstItem × List Stability))) → Json
deps_json deps = fields (dep_members deps)

-- a type that a handle wants to be a resource, and where it is written
abbrev pub required_json : ℕ × Span → Json
required_json r = list (number_json r.0 ∷ span_json r.1 ∷ [])

abbrev pub name_members : PackageName → List (List ℕ × Json)
name_members name = at w.Name (string (name_text name)) ∷ []

abbrev pub package_prefix : UnresolvedPackage → List (List ℕ × Json)
package_prefix p = name_members p.name ++ at w.Worlds (list (map world_json p.worlds)) ∷ at w.Interfaces (list (map interface_json p.interfaces)) ∷ at w.Types (list (map def_json p.types)) ∷ []

abbrev pub package_middle : UnresolvedPackage → List (List ℕ × Json)
package_middle p = at w.ForeignDeps (deps_json p.foreign_deps) ∷ (docs_members p.docs.contents ++ at w.PackageNameSpan (span_json p.name_span) ∷ [])

abbrev pub package_back : UnresolvedPackage → List (List ℕ × Json)
package_back p = at w.UnknownTypeSpans (list (map span_json p.unknown_type_spans)) ∷ at w.ForeignDepSpans (list (map span_json p.foreign_dep_spans)) ∷ at w.RequiredResourceTypes (list (map required_json p.required_resource_types)) ∷ []

abbrev pub package_members : UnresolvedPackage → List (List ℕ × Json)
package_members p = package_prefix p ++ (package_middle p ++ package_back p)

abbrev pub package_json : UnresolvedPackage → Json
package_json p = fields (package_members p)
