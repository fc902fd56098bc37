-- Interfaces, worlds and packages are given by their JSON, and groups but for the texts of their sources.
use Rattle.std.proofs.Common.{◌≡◌, ℕ, List, [], ◌∷◌, ap, refl, subst}
use Rattle.std.specs.Prelude.{⊤, Some, All, map}
use Rattle.json.specs.Json.{Json, string}
use Rattle.wit_values.specs.declared.span.Span.{Span}
use Rattle.wit_types.specs.declared.stability.Stability.{Stability}
use Rattle.wit_package_names.specs.PackageName.{name_text}
use Rattle.wit_package_names.specs.declared.package_name.PackageName.{PackageName}
use Rattle.wit_model.specs.declared.ast_item.AstItem.{AstItem}
use Rattle.wit_model.specs.declared.ast_item.AstItem.TheVariants as ast
use Rattle.wit_model.specs.declared.interface.Interface.{Interface}
use Rattle.wit_model.specs.declared.unresolved.UnresolvedPackage.{UnresolvedPackage}
use Rattle.wit_model.specs.declared.world.World.{World}
use Rattle.wit_model.specs.declared.world.WorldInclude.{WorldInclude}
use Rattle.wit_model.specs.declared.world.IncludeName.{IncludeName}
use Rattle.wit_model.specs.declared.world.WorldKey.{WorldKey}
use Rattle.wit_model.specs.declared.world.WorldItem.{WorldItem}
use Rattle.wit_model.specs.declared.world.WorldItem.TheVariants as item
use Rattle.wit_lex.specs.declared.source.Source.{Source}
use Rattle.wit_json.specs.declared.member_words.Word.TheVariants as w
use Rattle.wit_json.specs.Values.{at, fields, list, number_json}
use Rattle.wit_json.specs.Metadata.{span_json, stability_json}
use Rattle.wit_json.specs.Types.{def_json}
use Rattle.wit_json.specs.Functions.{function_json}
use Rattle.wit_json.specs.Interfaces.{interface_json, table_json}
use Rattle.wit_json.specs.Worlds.{externs_json, include_json, item_json, rename_json, world_json, world_key}
use Rattle.wit_json.specs.Package.{ast_item_json, deps_json, foreign_json, package_json, required_json}
use Rattle.wit_json.specs.Group.{source_json}
use Rattle.wit_json.specs.Numbers.{HasShortNumbers}
use Rattle.wit_json.specs.PlainPackages.{HasVersions, IsPlainDep, IsPlainExtern, IsPlainInterface, IsPlainItem, IsPlainPackage, IsPlainWorld}
use Rattle.wit_json.specs.Laws.{Group, IsPlain, json_of, place_of, stated_of}
use Rattle.wit_json.specs.MemberWords.{word}
use Rattle.wit_json.proofs.Objects.{Shape, have}
use Rattle.wit_json.proofs.Objects.Shape.{End}
use Rattle.wit_json.proofs.Shapes.{group_apart, group_shape, import_apart, import_shape, include_apart, include_shape, interface_apart, interface_shape, package_apart, package_shape, rename_apart, rename_shape, source_apart, source_keys, type_apart, type_shape, world_apart, world_shape}
use Rattle.wit_json.proofs.Same.{Same, each_determines, fields_same, list_determines, map_determines, more_same, number_determines, option_each, optional_number_determines, optional_text_determines, pair_same, string_determines, tagged_same, unlike}
use Rattle.wit_json.proofs.Texts.{name_determines, world_key_determines}
use Rattle.wit_json.proofs.StatedTypes.{def_determines, docs_determines, external_determines, function_determines, known_determines, span_determines, stability_determines}

-- interfaces

types_determine : (xs ys : List (List ℕ × ℕ)) → Same (table_json number_json xs) (table_json number_json ys) → xs ≡ ys
types_determine xs ys s =
    map_determines (λ e. ⊤) (λ e. e.0) (λ e. number_json e.1) (λ x y p q name t. let id = number_determines x.1 y.1 t in (λ i. (name i, id i)))
    xs ys (λ k d within. tt) (λ k d within. tt) s

pub interface_determines : (a b : Interface) → IsPlainInterface a → IsPlainInterface b → Same (interface_json a) (interface_json b) → a ≡ b
interface_determines a b p q s =
    let parts = fields_same interface_apart (interface_shape a) (interface_shape b) s in
    let name = optional_text_determines a.name b.name parts.0 in
    let types = types_determine a.types b.types parts.1.0 in
    let functions = map_determines (λ f. HasVersions f.1.stability) (λ e. e.0) (λ e. function_json e.1) (λ x y u v key t. let f = function_determines x.1 y.1 u v t in (λ i. (key i, f i))) a.functions b.functions p.functions q.functions parts.1.1.0 in
    let docs = docs_determines a.docs b.docs parts.1.1.1.0 in
    let stability = known_determines a.stability b.stability p.stability q.stability parts.1.1.1.1.0 in
    let joined = optional_number_determines a.package b.package parts.1.1.1.1.1.1.0 in
    let clone = option_each number_json number_determines a.clone_of b.clone_of parts.1.1.1.1.1.1.1.0 in
    let span = span_determines a.span b.span parts.1.1.1.1.1.1.1.1.0 in
    (λ i. record { name = name i; types = types i; functions = functions i; docs = docs i; stability = stability i; «package» = joined i; span = span i; clone_of = clone i })

-- worlds

item_determines : (a b : WorldItem) → IsPlainItem a → IsPlainItem b → Same (item_json a) (item_json b) → a ≡ b
unfolding word
item_determines (item.Interface id stability external docs span) (item.Interface id' stability' external' docs' span') p q s =
    let parts = fields_same import_apart (import_shape id stability external docs.contents span) (import_shape id' stability' external' docs'.contents span') (tagged_same s) in
    let ids = number_determines id id' parts.0 in
    let known = known_determines stability stability' p q parts.1.0 in
    let externals = external_determines external external' parts.1.1.0 in
    let texts = docs_determines docs docs' parts.1.1.1.0 in
    let spans = span_determines span span' parts.1.1.1.1.0 in
    (λ i. item.Interface (ids i) (known i) (externals i) (texts i) (spans i))
item_determines (item.Function f) (item.Function g) p q s = ap item.Function (function_determines f g p q (tagged_same s))
item_determines (item.Type_ id span) (item.Type_ id' span') p q s =
    let parts = fields_same type_apart (type_shape id span) (type_shape id' span') s in
    let ids = number_determines id id' parts.0 in
    let spans = span_determines span span' parts.1.0 in
    (λ i. item.Type_ (ids i) (spans i))
item_determines a b p q s = absurd (unlike s refl)

externs_determine : (xs ys : List (WorldKey × WorldItem)) → All IsPlainExtern xs → All IsPlainExtern ys → Same (externs_json xs) (externs_json ys) → xs ≡ ys
externs_determine xs ys p q s =
    map_determines IsPlainExtern (λ e. world_key e.0) (λ e. item_json e.1) (λ x y u v texts t. let key = world_key_determines x.0 y.0 u.0 v.0 texts in let what = item_determines x.1 y.1 u.1 v.1 t in (λ i. (key i, what i)))
    xs ys p q s

rename_determines : (a b : IncludeName) → Same (rename_json a) (rename_json b) → a ≡ b
rename_determines a b s =
    let parts = fields_same rename_apart (rename_shape a) (rename_shape b) s in
    let name = string_determines a.name b.name parts.0 in
    let new = string_determines a.as_ b.as_ parts.1.0 in
    (λ i. record { name = name i; as_ = new i })

include_determines : (a b : WorldInclude) → HasVersions a.stability → HasVersions b.stability → Same (include_json a) (include_json b) → a ≡ b
include_determines a b p q s =
    let parts = fields_same include_apart (include_shape a) (include_shape b) s in
    let stability = known_determines a.stability b.stability p q parts.0 in
    let id = number_determines a.id b.id parts.1.0 in
    let names = each_determines rename_json rename_determines a.names b.names parts.1.1.0 in
    let span = span_determines a.span b.span parts.1.1.1.0 in
    (λ i. record { stability = stability i; id = id i; names = names i; span = span i })

world_determines : (a b : World) → IsPlainWorld a → IsPlainWorld b → Same (world_json a) (world_json b) → a ≡ b
world_determines a b p q s =
    let parts = fields_same world_apart (world_shape a) (world_shape b) s in
    let name = string_determines a.name b.name parts.0 in
    let imports = externs_determine a.imports b.imports p.imports q.imports parts.1.0 in
    let exports = externs_determine a.exports b.exports p.exports q.exports parts.1.1.0 in
    let joined = optional_number_determines a.package b.package parts.1.1.1.0 in
    let docs = docs_determines a.docs b.docs parts.1.1.1.1.0 in
    let stability = known_determines a.stability b.stability p.stability q.stability parts.1.1.1.1.1.0 in
    let includes = list_determines (λ i. HasVersions i.stability) include_json include_determines a.includes b.includes p.includes q.includes parts.1.1.1.1.1.1.1.0 in
    let span = span_determines a.span b.span parts.1.1.1.1.1.1.1.1.0 in
    (λ i. record { name = name i; imports = imports i; exports = exports i; «package» = joined i; docs = docs i; stability = stability i; includes = includes i; span = span i })

-- packages

ast_determines : (a b : AstItem) → Same (ast_item_json a) (ast_item_json b) → a ≡ b
unfolding word
ast_determines (ast.Interface x) (ast.Interface y) s = ap ast.Interface (number_determines x y (tagged_same s))
ast_determines (ast.World x) (ast.World y) s = ap ast.World (number_determines x y (tagged_same s))
ast_determines a b s = absurd (unlike s refl)

foreign_determines : (a b : AstItem × List Stability) → All HasVersions a.1 → All HasVersions b.1 → Same (foreign_json a) (foreign_json b) → a ≡ b
foreign_determines a b p q s =
    let parts = pair_same s in
    let what = ast_determines a.0 b.0 parts.0 in
    let visits = list_determines HasVersions stability_json stability_determines a.1 b.1 p q parts.1 in
    (λ i. (what i, visits i))

items_determine : (xs ys : List (List ℕ × (AstItem × List Stability))) → All (λ e. All HasVersions e.1.1) xs → All (λ e. All HasVersions e.1.1) ys → Same (table_json foreign_json xs) (table_json foreign_json ys) → xs ≡ ys
items_determine xs ys p q s =
    map_determines (λ e. All HasVersions e.1.1) (λ e. e.0) (λ e. foreign_json e.1) (λ x y u v name t. let what = foreign_determines x.1 y.1 u v t in (λ i. (name i, what i)))
    xs ys p q s

deps_determine : (xs ys : List (PackageName × List (List ℕ × (AstItem × List Stability)))) → All IsPlainDep xs → All IsPlainDep ys → Same (deps_json xs) (deps_json ys) → xs ≡ ys
deps_determine xs ys p q s =
    map_determines IsPlainDep (λ d. name_text d.0) (λ d. table_json foreign_json d.1) (λ x y u v texts t. let name = name_determines x.0 y.0 u.name v.name texts in let items = items_determine x.1 y.1 u.items v.items t in (λ i. (name i, items i)))
    xs ys p q s

required_determines : (a b : ℕ × Span) → Same (required_json a) (required_json b) → a ≡ b
required_determines a b s =
    let parts = pair_same s in
    let id = number_determines a.0 b.0 parts.0 in
    let span = span_determines a.1 b.1 parts.1 in
    (λ i. (id i, span i))

pub package_determines : (a b : UnresolvedPackage) → IsPlainPackage a → IsPlainPackage b → Same (package_json a) (package_json b) → a ≡ b
package_determines a b p q s =
    let parts = fields_same package_apart (package_shape a) (package_shape b) s in
    let name = name_determines a.name b.name p.name q.name (string_determines (name_text a.name) (name_text b.name) parts.0) in
    let worlds = list_determines IsPlainWorld world_json world_determines a.worlds b.worlds p.worlds q.worlds parts.1.0 in
    let interfaces = list_determines IsPlainInterface interface_json interface_determines a.interfaces b.interfaces p.interfaces q.interfaces parts.1.1.0 in
    let types = list_determines (λ t. HasVersions t.stability) def_json def_determines a.types b.types p.types q.types parts.1.1.1.0 in
    let deps = deps_determine a.foreign_deps b.foreign_deps p.deps q.deps parts.1.1.1.1.0 in
    let docs = docs_determines a.docs b.docs parts.1.1.1.1.1.0 in
    let span = span_determines a.name_span b.name_span parts.1.1.1.1.1.1.0 in
    let unknown = each_determines span_json span_determines a.unknown_type_spans b.unknown_type_spans parts.1.1.1.1.1.1.1.0 in
    let named = each_determines span_json span_determines a.foreign_dep_spans b.foreign_dep_spans parts.1.1.1.1.1.1.1.1.0 in
    let required = each_determines required_json required_determines a.required_resource_types b.required_resource_types parts.1.1.1.1.1.1.1.1.1.0 in
    (λ i. record { name = name i; worlds = worlds i; interfaces = interfaces i; types = types i; foreign_deps = deps i; docs = docs i; name_span = span i; unknown_type_spans = unknown i; foreign_dep_spans = named i; required_resource_types = required i })

-- sources

abbrev place_members : List ℕ × ℕ × ℕ → List (List ℕ × Json)
place_members p = at w.Path (string p.0) ∷ at w.Start (number_json p.1) ∷ at w.End (number_json p.2) ∷ []

abbrev place_json : List ℕ × ℕ × ℕ → Json
place_json p = fields (place_members p)

place_shape : (p : List ℕ × ℕ × ℕ) → Shape source_keys (Some (string p.0) ∷ Some (number_json p.1) ∷ Some (number_json p.2) ∷ []) (place_members p)
place_shape p = have (have (have End))

place_determines : (a b : List ℕ × ℕ × ℕ) → Same (place_json a) (place_json b) → a ≡ b
place_determines a b s =
    let parts = fields_same source_apart (place_shape a) (place_shape b) s in
    let path = string_determines a.0 b.0 parts.0 in
    let start = number_determines a.1 b.1 parts.1.0 in
    let stop = number_determines a.2 b.2 parts.1.1.0 in
    (λ i. (path i, start i, stop i))

places_json : (sources : List Source) → map source_json sources ≡ map place_json (map place_of sources)
places_json [] = refl
places_json (s ∷ ss) = ap (λ js. source_json s ∷ js) (places_json ss)

sources_determine : (xs ys : List Source) → Same (list (map source_json xs)) (list (map source_json ys)) → map place_of xs ≡ map place_of ys
sources_determine xs ys s =
    each_determines place_json place_determines (map place_of xs) (map place_of ys)
    (subst (λ js. Same (list js) (list (map place_json (map place_of ys)))) (places_json xs) (subst (λ js. Same (list (map source_json xs)) (list js)) (places_json ys) s))

-- groups

group_determines : (g h : Group) → IsPlain g → IsPlain h → Same (json_of g) (json_of h) → stated_of g ≡ stated_of h
group_determines g h p q s =
    let parts = fields_same group_apart (group_shape g.0 g.1 g.2) (group_shape h.0 h.1 h.2) s in
    let sources = sources_determine g.0 h.0 parts.0 in
    let packages = more_same parts.1.0 in
    let main = package_determines g.1 h.1 p.main q.main packages.0 in
    let nested = list_determines IsPlainPackage package_json package_determines g.2 h.2 p.nested q.nested packages.1 in
    (λ i. (sources i, main i, nested i))

pub json_determines : (g h : Group) → IsPlain g → IsPlain h → HasShortNumbers (json_of g) → json_of g ≡ json_of h → stated_of g ≡ stated_of h
json_determines g h p q short is = group_determines g h p q (record { is = is; short = short })
