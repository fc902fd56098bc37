-- The keys of each kind of object, and which of them have values.
use Rattle.std.proofs.Common.{◌≡◌, ◌+◌, ℕ, true, List, [], ◌∷◌, length, refl}
use Rattle.std.specs.Prelude.{Option, Some, None, map, option_map, string_bytes}
use Rattle.json.specs.Json.{Json, string}
use Rattle.wit_values.specs.declared.release.Release.{Release}
use Rattle.wit_values.specs.declared.span.Span.{Span}
use Rattle.wit_values.specs.ReleaseText.{release_text}
use Rattle.wit_types.specs.declared.stability.Stability.{Stability}
use Rattle.wit_types.specs.declared.stability.Stability.TheVariants.{Unknown, Unstable, Stable}
use Rattle.wit_types.specs.declared.types.«Type».{«Type» as Ty}
use Rattle.wit_types.specs.declared.types.Field.{Field}
use Rattle.wit_types.specs.declared.types.Flag.{Flag}
use Rattle.wit_types.specs.declared.types.Case.{Case}
use Rattle.wit_types.specs.declared.types.EnumCase.{EnumCase}
use Rattle.wit_types.specs.declared.types.TypeDef.{TypeDef}
use Rattle.wit_functions.specs.declared.function.Function.{Function}
use Rattle.wit_functions.specs.declared.function.Param.{Param}
use Rattle.wit_package_names.specs.PackageName.{name_text}
use Rattle.wit_model.specs.declared.interface.Interface.{Interface}
use Rattle.wit_model.specs.declared.unresolved.UnresolvedPackage.{UnresolvedPackage}
use Rattle.wit_model.specs.declared.world.World.{World}
use Rattle.wit_model.specs.declared.world.WorldInclude.{WorldInclude}
use Rattle.wit_model.specs.declared.world.IncludeName.{IncludeName}
use Rattle.wit_lex.specs.declared.source.Source.{Source}
use Rattle.wit_json.specs.declared.member_words.Word.TheVariants as w
use Rattle.wit_json.specs.Values.{list, number_json, optional_number, optional_text, tagged}
use Rattle.wit_json.specs.Metadata.{deprecated_members, docs_members, external_members, metadata_members, span_json, stability_json, stability_members, stable_members, unstable_members}
use Rattle.wit_json.specs.Kinds.{case_members, enum_case_members, field_members, flag_members, kind_json, optional_type, outcome_members, type_json}
use Rattle.wit_json.specs.Types.{def_json, def_members, owner_json}
use Rattle.wit_json.specs.Functions.{function_json, function_kind, function_members, param_json, param_members, result_members}
use Rattle.wit_json.specs.Interfaces.{clone_members, interface_json, interface_members, table_json}
use Rattle.wit_json.specs.Worlds.{externs_json, import_members, include_json, include_members, rename_json, rename_members, type_members, world_json, world_members}
use Rattle.wit_json.specs.Package.{deps_json, package_json, package_members, required_json}
use Rattle.wit_json.specs.Group.{group_members, source_json, source_members}
use Rattle.wit_json.specs.MemberWords.{word}
use Rattle.wit_json.proofs.Apart.{are_apart}
use Rattle.wit_json.proofs.Objects.{Shape, both, have, lack}
use Rattle.wit_json.proofs.Objects.Shape.{End}

-- metadata

abbrev pub docs_value : Option (List ℕ) → Option Json
docs_value docs = option_map (λ t. tagged w.Contents (string t)) docs

pub docs_shape : (docs : Option (List ℕ)) → Shape (word w.Docs ∷ []) (docs_value docs ∷ []) (docs_members docs)
docs_shape None = lack End
docs_shape (Some t) = have End

abbrev pub external_value : Option (List ℕ) → Option Json
external_value id = option_map string id

pub external_shape : (id : Option (List ℕ)) → Shape (word w.ExternalId ∷ []) (external_value id ∷ []) (external_members id)
external_shape None = lack End
external_shape (Some t) = have End

abbrev pub deprecated_value : Option Release → Option Json
deprecated_value r = option_map (λ v. string (release_text v)) r

deprecated_shape : (r : Option Release) → Shape (word w.Deprecated ∷ []) (deprecated_value r ∷ []) (deprecated_members r)
deprecated_shape None = lack End
deprecated_shape (Some r) = have End

abbrev pub unstable_keys : List (List ℕ)
unstable_keys = word w.Feature ∷ word w.Deprecated ∷ []

pub unstable_apart : are_apart unstable_keys ≡ true
unfolding word
unstable_apart = refl

pub unstable_shape : (feature : List ℕ) (r : Option Release) → Shape unstable_keys (Some (string feature) ∷ deprecated_value r ∷ []) (unstable_members feature r)
unstable_shape feature r = have (deprecated_shape r)

abbrev pub stable_keys : List (List ℕ)
stable_keys = word w.Since ∷ word w.Deprecated ∷ []

pub stable_apart : are_apart stable_keys ≡ true
unfolding word
stable_apart = refl

pub stable_shape : (since : Release) (r : Option Release) → Shape stable_keys (Some (string (release_text since)) ∷ deprecated_value r ∷ []) (stable_members since r)
stable_shape since r = have (deprecated_shape r)

abbrev pub stability_value : Stability → Option Json
stability_value Unknown = None
stability_value (Unstable feature deprecated) = Some (stability_json (Unstable feature deprecated))
stability_value (Stable since deprecated) = Some (stability_json (Stable since deprecated))

pub stability_shape : (s : Stability) → Shape (word w.Stability ∷ []) (stability_value s ∷ []) (stability_members s)
stability_shape Unknown = lack End
stability_shape (Unstable feature deprecated) = have End
stability_shape (Stable since deprecated) = have End

abbrev metadata_keys : List (List ℕ)
metadata_keys = word w.Docs ∷ word w.Stability ∷ word w.ExternalId ∷ []

metadata_shape : (docs : Option (List ℕ)) (s : Stability) (id : Option (List ℕ)) → Shape metadata_keys (docs_value docs ∷ stability_value s ∷ external_value id ∷ []) (metadata_members docs s id)
metadata_shape docs s id = both (docs_shape docs) (both (stability_shape s) (external_shape id))

-- types

abbrev pub field_keys : List (List ℕ)
field_keys = word w.Name ∷ word w.Type_ ∷ word w.Docs ∷ word w.Span ∷ []

pub field_apart : are_apart field_keys ≡ true
unfolding word
field_apart = refl

pub field_shape : (f : Field) → Shape field_keys (Some (string f.name) ∷ Some (type_json f.ty) ∷ docs_value f.docs.contents ∷ Some (span_json f.span) ∷ []) (field_members f)
field_shape f = have (have (both (docs_shape f.docs.contents) (have End)))

pub case_shape : (c : Case) → Shape field_keys (Some (string c.name) ∷ Some (optional_type c.ty) ∷ docs_value c.docs.contents ∷ Some (span_json c.span) ∷ []) (case_members c)
case_shape c = have (have (both (docs_shape c.docs.contents) (have End)))

abbrev pub flag_keys : List (List ℕ)
flag_keys = word w.Name ∷ word w.Docs ∷ word w.Span ∷ []

pub flag_apart : are_apart flag_keys ≡ true
unfolding word
flag_apart = refl

pub flag_shape : (f : Flag) → Shape flag_keys (Some (string f.name) ∷ docs_value f.docs.contents ∷ Some (span_json f.span) ∷ []) (flag_members f)
flag_shape f = have (both (docs_shape f.docs.contents) (have End))

pub enum_case_shape : (c : EnumCase) → Shape flag_keys (Some (string c.name) ∷ docs_value c.docs.contents ∷ Some (span_json c.span) ∷ []) (enum_case_members c)
enum_case_shape c = have (both (docs_shape c.docs.contents) (have End))

abbrev pub outcome_keys : List (List ℕ)
outcome_keys = word w.Ok_ ∷ word w.Err_ ∷ []

pub outcome_apart : are_apart outcome_keys ≡ true
unfolding word
outcome_apart = refl

pub outcome_shape : (ok err : Option Ty) → Shape outcome_keys (Some (optional_type ok) ∷ Some (optional_type err) ∷ []) (outcome_members ok err)
outcome_shape ok err = have (have End)

abbrev pub def_keys : List (List ℕ)
def_keys = word w.Name ∷ word w.Kind ∷ word w.Owner ∷ word w.Docs ∷ word w.Stability ∷ word w.ExternalId ∷ word w.Span ∷ []

pub def_apart : are_apart def_keys ≡ true
unfolding word
def_apart = refl

abbrev pub def_values : TypeDef → List (Option Json)
def_values t = Some (optional_text t.name) ∷ Some (kind_json t.kind) ∷ Some (owner_json t.owner) ∷ docs_value t.docs.contents ∷ stability_value t.stability ∷ external_value t.external_id ∷ Some (span_json t.span) ∷ []

pub def_shape : (t : TypeDef) → Shape def_keys (def_values t) (def_members t)
def_shape t = have (have (have (both (metadata_shape t.docs.contents t.stability t.external_id) (have End))))

-- functions

abbrev pub param_keys : List (List ℕ)
param_keys = word w.Name ∷ word w.Type_ ∷ word w.Span ∷ []

pub param_apart : are_apart param_keys ≡ true
unfolding word
param_apart = refl

pub param_shape : (p : Param) → Shape param_keys (Some (string p.name) ∷ Some (type_json p.ty) ∷ Some (span_json p.span) ∷ []) (param_members p)
param_shape p = have (have (have End))

abbrev pub result_value : Option Ty → Option Json
result_value t = option_map type_json t

result_shape : (t : Option Ty) → Shape (word w.Result_ ∷ []) (result_value t ∷ []) (result_members t)
result_shape None = lack End
result_shape (Some t) = have End

abbrev pub function_keys : List (List ℕ)
function_keys = word w.Name ∷ word w.Kind ∷ word w.Params ∷ word w.Result_ ∷ word w.Docs ∷ word w.Stability ∷ word w.ExternalId ∷ word w.Span ∷ []

pub function_apart : are_apart function_keys ≡ true
unfolding word
function_apart = refl

abbrev pub function_values : Function → List (Option Json)
function_values f = Some (string f.name) ∷ Some (function_kind f.kind) ∷ Some (list (map param_json f.params)) ∷ result_value f.result ∷ docs_value f.docs.contents ∷ stability_value f.stability ∷ external_value f.external_id ∷ Some (span_json f.span) ∷ []

pub function_shape : (f : Function) → Shape function_keys (function_values f) (function_members f)
function_shape f = have (have (have (both (result_shape f.result) (both (metadata_shape f.docs.contents f.stability f.external_id) (have End)))))

-- interfaces

abbrev pub clone_value : Option ℕ → Option Json
clone_value i = option_map number_json i

clone_shape : (i : Option ℕ) → Shape (word w.CloneOf ∷ []) (clone_value i ∷ []) (clone_members i)
clone_shape None = lack End
clone_shape (Some i) = have End

abbrev pub interface_keys : List (List ℕ)
interface_keys = word w.Name ∷ word w.Types ∷ word w.Functions ∷ word w.Docs ∷ word w.Stability ∷ word w.ExternalId ∷ word w.Package ∷ word w.CloneOf ∷ word w.Span ∷ []

pub interface_apart : are_apart interface_keys ≡ true
unfolding word
interface_apart = refl

abbrev pub interface_values : Interface → List (Option Json)
interface_values i = Some (optional_text i.name) ∷ Some (table_json number_json i.types) ∷ Some (table_json function_json i.functions) ∷ docs_value i.docs.contents ∷ stability_value i.stability ∷ None ∷ Some (optional_number i.package) ∷ clone_value i.clone_of ∷ Some (span_json i.span) ∷ []

pub interface_shape : (i : Interface) → Shape interface_keys (interface_values i) (interface_members i)
interface_shape i = have (have (have (both (metadata_shape i.docs.contents i.stability None) (have (both (clone_shape i.clone_of) (have End))))))

-- worlds

abbrev pub import_keys : List (List ℕ)
import_keys = word w.Id ∷ word w.Stability ∷ word w.ExternalId ∷ word w.Docs ∷ word w.Span ∷ []

pub import_apart : are_apart import_keys ≡ true
unfolding word
import_apart = refl

abbrev pub import_values : ℕ → Stability → Option (List ℕ) → Option (List ℕ) → Span → List (Option Json)
import_values id s external docs span = Some (number_json id) ∷ stability_value s ∷ external_value external ∷ docs_value docs ∷ Some (span_json span) ∷ []

pub import_shape : (id : ℕ) (s : Stability) (external docs : Option (List ℕ)) (span : Span) → Shape import_keys (import_values id s external docs span) (import_members id s external docs span)
import_shape id s external docs span = have (both (stability_shape s) (both (external_shape external) (both (docs_shape docs) (have End))))

abbrev pub type_keys : List (List ℕ)
type_keys = word w.Type_ ∷ word w.Span ∷ []

pub type_apart : are_apart type_keys ≡ true
unfolding word
type_apart = refl

pub type_shape : (id : ℕ) (span : Span) → Shape type_keys (Some (number_json id) ∷ Some (span_json span) ∷ []) (type_members id span)
type_shape id span = have (have End)

abbrev pub rename_keys : List (List ℕ)
rename_keys = word w.Name ∷ word w.As ∷ []

pub rename_apart : are_apart rename_keys ≡ true
unfolding word
rename_apart = refl

pub rename_shape : (r : IncludeName) → Shape rename_keys (Some (string r.name) ∷ Some (string r.as_) ∷ []) (rename_members r)
rename_shape r = have (have End)

abbrev pub include_keys : List (List ℕ)
include_keys = word w.Stability ∷ word w.Id ∷ word w.Names ∷ word w.Span ∷ []

pub include_apart : are_apart include_keys ≡ true
unfolding word
include_apart = refl

pub include_shape : (i : WorldInclude) → Shape include_keys (stability_value i.stability ∷ Some (number_json i.id) ∷ Some (list (map rename_json i.names)) ∷ Some (span_json i.span) ∷ []) (include_members i)
include_shape i = both (stability_shape i.stability) (have (have (have End)))

abbrev pub world_keys : List (List ℕ)
world_keys = word w.Name ∷ word w.Imports ∷ word w.Exports ∷ word w.Package ∷ word w.Docs ∷ word w.Stability ∷ word w.ExternalId ∷ word w.Includes ∷ word w.Span ∷ []

pub world_apart : are_apart world_keys ≡ true
unfolding word
world_apart = refl

abbrev pub world_values : World → List (Option Json)
world_values v = Some (string v.name) ∷ Some (externs_json v.imports) ∷ Some (externs_json v.exports) ∷ Some (optional_number v.package) ∷ docs_value v.docs.contents ∷ stability_value v.stability ∷ None ∷ Some (list (map include_json v.includes)) ∷ Some (span_json v.span) ∷ []

pub world_shape : (v : World) → Shape world_keys (world_values v) (world_members v)
world_shape v = have (have (have (have (both (metadata_shape v.docs.contents v.stability None) (have (have End))))))

-- packages

abbrev pub package_keys : List (List ℕ)
package_keys = word w.Name ∷ word w.Worlds ∷ word w.Interfaces ∷ word w.Types ∷ word w.ForeignDeps ∷ word w.Docs ∷ word w.PackageNameSpan ∷ word w.UnknownTypeSpans ∷ word w.ForeignDepSpans ∷ word w.RequiredResourceTypes ∷ []

pub package_apart : are_apart package_keys ≡ true
unfolding word
package_apart = refl

abbrev pub package_values : UnresolvedPackage → List (Option Json)
package_values p = Some (string (name_text p.name)) ∷ Some (list (map world_json p.worlds)) ∷ Some (list (map interface_json p.interfaces)) ∷ Some (list (map def_json p.types)) ∷ Some (deps_json p.foreign_deps) ∷ docs_value p.docs.contents ∷ Some (span_json p.name_span) ∷ Some (list (map span_json p.unknown_type_spans)) ∷ Some (list (map span_json p.foreign_dep_spans)) ∷ Some (list (map required_json p.required_resource_types)) ∷ []

pub package_shape : (p : UnresolvedPackage) → Shape package_keys (package_values p) (package_members p)
package_shape p = have (have (have (have (have (both (both (docs_shape p.docs.contents) (have End)) (have (have (have End))))))))

abbrev pub source_keys : List (List ℕ)
source_keys = word w.Path ∷ word w.Start ∷ word w.End ∷ []

pub source_apart : are_apart source_keys ≡ true
unfolding word
source_apart = refl

pub source_shape : (s : Source) → Shape source_keys (Some (string (string_bytes s.path)) ∷ Some (number_json s.offset) ∷ Some (number_json (s.offset + length (string_bytes s.contents))) ∷ []) (source_members s)
source_shape s = have (have (have End))

abbrev pub group_keys : List (List ℕ)
group_keys = word w.Sources ∷ word w.Packages ∷ []

pub group_apart : are_apart group_keys ≡ true
unfolding word
group_apart = refl

pub group_shape : (sources : List Source) (main : UnresolvedPackage) (nested : List UnresolvedPackage) → Shape group_keys (Some (list (map source_json sources)) ∷ Some (list (package_json main ∷ map package_json nested)) ∷ []) (group_members sources main nested)
group_shape sources main nested = have (have End)
