-- How deep the JSON of each part nests.
use Rattle.std.proofs.Common.{ℕ, ◌+◌, ◌≤◌, List, [], ◌∷◌, ◌++◌, arith}
use Rattle.std.specs.Prelude.{Option, Some, None, map}
use Rattle.json.specs.Json.{Json, max_depth, string}
use Rattle.json.specs.Value.{items_of}
use Rattle.json.specs.Tree.{depth, items_depth, members_depth}
use Rattle.wit_values.specs.declared.release.Release.{Release}
use Rattle.wit_values.specs.declared.span.Span.{Span}
use Rattle.wit_types.specs.declared.stability.Stability.{Stability}
use Rattle.wit_types.specs.declared.stability.Stability.TheVariants.{Unknown, Unstable, Stable}
use Rattle.wit_types.specs.declared.types.«Type».{«Type» as Ty}
use Rattle.wit_types.specs.declared.types.«Type».TheVariants as ty
use Rattle.wit_types.specs.declared.types.Field.{Field}
use Rattle.wit_types.specs.declared.types.Flag.{Flag}
use Rattle.wit_types.specs.declared.types.Case.{Case}
use Rattle.wit_types.specs.declared.types.EnumCase.{EnumCase}
use Rattle.wit_types.specs.declared.types.Handle.{Handle}
use Rattle.wit_types.specs.declared.types.Handle.TheVariants as handle
use Rattle.wit_types.specs.declared.types.TypeDefKind.{TypeDefKind}
use Rattle.wit_types.specs.declared.types.TypeDefKind.TheVariants as kind
use Rattle.wit_types.specs.declared.types.TypeOwner.{TypeOwner}
use Rattle.wit_types.specs.declared.types.TypeOwner.TheVariants as owner
use Rattle.wit_types.specs.declared.types.TypeDef.{TypeDef}
use Rattle.wit_functions.specs.declared.function.Function.{Function}
use Rattle.wit_functions.specs.declared.function.FunctionKind.{FunctionKind}
use Rattle.wit_functions.specs.declared.function.FunctionKind.TheVariants as form
use Rattle.wit_functions.specs.declared.function.Param.{Param}
use Rattle.wit_package_names.specs.declared.package_name.PackageName.{PackageName}
use Rattle.wit_package_names.specs.PackageName.{name_text}
use Rattle.wit_model.specs.declared.ast_item.AstItem.{AstItem}
use Rattle.wit_model.specs.declared.ast_item.AstItem.TheVariants as ast
use Rattle.wit_model.specs.declared.interface.Interface.{Interface}
use Rattle.wit_model.specs.declared.unresolved.UnresolvedPackage.{UnresolvedPackage}
use Rattle.wit_model.specs.declared.world.World.{World}
use Rattle.wit_model.specs.declared.world.WorldInclude.{WorldInclude}
use Rattle.wit_model.specs.declared.world.IncludeName.{IncludeName}
use Rattle.wit_model.specs.declared.world.WorldKey.{WorldKey}
use Rattle.wit_model.specs.declared.world.WorldItem.{WorldItem}
use Rattle.wit_model.specs.declared.world.WorldItem.TheVariants as item
use Rattle.wit_lex.specs.declared.source.Source.{Source}
use Rattle.wit_json.specs.declared.member_words.Word.TheVariants as w
use Rattle.wit_json.specs.Values.{at, fields, list, members_of, number_json, optional_number, optional_text}
use Rattle.wit_json.specs.Metadata.{deprecated_members, docs_members, external_members, metadata_members, span_json, stability_json, stability_members}
use Rattle.wit_json.specs.Kinds.{case_json, enum_case_json, field_json, flag_json, handle_json, kind_json, optional_type, type_json}
use Rattle.wit_json.specs.Types.{def_json, owner_json}
use Rattle.wit_json.specs.Functions.{function_json, function_kind, param_json, result_members}
use Rattle.wit_json.specs.Interfaces.{clone_members, interface_back, interface_json, table_json}
use Rattle.wit_json.specs.Worlds.{externs_json, include_json, item_json, rename_json, world_json, world_key}
use Rattle.wit_json.specs.Package.{ast_item_json, deps_json, foreign_json, package_back, package_json, required_json}
use Rattle.wit_json.specs.Refusal.{Range, place_members, refusal_json}
use Rattle.wit_json.specs.Group.{group_json, source_json}

-- lists of values, and of members

list_depth : {A : Type 0} (f : A → Json) (n : ℕ) → ((x : A) → depth (f x) ≤ n) → (xs : List A) → items_depth (items_of (map f xs)) ≤ n
list_depth f n h [] = omega arith
list_depth f n h (x ∷ xs) = omega (arith, h x, list_depth f n h xs)

entries_depth : {A : Type 0} (k : A → List ℕ) (f : A → Json) (n : ℕ) → ((x : A) → depth (f x) ≤ n) → (xs : List A) → members_depth (members_of (map (λ x. (k x, f x)) xs)) ≤ n
entries_depth k f n h [] = omega arith
entries_depth k f n h (x ∷ xs) = omega (arith, h x, entries_depth k f n h xs)

both_depth : (n : ℕ) (ms ns : List (List ℕ × Json)) → members_depth (members_of ms) ≤ n → members_depth (members_of ns) ≤ n → members_depth (members_of (ms ++ ns)) ≤ n
both_depth n [] ns p q = q
both_depth n (m ∷ ms) ns p q = omega (arith, p, both_depth n ms ns (omega (arith, p)) q)

-- small values

optional_text_depth : (t : Option (List ℕ)) → depth (optional_text t) ≤ 0
optional_text_depth None = omega arith
optional_text_depth (Some t) = omega arith

optional_number_depth : (i : Option ℕ) → depth (optional_number i) ≤ 0
optional_number_depth None = omega arith
optional_number_depth (Some i) = omega arith

-- metadata

docs_depth : (docs : Option (List ℕ)) → members_depth (members_of (docs_members docs)) ≤ 1
docs_depth None = omega arith
docs_depth (Some t) = omega arith

external_depth : (id : Option (List ℕ)) → members_depth (members_of (external_members id)) ≤ 0
external_depth None = omega arith
external_depth (Some t) = omega arith

deprecated_depth : (r : Option Release) → members_depth (members_of (deprecated_members r)) ≤ 0
deprecated_depth None = omega arith
deprecated_depth (Some r) = omega arith

stability_depth : (s : Stability) → depth (stability_json s) ≤ 2
stability_depth Unknown = omega arith
stability_depth (Unstable feature deprecated) = omega (arith, deprecated_depth deprecated)
stability_depth (Stable since deprecated) = omega (arith, deprecated_depth deprecated)

known_depth : (s : Stability) → members_depth (members_of (stability_members s)) ≤ 2
known_depth Unknown = omega arith
known_depth (Unstable feature deprecated) = omega (arith, stability_depth (Unstable feature deprecated))
known_depth (Stable since deprecated) = omega (arith, stability_depth (Stable since deprecated))

metadata_depth : (docs : Option (List ℕ)) (s : Stability) (id : Option (List ℕ)) → members_depth (members_of (metadata_members docs s id)) ≤ 2
metadata_depth docs s id =
    both_depth 2 (docs_members docs) (stability_members s ++ external_members id) (omega (arith, docs_depth docs))
    (both_depth 2 (stability_members s) (external_members id) (known_depth s) (omega (arith, external_depth id)))

abbrev span_member : Span → List (List ℕ × Json)
span_member s = at w.Span (span_json s) ∷ []

-- docs, then a span
docs_span_depth : (docs : Option (List ℕ)) (s : Span) → members_depth (members_of (docs_members docs ++ span_member s)) ≤ 1
docs_span_depth docs s = both_depth 1 (docs_members docs) (span_member s) (docs_depth docs) (omega arith)

-- metadata, then a span
metadata_span_depth : (docs : Option (List ℕ)) (s : Stability) (id : Option (List ℕ)) (p : Span) → members_depth (members_of (metadata_members docs s id ++ span_member p)) ≤ 2
metadata_span_depth docs s id p = both_depth 2 (metadata_members docs s id) (span_member p) (metadata_depth docs s id) (omega arith)

-- types

type_depth : (t : Ty) → depth (type_json t) ≤ 0
type_depth ty.Bool = omega arith
type_depth ty.U8 = omega arith
type_depth ty.U16 = omega arith
type_depth ty.U32 = omega arith
type_depth ty.U64 = omega arith
type_depth ty.S8 = omega arith
type_depth ty.S16 = omega arith
type_depth ty.S32 = omega arith
type_depth ty.S64 = omega arith
type_depth ty.F32 = omega arith
type_depth ty.F64 = omega arith
type_depth ty.Char = omega arith
type_depth ty.String = omega arith
type_depth ty.ErrorContext = omega arith
type_depth (ty.Id place) = omega arith

optional_type_depth : (t : Option Ty) → depth (optional_type t) ≤ 0
optional_type_depth None = omega arith
optional_type_depth (Some t) = type_depth t

field_depth : (f : Field) → depth (field_json f) ≤ 2
field_depth f = omega (arith, type_depth f.ty, docs_span_depth f.docs.contents f.span)

flag_depth : (f : Flag) → depth (flag_json f) ≤ 2
flag_depth f = omega (arith, docs_span_depth f.docs.contents f.span)

case_depth : (c : Case) → depth (case_json c) ≤ 2
case_depth c = omega (arith, optional_type_depth c.ty, docs_span_depth c.docs.contents c.span)

enum_case_depth : (c : EnumCase) → depth (enum_case_json c) ≤ 2
enum_case_depth c = omega (arith, docs_span_depth c.docs.contents c.span)

handle_depth : (h : Handle) → depth (handle_json h) ≤ 1
handle_depth (handle.Own resource) = omega arith
handle_depth (handle.Borrow resource) = omega arith

kind_depth : (k : TypeDefKind) → depth (kind_json k) ≤ 5
kind_depth (kind.Record r) = omega (arith, list_depth field_json 2 field_depth r.fields)
kind_depth kind.Resource = omega arith
kind_depth (kind.Handle h) = omega (arith, handle_depth h)
kind_depth (kind.Flags f) = omega (arith, list_depth flag_json 2 flag_depth f.flags)
kind_depth (kind.Tuple t) = omega (arith, list_depth type_json 0 type_depth t.types)
kind_depth (kind.Variant v) = omega (arith, list_depth case_json 2 case_depth v.cases)
kind_depth (kind.Enum e) = omega (arith, list_depth enum_case_json 2 enum_case_depth e.cases)
kind_depth (kind.Option t) = omega (arith, type_depth t)
kind_depth (kind.Result r) = omega (arith, optional_type_depth r.ok, optional_type_depth r.err)
kind_depth (kind.List t) = omega (arith, type_depth t)
kind_depth (kind.Map k v) = omega (arith, type_depth k, type_depth v)
kind_depth (kind.FixedLengthList t n) = omega (arith, type_depth t)
kind_depth (kind.Future t) = omega (arith, optional_type_depth t)
kind_depth (kind.Stream t) = omega (arith, optional_type_depth t)
kind_depth (kind.Type_ t) = omega (arith, type_depth t)
kind_depth kind.Unknown = omega arith

owner_depth : (o : TypeOwner) → depth (owner_json o) ≤ 1
owner_depth (owner.World place) = omega arith
owner_depth (owner.Interface place) = omega arith
owner_depth owner.None = omega arith

def_depth : (t : TypeDef) → depth (def_json t) ≤ 6
def_depth t = omega (arith, optional_text_depth t.name, kind_depth t.kind, owner_depth t.owner, metadata_span_depth t.docs.contents t.stability t.external_id t.span)

-- functions

function_kind_depth : (k : FunctionKind) → depth (function_kind k) ≤ 1
function_kind_depth form.Freestanding = omega arith
function_kind_depth form.AsyncFreestanding = omega arith
function_kind_depth form.Getter = omega arith
function_kind_depth form.Setter = omega arith
function_kind_depth (form.Method r) = omega arith
function_kind_depth (form.AsyncMethod r) = omega arith
function_kind_depth (form.MethodGetter r) = omega arith
function_kind_depth (form.MethodSetter r) = omega arith
function_kind_depth (form.Static r) = omega arith
function_kind_depth (form.AsyncStatic r) = omega arith
function_kind_depth (form.StaticGetter r) = omega arith
function_kind_depth (form.StaticSetter r) = omega arith
function_kind_depth (form.Constructor r) = omega arith

param_depth : (p : Param) → depth (param_json p) ≤ 2
param_depth p = omega (arith, type_depth p.ty)

result_depth : (t : Option Ty) → members_depth (members_of (result_members t)) ≤ 0
result_depth None = omega arith
result_depth (Some t) = omega (arith, type_depth t)

function_depth : (f : Function) → depth (function_json f) ≤ 4
function_depth f =
    omega (
      arith,
      function_kind_depth f.kind,
      list_depth param_json 2 param_depth f.params,
      both_depth 2 (result_members f.result) (metadata_members f.docs.contents f.stability f.external_id ++ span_member f.span) (omega (arith, result_depth f.result)) (metadata_span_depth f.docs.contents f.stability f.external_id f.span),
    )

-- interfaces and worlds

clone_depth : (i : Option ℕ) → members_depth (members_of (clone_members i)) ≤ 0
clone_depth None = omega arith
clone_depth (Some i) = omega arith

back_depth : (i : Interface) → members_depth (members_of (interface_back i)) ≤ 1
back_depth i = omega (arith, optional_number_depth i.package, both_depth 1 (clone_members i.clone_of) (span_member i.span) (omega (arith, clone_depth i.clone_of)) (omega arith))

interface_depth : (i : Interface) → depth (interface_json i) ≤ 6
interface_depth i =
    omega (
      arith,
      optional_text_depth i.name,
      entries_depth (λ e. e.0) (λ e. number_json e.1) 0 (λ e. omega arith) i.types,
      entries_depth (λ e. e.0) (λ e. function_json e.1) 4 (λ e. function_depth e.1) i.functions,
      both_depth 2 (metadata_members i.docs.contents i.stability None) (interface_back i) (metadata_depth i.docs.contents i.stability None) (omega (arith, back_depth i)),
    )

item_depth : (i : WorldItem) → depth (item_json i) ≤ 5
item_depth (item.Interface id stability external docs span) =
    omega (
      arith,
      both_depth 2 (stability_members stability) (external_members external ++ (docs_members docs.contents ++ span_member span)) (known_depth stability)
          (both_depth 2 (external_members external) (docs_members docs.contents ++ span_member span) (omega (arith, external_depth external)) (omega (arith, docs_span_depth docs.contents span))),
    )
item_depth (item.Function f) = omega (arith, function_depth f)
item_depth (item.Type_ id span) = omega arith

externs_depth : (es : List (WorldKey × WorldItem)) → depth (externs_json es) ≤ 6
externs_depth es = omega (arith, entries_depth (λ e. world_key e.0) (λ e. item_json e.1) 5 (λ e. item_depth e.1) es)

rename_depth : (r : IncludeName) → depth (rename_json r) ≤ 1
rename_depth r = omega arith

abbrev include_rest : WorldInclude → List (List ℕ × Json)
include_rest i = at w.Id (number_json i.id) ∷ at w.Names (list (map rename_json i.names)) ∷ span_member i.span

include_depth : (i : WorldInclude) → depth (include_json i) ≤ 3
include_depth i =
    omega (arith, both_depth 2 (stability_members i.stability) (include_rest i) (known_depth i.stability) (omega (arith, list_depth rename_json 1 rename_depth i.names)))

abbrev world_rest : World → List (List ℕ × Json)
world_rest v = at w.Includes (list (map include_json v.includes)) ∷ span_member v.span

world_depth : (v : World) → depth (world_json v) ≤ 7
world_depth v =
    omega (
      arith,
      externs_depth v.imports,
      externs_depth v.exports,
      optional_number_depth v.package,
      both_depth 4 (metadata_members v.docs.contents v.stability None) (world_rest v) (omega (arith, metadata_depth v.docs.contents v.stability None))
          (omega (arith, list_depth include_json 3 include_depth v.includes)),
    )

-- packages

ast_depth : (i : AstItem) → depth (ast_item_json i) ≤ 1
ast_depth (ast.Interface place) = omega arith
ast_depth (ast.World place) = omega arith

foreign_depth : (e : AstItem × List Stability) → depth (foreign_json e) ≤ 4
foreign_depth e = omega (arith, ast_depth e.0, list_depth stability_json 2 stability_depth e.1)

table_depth : (es : List (List ℕ × (AstItem × List Stability))) → depth (table_json foreign_json es) ≤ 5
table_depth es = omega (arith, entries_depth (λ e. e.0) (λ e. foreign_json e.1) 4 (λ e. foreign_depth e.1) es)

deps_depth : (ds : List (PackageName × List (List ℕ × (AstItem × List Stability)))) → depth (deps_json ds) ≤ 6
deps_depth ds = omega (arith, entries_depth (λ d. name_text d.0) (λ d. table_json foreign_json d.1) 5 (λ d. table_depth d.1) ds)

span_depth : (s : Span) → depth (span_json s) ≤ 1
span_depth s = omega arith

required_depth : (r : ℕ × Span) → depth (required_json r) ≤ 2
required_depth r = omega arith

abbrev package_docs : UnresolvedPackage → List (List ℕ × Json)
package_docs p = docs_members p.docs.contents ++ at w.PackageNameSpan (span_json p.name_span) ∷ []

package_depth : (p : UnresolvedPackage) → depth (package_json p) ≤ 9
package_depth p =
    omega (
      arith,
      list_depth world_json 7 world_depth p.worlds,
      list_depth interface_json 6 interface_depth p.interfaces,
      list_depth def_json 6 def_depth p.types,
      deps_depth p.foreign_deps,
      both_depth 3 (package_docs p) (package_back p)
          (both_depth 3 (docs_members p.docs.contents) (at w.PackageNameSpan (span_json p.name_span) ∷ []) (omega (arith, docs_depth p.docs.contents)) (omega arith))
          (omega (arith, list_depth span_json 1 span_depth p.unknown_type_spans, list_depth span_json 1 span_depth p.foreign_dep_spans, list_depth required_json 2 required_depth p.required_resource_types)),
    )

source_depth : (s : Source) → depth (source_json s) ≤ 1
source_depth s = omega arith

pub group_depth : (sources : List Source) (main : UnresolvedPackage) (nested : List UnresolvedPackage) → depth (group_json sources main nested) ≤ max_depth
group_depth sources main nested = omega (arith, list_depth source_json 1 source_depth sources, package_depth main, list_depth package_json 9 package_depth nested)

place_depth : (p : Option Range) → members_depth (members_of (place_members p)) ≤ 0
place_depth None = omega arith
place_depth (Some p) = omega arith

pub refusal_depth : (rule : ℕ) (p : Option Range) (message : List ℕ) → depth (refusal_json rule p message) ≤ max_depth
refusal_depth rule p message = omega (arith, both_depth 0 (place_members p) (at w.Message (string message) ∷ []) (place_depth p) (omega arith))
