-- The keys in the JSON of each part are unique.
use Rattle.std.proofs.Common.{ℕ, List}
use Rattle.std.specs.Prelude.{Option, Some, None, All, codes}
use Rattle.json.specs.Json.{Json}
use Rattle.json.specs.Strict.{HasUniqueKeys}
use Rattle.wit_values.specs.declared.release.Release.{Release}
use Rattle.wit_values.specs.declared.span.Span.{Span}
use Rattle.wit_types.specs.declared.stability.Stability.{Stability}
use Rattle.wit_types.specs.declared.stability.Stability.TheVariants.{Unknown, Unstable, Stable}
use Rattle.wit_types.specs.declared.types.«Type».{«Type» as Ty}
use Rattle.wit_types.specs.declared.types.«Type».TheVariants as ty
use Rattle.wit_types.specs.declared.types.Field.{Field}
use Rattle.wit_types.specs.declared.types.Flag.{Flag}
use Rattle.wit_types.specs.declared.types.Case.{Case}
use Rattle.wit_types.specs.declared.types.EnumCase.{EnumCase}
use Rattle.wit_types.specs.declared.types.Handle.{Handle}
use Rattle.wit_types.specs.declared.types.Handle.TheVariants as handle
use Rattle.wit_types.specs.declared.types.TypeDefKind.{TypeDefKind}
use Rattle.wit_types.specs.declared.types.TypeDefKind.TheVariants as kind
use Rattle.wit_types.specs.declared.types.TypeOwner.{TypeOwner}
use Rattle.wit_types.specs.declared.types.TypeOwner.TheVariants as owner
use Rattle.wit_types.specs.declared.types.TypeDef.{TypeDef}
use Rattle.wit_functions.specs.declared.function.Function.{Function}
use Rattle.wit_functions.specs.declared.function.FunctionKind.{FunctionKind}
use Rattle.wit_functions.specs.declared.function.FunctionKind.TheVariants as form
use Rattle.wit_functions.specs.declared.function.Param.{Param}
use Rattle.wit_package_names.specs.PackageName.{name_text}
use Rattle.wit_package_names.specs.declared.package_name.PackageName.{PackageName}
use Rattle.wit_model.specs.declared.ast_item.AstItem.{AstItem}
use Rattle.wit_model.specs.declared.ast_item.AstItem.TheVariants as ast
use Rattle.wit_model.specs.declared.interface.Interface.{Interface}
use Rattle.wit_model.specs.declared.unresolved.UnresolvedPackage.{UnresolvedPackage}
use Rattle.wit_model.specs.declared.world.World.{World}
use Rattle.wit_model.specs.declared.world.WorldInclude.{WorldInclude}
use Rattle.wit_model.specs.declared.world.IncludeName.{IncludeName}
use Rattle.wit_model.specs.declared.world.WorldKey.{WorldKey}
use Rattle.wit_model.specs.declared.world.WorldItem.{WorldItem}
use Rattle.wit_model.specs.declared.world.WorldItem.TheVariants as item
use Rattle.wit_lex.specs.declared.source.Source.{Source}
use Rattle.wit_json.specs.declared.member_words.Word.{Word}
use Rattle.wit_json.specs.Values.{fields, number_json, optional_number, optional_text, tagged}
use Rattle.wit_json.specs.Metadata.{span_json, stability_json}
use Rattle.wit_json.specs.Kinds.{case_json, enum_case_json, field_json, flag_json, handle_json, kind_json, optional_type, outcome_members, type_json}
use Rattle.wit_json.specs.Types.{def_json, owner_json}
use Rattle.wit_json.specs.Functions.{function_json, function_kind, of_resource, param_json}
use Rattle.wit_json.specs.Interfaces.{interface_json, table_json}
use Rattle.wit_json.specs.Worlds.{externs_json, import_members, include_json, item_json, rename_json, world_json, world_key}
use Rattle.wit_json.specs.Package.{ast_item_json, deps_json, foreign_json, package_json, required_json}
use Rattle.wit_json.specs.Group.{source_json}
use Rattle.wit_json.specs.MemberWords.{word}
use Rattle.wit_json.specs.DistinctKeys.{HasOwnEntries, HasOwnKeys, HasOwnMembers, HasOwnSides}
use Rattle.wit_json.specs.Laws.{Group, HasOwnMaps, IsPlain, json_of}
use Rattle.wit_json.specs.PlainPackages.{IsPlainDep, IsPlainExtern, IsPlainPackage, IsPlainWorld}
use Rattle.wit_json.proofs.Texts.{name_determines, world_key_determines}
use Rattle.wit_json.proofs.Shapes.{case_shape, clone_value, def_apart, def_shape, deprecated_value, docs_value, enum_case_shape, external_value, field_apart, field_shape, flag_apart, flag_shape, function_apart, function_shape, group_apart, group_shape, import_apart, import_shape, include_apart, include_shape, interface_apart, interface_shape, outcome_apart, outcome_shape, package_apart, package_shape, param_apart, param_shape, rename_apart, rename_shape, result_value, source_apart, source_shape, stability_value, stable_apart, stable_shape, type_apart, type_shape, unstable_apart, unstable_shape, world_apart, world_shape}
use Rattle.wit_json.proofs.Unique.{Unique, UniqueOption, atom, each_unique, fields_unique, list_more, list_unique, map_unique, one_unique, pair_unique, table_unique, texts_distinct}

-- metadata

tagged_unique : (tag : Word) {j : Json} → Unique j → Unique (tagged tag j)
tagged_unique tag u = one_unique (word tag) u

optional_text_unique : (t : Option (List ℕ)) → Unique (optional_text t)
optional_text_unique None = atom tt
optional_text_unique (Some t) = atom tt

optional_number_unique : (i : Option ℕ) → Unique (optional_number i)
optional_number_unique None = atom tt
optional_number_unique (Some i) = atom tt

span_unique : (s : Span) → Unique (span_json s)
span_unique s = pair_unique (atom tt) (atom tt)

docs_unique : (docs : Option (List ℕ)) → UniqueOption (docs_value docs)
docs_unique None = tt
docs_unique (Some t) = tagged_unique _ (atom tt)

external_unique : (id : Option (List ℕ)) → UniqueOption (external_value id)
external_unique None = tt
external_unique (Some t) = atom tt

deprecated_unique : (r : Option Release) → UniqueOption (deprecated_value r)
deprecated_unique None = tt
deprecated_unique (Some r) = atom tt

stability_unique : (s : Stability) → Unique (stability_json s)
stability_unique Unknown = atom tt
stability_unique (Unstable feature deprecated) =
    tagged_unique _ (fields_unique unstable_apart (unstable_shape feature deprecated) (atom tt, (deprecated_unique deprecated, tt)))
stability_unique (Stable since deprecated) =
    tagged_unique _ (fields_unique stable_apart (stable_shape since deprecated) (atom tt, (deprecated_unique deprecated, tt)))

known_unique : (s : Stability) → UniqueOption (stability_value s)
known_unique Unknown = tt
known_unique (Unstable feature deprecated) = stability_unique (Unstable feature deprecated)
known_unique (Stable since deprecated) = stability_unique (Stable since deprecated)

-- types

type_unique : (t : Ty) → Unique (type_json t)
type_unique ty.Bool = atom tt
type_unique ty.U8 = atom tt
type_unique ty.U16 = atom tt
type_unique ty.U32 = atom tt
type_unique ty.U64 = atom tt
type_unique ty.S8 = atom tt
type_unique ty.S16 = atom tt
type_unique ty.S32 = atom tt
type_unique ty.S64 = atom tt
type_unique ty.F32 = atom tt
type_unique ty.F64 = atom tt
type_unique ty.Char = atom tt
type_unique ty.String = atom tt
type_unique ty.ErrorContext = atom tt
type_unique (ty.Id place) = atom tt

optional_type_unique : (t : Option Ty) → Unique (optional_type t)
optional_type_unique None = atom tt
optional_type_unique (Some t) = type_unique t

field_unique : (f : Field) → Unique (field_json f)
field_unique f = fields_unique field_apart (field_shape f) (atom tt, (type_unique f.ty, (docs_unique f.docs.contents, (span_unique f.span, tt))))

flag_unique : (f : Flag) → Unique (flag_json f)
flag_unique f = fields_unique flag_apart (flag_shape f) (atom tt, (docs_unique f.docs.contents, (span_unique f.span, tt)))

case_unique : (c : Case) → Unique (case_json c)
case_unique c = fields_unique field_apart (case_shape c) (atom tt, (optional_type_unique c.ty, (docs_unique c.docs.contents, (span_unique c.span, tt))))

enum_case_unique : (c : EnumCase) → Unique (enum_case_json c)
enum_case_unique c = fields_unique flag_apart (enum_case_shape c) (atom tt, (docs_unique c.docs.contents, (span_unique c.span, tt)))

handle_unique : (h : Handle) → Unique (handle_json h)
handle_unique (handle.Own resource) = tagged_unique _ (atom tt)
handle_unique (handle.Borrow resource) = tagged_unique _ (atom tt)

outcome_unique : (ok err : Option Ty) → Unique (fields (outcome_members ok err))
outcome_unique ok err = fields_unique outcome_apart (outcome_shape ok err) (optional_type_unique ok, (optional_type_unique err, tt))

kind_unique : (k : TypeDefKind) → Unique (kind_json k)
kind_unique (kind.Record r) = tagged_unique _ (tagged_unique _ (each_unique field_json field_unique r.fields))
kind_unique kind.Resource = atom tt
kind_unique (kind.Handle h) = tagged_unique _ (handle_unique h)
kind_unique (kind.Flags f) = tagged_unique _ (tagged_unique _ (each_unique flag_json flag_unique f.flags))
kind_unique (kind.Tuple t) = tagged_unique _ (tagged_unique _ (each_unique type_json type_unique t.types))
kind_unique (kind.Variant v) = tagged_unique _ (tagged_unique _ (each_unique case_json case_unique v.cases))
kind_unique (kind.Enum e) = tagged_unique _ (tagged_unique _ (each_unique enum_case_json enum_case_unique e.cases))
kind_unique (kind.Option t) = tagged_unique _ (type_unique t)
kind_unique (kind.Result r) = tagged_unique _ (outcome_unique r.ok r.err)
kind_unique (kind.List t) = tagged_unique _ (type_unique t)
kind_unique (kind.Map k v) = tagged_unique _ (pair_unique (type_unique k) (type_unique v))
kind_unique (kind.FixedLengthList t n) = tagged_unique _ (pair_unique (type_unique t) (atom tt))
kind_unique (kind.Future t) = tagged_unique _ (optional_type_unique t)
kind_unique (kind.Stream t) = tagged_unique _ (optional_type_unique t)
kind_unique (kind.Type_ t) = tagged_unique _ (type_unique t)
kind_unique kind.Unknown = atom tt

owner_unique : (o : TypeOwner) → Unique (owner_json o)
owner_unique (owner.World place) = tagged_unique _ (atom tt)
owner_unique (owner.Interface place) = tagged_unique _ (atom tt)
owner_unique owner.None = atom tt

def_unique : (t : TypeDef) → Unique (def_json t)
def_unique t =
    fields_unique def_apart (def_shape t) (
      optional_text_unique t.name,
      (
        kind_unique t.kind,
        (
          owner_unique t.owner,
          (docs_unique t.docs.contents, (known_unique t.stability, (external_unique t.external_id, (span_unique t.span, tt)))),
        ),
      ),
    )

-- functions

of_unique : (tag : List ℕ) (r : ℕ) → Unique (of_resource tag r)
of_unique tag r = one_unique tag (atom tt)

function_kind_unique : (k : FunctionKind) → Unique (function_kind k)
function_kind_unique form.Freestanding = atom tt
function_kind_unique form.AsyncFreestanding = atom tt
function_kind_unique form.Getter = atom tt
function_kind_unique form.Setter = atom tt
function_kind_unique (form.Method r) = of_unique (codes "method") r
function_kind_unique (form.AsyncMethod r) = of_unique (codes "async-method") r
function_kind_unique (form.MethodGetter r) = of_unique (codes "method-getter") r
function_kind_unique (form.MethodSetter r) = of_unique (codes "method-setter") r
function_kind_unique (form.Static r) = of_unique (codes "static") r
function_kind_unique (form.AsyncStatic r) = of_unique (codes "async-static") r
function_kind_unique (form.StaticGetter r) = of_unique (codes "static-getter") r
function_kind_unique (form.StaticSetter r) = of_unique (codes "static-setter") r
function_kind_unique (form.Constructor r) = of_unique (codes "constructor") r

param_unique : (p : Param) → Unique (param_json p)
param_unique p = fields_unique param_apart (param_shape p) (atom tt, (type_unique p.ty, (span_unique p.span, tt)))

result_unique : (t : Option Ty) → UniqueOption (result_value t)
result_unique None = tt
result_unique (Some t) = type_unique t

function_unique : (f : Function) → Unique (function_json f)
function_unique f =
    fields_unique function_apart (function_shape f) (
      atom tt,
      (
        function_kind_unique f.kind,
        (
          each_unique param_json param_unique f.params,
          (
            result_unique f.result,
            (docs_unique f.docs.contents, (known_unique f.stability, (external_unique f.external_id, (span_unique f.span, tt)))),
          ),
        ),
      ),
    )

-- interfaces and worlds

clone_unique : (i : Option ℕ) → UniqueOption (clone_value i)
clone_unique None = tt
clone_unique (Some i) = atom tt

interface_unique : (i : Interface) → HasOwnMembers i → Unique (interface_json i)
interface_unique i own =
    fields_unique interface_apart (interface_shape i) (
      optional_text_unique i.name,
      (
        table_unique (λ e. e.0) (λ e. number_json e.1) (λ e. atom tt) i.types own.types,
        (
          table_unique (λ e. e.0) (λ e. function_json e.1) (λ e. function_unique e.1) i.functions own.functions,
          (
            docs_unique i.docs.contents,
            (
              known_unique i.stability,
              (
                tt,
                (optional_number_unique i.package, (clone_unique i.clone_of, (span_unique i.span, tt))),
              ),
            ),
          ),
        ),
      ),
    )

import_unique : (id : ℕ) (s : Stability) (external docs : Option (List ℕ)) (span : Span) → Unique (fields (import_members id s external docs span))
import_unique id s external docs span =
    fields_unique import_apart (import_shape id s external docs span)
    (atom tt, (known_unique s, (external_unique external, (docs_unique docs, (span_unique span, tt)))))

item_unique : (i : WorldItem) → Unique (item_json i)
item_unique (item.Interface id stability external docs span) = tagged_unique _ (import_unique id stability external docs.contents span)
item_unique (item.Function f) = tagged_unique _ (function_unique f)
item_unique (item.Type_ id span) = fields_unique type_apart (type_shape id span) (atom tt, (span_unique span, tt))

externs_unique : (es : List (WorldKey × WorldItem)) → HasOwnKeys es → All IsPlainExtern es → Unique (externs_json es)
externs_unique es own plain =
    table_unique (λ e. world_key e.0) (λ e. item_json e.1) (λ e. item_unique e.1) es
    (texts_distinct IsPlainExtern (λ e. e.0) (λ e. world_key e.0) (λ x y p q same. world_key_determines x.0 y.0 p.0 q.0 same) es own plain)

rename_unique : (r : IncludeName) → Unique (rename_json r)
rename_unique r = fields_unique rename_apart (rename_shape r) (atom tt, (atom tt, tt))

include_unique : (i : WorldInclude) → Unique (include_json i)
include_unique i =
    fields_unique include_apart (include_shape i)
    (known_unique i.stability, (atom tt, (each_unique rename_json rename_unique i.names, (span_unique i.span, tt))))

world_unique : (v : World) → HasOwnSides v × IsPlainWorld v → Unique (world_json v)
world_unique v own =
    fields_unique world_apart (world_shape v) (
      atom tt,
      (
        externs_unique v.imports own.0.imports own.1.imports,
        (
          externs_unique v.exports own.0.exports own.1.exports,
          (
            optional_number_unique v.package,
            (docs_unique v.docs.contents, (known_unique v.stability, (tt, (each_unique include_json include_unique v.includes, (span_unique v.span, tt))))),
          ),
        ),
      ),
    )

-- packages

ast_unique : (i : AstItem) → Unique (ast_item_json i)
ast_unique (ast.Interface place) = tagged_unique _ (atom tt)
ast_unique (ast.World place) = tagged_unique _ (atom tt)

foreign_unique : (e : AstItem × List Stability) → Unique (foreign_json e)
foreign_unique e = pair_unique (ast_unique e.0) (each_unique stability_json stability_unique e.1)

dep_unique : (d : PackageName × List (List ℕ × (AstItem × List Stability))) → HasOwnKeys d.1 → Unique (table_json foreign_json d.1)
dep_unique d own = table_unique (λ e. e.0) (λ e. foreign_json e.1) (λ e. foreign_unique e.1) d.1 own

deps_unique : (p : UnresolvedPackage) → HasOwnEntries p → IsPlainPackage p → Unique (deps_json p.foreign_deps)
deps_unique p own plain =
    map_unique (λ d. HasOwnKeys d.1) (λ d. name_text d.0) (λ d. table_json foreign_json d.1) dep_unique p.foreign_deps
    (texts_distinct IsPlainDep (λ d. d.0) (λ d. name_text d.0) (λ x y u v same. name_determines x.0 y.0 u.name v.name same) p.foreign_deps own.deps plain.deps) own.items

required_unique : (r : ℕ × Span) → Unique (required_json r)
required_unique r = pair_unique (atom tt) (span_unique r.1)

package_unique : (p : UnresolvedPackage) → HasOwnEntries p × IsPlainPackage p → Unique (package_json p)
package_unique p own =
    fields_unique package_apart (package_shape p) (
      atom tt,
      (
        list_unique (λ v. HasOwnSides v × IsPlainWorld v) world_json world_unique p.worlds (λ k d within. (own.0.worlds k d within, own.1.worlds k d within)),
        (
          list_unique HasOwnMembers interface_json interface_unique p.interfaces own.0.interfaces,
          (
            each_unique def_json def_unique p.types,
            (
              deps_unique p own.0 own.1,
              (
                docs_unique p.docs.contents,
                (
                  span_unique p.name_span,
                  (
                    each_unique span_json span_unique p.unknown_type_spans,
                    (
                      each_unique span_json span_unique p.foreign_dep_spans,
                      (each_unique required_json required_unique p.required_resource_types, tt),
                    ),
                  ),
                ),
              ),
            ),
          ),
        ),
      ),
    )

source_unique : (s : Source) → Unique (source_json s)
source_unique s = fields_unique source_apart (source_shape s) (atom tt, (atom tt, (atom tt, tt)))

group_unique : (g : Group) → HasOwnMaps g → IsPlain g → Unique (json_of g)
group_unique g own plain =
    let main = package_unique g.1 (own.main, plain.main) in
    let nested = list_unique (λ p. HasOwnEntries p × IsPlainPackage p) package_json package_unique g.2 (λ k d within. (own.nested k d within, plain.nested k d within)) in
    fields_unique group_apart (group_shape g.0 g.1 g.2) (each_unique source_json source_unique g.0, (list_more main nested, tt))

pub group_keys : (g : Group) → HasOwnMaps g → IsPlain g → HasUniqueKeys (json_of g)
group_keys g own plain = (group_unique g own plain).keys
