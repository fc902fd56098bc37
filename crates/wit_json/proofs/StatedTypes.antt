-- Metadata, types and functions are given by their JSON.
use Rattle.std.proofs.Common.{◌≡◌, ℕ, false, List, refl, ap}
use Rattle.std.specs.Prelude.{Option, Some, None, IfSome}
use Rattle.json.specs.Json.{string}
use Rattle.wit_values.specs.declared.release.Release.{Release}
use Rattle.wit_values.specs.declared.span.Span.{Span}
use Rattle.wit_values.specs.ReleaseText.{release_text}
use Rattle.wit_types.specs.declared.docs.Docs.{Docs}
use Rattle.wit_types.specs.declared.stability.Stability.{Stability}
use Rattle.wit_types.specs.declared.stability.Stability.TheVariants.{Unknown, Unstable, Stable}
use Rattle.wit_types.specs.declared.types.«Type».{«Type» as Ty}
use Rattle.wit_types.specs.declared.types.«Type».TheVariants as ty
use Rattle.wit_types.specs.declared.types.Field.{Field}
use Rattle.wit_types.specs.declared.types.Flag.{Flag}
use Rattle.wit_types.specs.declared.types.Case.{Case}
use Rattle.wit_types.specs.declared.types.EnumCase.{EnumCase}
use Rattle.wit_types.specs.declared.types.Handle.{Handle}
use Rattle.wit_types.specs.declared.types.Handle.TheVariants as handle
use Rattle.wit_types.specs.declared.types.TypeDefKind.{TypeDefKind}
use Rattle.wit_types.specs.declared.types.TypeDefKind.TheVariants as kind
use Rattle.wit_types.specs.declared.types.TypeOwner.{TypeOwner}
use Rattle.wit_types.specs.declared.types.TypeOwner.TheVariants as owner
use Rattle.wit_types.specs.declared.types.TypeDef.{TypeDef}
use Rattle.wit_functions.specs.declared.function.Function.{Function}
use Rattle.wit_functions.specs.declared.function.FunctionKind.{FunctionKind}
use Rattle.wit_functions.specs.declared.function.FunctionKind.TheVariants as form
use Rattle.wit_functions.specs.declared.function.Param.{Param}
use Rattle.wit_json.specs.declared.member_words.Word.TheVariants as w
use Rattle.wit_json.specs.Values.{tagged}
use Rattle.wit_json.specs.Metadata.{span_json, stability_json}
use Rattle.wit_json.specs.Kinds.{case_json, enum_case_json, field_json, flag_json, handle_json, kind_json, optional_type, type_json}
use Rattle.wit_json.specs.Types.{def_json, owner_json}
use Rattle.wit_json.specs.Functions.{function_json, function_kind, param_json}
use Rattle.wit_json.specs.PlainPackages.{HasVersions, IsVersion}
use Rattle.wit_json.specs.MemberWords.{word}
use Rattle.wit_json.proofs.Shapes.{case_shape, def_apart, def_shape, deprecated_value, docs_value, enum_case_shape, external_value, field_apart, field_shape, flag_apart, flag_shape, function_apart, function_shape, outcome_apart, outcome_shape, param_apart, param_shape, stability_value, stable_apart, stable_shape, unstable_apart, unstable_shape}
use Rattle.wit_json.proofs.Same.{Same, SameOption, each_determines, fields_same, is_null, null_differs, number_determines, option_each, option_determines, optional_text_determines, pair_same, some_differs, string_determines, tagged_same, unlike}
use Rattle.wit_json.proofs.Texts.{release_determines}

-- metadata

pub span_determines : (a b : Span) → Same (span_json a) (span_json b) → a ≡ b
span_determines a b s =
    let ends = pair_same s in
    let first = number_determines a.start b.start ends.0 in
    let last = number_determines a.end b.end ends.1 in
    (λ i. record { start = first i; end = last i })

pub docs_determines : (a b : Docs) → SameOption (docs_value a.contents) (docs_value b.contents) → a ≡ b
docs_determines a b s =
    let texts = option_each (λ t. tagged w.Contents (string t)) (λ x y t. string_determines x y (tagged_same t)) a.contents b.contents s in
    (λ i. record { contents = texts i })

pub external_determines : (a b : Option (List ℕ)) → SameOption (external_value a) (external_value b) → a ≡ b
external_determines a b s = option_each string string_determines a b s

deprecated_determines : (a b : Option Release) → IfSome a IsVersion → IfSome b IsVersion → SameOption (deprecated_value a) (deprecated_value b) → a ≡ b
deprecated_determines a b p q s =
    option_determines IsVersion (λ v. string (release_text v)) (λ x y v w t. release_determines x y v w (string_determines (release_text x) (release_text y) t)) a b p q s

pub stability_determines : (a b : Stability) → HasVersions a → HasVersions b → Same (stability_json a) (stability_json b) → a ≡ b
unfolding word
stability_determines Unknown Unknown p q s = refl
stability_determines (Unstable f d) (Unstable g e) p q s =
    let parts = fields_same unstable_apart (unstable_shape f d) (unstable_shape g e) (tagged_same s) in
    let feature = string_determines f g parts.0 in
    let deprecated = deprecated_determines d e p q parts.1.0 in
    (λ i. Unstable (feature i) (deprecated i))
stability_determines (Stable v d) (Stable u e) p q s =
    let parts = fields_same stable_apart (stable_shape v d) (stable_shape u e) (tagged_same s) in
    let since = release_determines v u p.0 q.0 (string_determines (release_text v) (release_text u) parts.0) in
    let deprecated = deprecated_determines d e p.1 q.1 parts.1.0 in
    (λ i. Stable (since i) (deprecated i))
stability_determines a b p q s = absurd (unlike s refl)

pub known_determines : (a b : Stability) → HasVersions a → HasVersions b → SameOption (stability_value a) (stability_value b) → a ≡ b
known_determines Unknown Unknown p q s = refl
known_determines Unknown b p q s = absurd s
known_determines a Unknown p q s = absurd s
known_determines a b p q s = stability_determines a b p q s

-- types

pub type_determines : (a b : Ty) → Same (type_json a) (type_json b) → a ≡ b
type_determines ty.Bool ty.Bool s = refl
type_determines ty.U8 ty.U8 s = refl
type_determines ty.U16 ty.U16 s = refl
type_determines ty.U32 ty.U32 s = refl
type_determines ty.U64 ty.U64 s = refl
type_determines ty.S8 ty.S8 s = refl
type_determines ty.S16 ty.S16 s = refl
type_determines ty.S32 ty.S32 s = refl
type_determines ty.S64 ty.S64 s = refl
type_determines ty.F32 ty.F32 s = refl
type_determines ty.F64 ty.F64 s = refl
type_determines ty.Char ty.Char s = refl
type_determines ty.String ty.String s = refl
type_determines ty.ErrorContext ty.ErrorContext s = refl
type_determines (ty.Id i) (ty.Id j) s = ap ty.Id (number_determines i j s)
type_determines a b s = absurd (unlike s refl)

type_is_some : (t : Ty) → is_null (type_json t) ≡ false
type_is_some ty.Bool = refl
type_is_some t = refl

optional_type_determines : (a b : Option Ty) → Same (optional_type a) (optional_type b) → a ≡ b
optional_type_determines None None s = refl
optional_type_determines None (Some b) s = absurd (null_differs s (type_is_some b))
optional_type_determines (Some a) None s = absurd (some_differs s (type_is_some a))
optional_type_determines (Some a) (Some b) s = ap Some (type_determines a b s)

field_determines : (a b : Field) → Same (field_json a) (field_json b) → a ≡ b
field_determines a b s =
    let parts = fields_same field_apart (field_shape a) (field_shape b) s in
    let name = string_determines a.name b.name parts.0 in
    let type = type_determines a.ty b.ty parts.1.0 in
    let docs = docs_determines a.docs b.docs parts.1.1.0 in
    let span = span_determines a.span b.span parts.1.1.1.0 in
    (λ i. record { name = name i; ty = type i; docs = docs i; span = span i })

flag_determines : (a b : Flag) → Same (flag_json a) (flag_json b) → a ≡ b
flag_determines a b s =
    let parts = fields_same flag_apart (flag_shape a) (flag_shape b) s in
    let name = string_determines a.name b.name parts.0 in
    let docs = docs_determines a.docs b.docs parts.1.0 in
    let span = span_determines a.span b.span parts.1.1.0 in
    (λ i. record { name = name i; docs = docs i; span = span i })

case_determines : (a b : Case) → Same (case_json a) (case_json b) → a ≡ b
case_determines a b s =
    let parts = fields_same field_apart (case_shape a) (case_shape b) s in
    let name = string_determines a.name b.name parts.0 in
    let type = optional_type_determines a.ty b.ty parts.1.0 in
    let docs = docs_determines a.docs b.docs parts.1.1.0 in
    let span = span_determines a.span b.span parts.1.1.1.0 in
    (λ i. record { name = name i; ty = type i; docs = docs i; span = span i })

enum_case_determines : (a b : EnumCase) → Same (enum_case_json a) (enum_case_json b) → a ≡ b
enum_case_determines a b s =
    let parts = fields_same flag_apart (enum_case_shape a) (enum_case_shape b) s in
    let name = string_determines a.name b.name parts.0 in
    let docs = docs_determines a.docs b.docs parts.1.0 in
    let span = span_determines a.span b.span parts.1.1.0 in
    (λ i. record { name = name i; docs = docs i; span = span i })

handle_determines : (a b : Handle) → Same (handle_json a) (handle_json b) → a ≡ b
unfolding word
handle_determines (handle.Own r) (handle.Own q) s = ap handle.Own (number_determines r q (tagged_same s))
handle_determines (handle.Borrow r) (handle.Borrow q) s = ap handle.Borrow (number_determines r q (tagged_same s))
handle_determines a b s = absurd (unlike s refl)

kind_determines : (a b : TypeDefKind) → Same (kind_json a) (kind_json b) → a ≡ b
unfolding word
kind_determines (kind.Record r) (kind.Record q) s =
    ap (λ fs. kind.Record (record { fields = fs })) (each_determines field_json field_determines r.fields q.fields (tagged_same (tagged_same s)))
kind_determines kind.Resource kind.Resource s = refl
kind_determines (kind.Handle h) (kind.Handle g) s = ap kind.Handle (handle_determines h g (tagged_same s))
kind_determines (kind.Flags f) (kind.Flags g) s =
    ap (λ fs. kind.Flags (record { flags = fs })) (each_determines flag_json flag_determines f.flags g.flags (tagged_same (tagged_same s)))
kind_determines (kind.Tuple t) (kind.Tuple u) s =
    ap (λ ts. kind.Tuple (record { types = ts })) (each_determines type_json type_determines t.types u.types (tagged_same (tagged_same s)))
kind_determines (kind.Variant v) (kind.Variant u) s =
    ap (λ cs. kind.Variant (record { cases = cs })) (each_determines case_json case_determines v.cases u.cases (tagged_same (tagged_same s)))
kind_determines (kind.Enum e) (kind.Enum f) s =
    ap (λ cs. kind.Enum (record { cases = cs })) (each_determines enum_case_json enum_case_determines e.cases f.cases (tagged_same (tagged_same s)))
kind_determines (kind.Option t) (kind.Option u) s = ap kind.Option (type_determines t u (tagged_same s))
kind_determines (kind.Result r) (kind.Result q) s =
    let parts = fields_same outcome_apart (outcome_shape r.ok r.err) (outcome_shape q.ok q.err) (tagged_same s) in
    let ok = optional_type_determines r.ok q.ok parts.0 in
    let err = optional_type_determines r.err q.err parts.1.0 in
    (λ i. kind.Result (record { ok = ok i; err = err i }))
kind_determines (kind.List t) (kind.List u) s = ap kind.List (type_determines t u (tagged_same s))
kind_determines (kind.Map k v) (kind.Map l u) s =
    let parts = pair_same (tagged_same s) in
    let keys = type_determines k l parts.0 in
    let values = type_determines v u parts.1 in
    (λ i. kind.Map (keys i) (values i))
kind_determines (kind.FixedLengthList t n) (kind.FixedLengthList u m) s =
    let parts = pair_same (tagged_same s) in
    let type = type_determines t u parts.0 in
    let count = number_determines n m parts.1 in
    (λ i. kind.FixedLengthList (type i) (count i))
kind_determines (kind.Future t) (kind.Future u) s = ap kind.Future (optional_type_determines t u (tagged_same s))
kind_determines (kind.Stream t) (kind.Stream u) s = ap kind.Stream (optional_type_determines t u (tagged_same s))
kind_determines (kind.Type_ t) (kind.Type_ u) s = ap kind.Type_ (type_determines t u (tagged_same s))
kind_determines kind.Unknown kind.Unknown s = refl
kind_determines a b s = absurd (unlike s refl)

owner_determines : (a b : TypeOwner) → Same (owner_json a) (owner_json b) → a ≡ b
unfolding word
owner_determines (owner.World x) (owner.World y) s = ap owner.World (number_determines x y (tagged_same s))
owner_determines (owner.Interface x) (owner.Interface y) s = ap owner.Interface (number_determines x y (tagged_same s))
owner_determines owner.None owner.None s = refl
owner_determines a b s = absurd (unlike s refl)

pub def_determines : (a b : TypeDef) → HasVersions a.stability → HasVersions b.stability → Same (def_json a) (def_json b) → a ≡ b
def_determines a b p q s =
    let parts = fields_same def_apart (def_shape a) (def_shape b) s in
    let name = optional_text_determines a.name b.name parts.0 in
    let what = kind_determines a.kind b.kind parts.1.0 in
    let of = owner_determines a.owner b.owner parts.1.1.0 in
    let docs = docs_determines a.docs b.docs parts.1.1.1.0 in
    let stability = known_determines a.stability b.stability p q parts.1.1.1.1.0 in
    let external = external_determines a.external_id b.external_id parts.1.1.1.1.1.0 in
    let span = span_determines a.span b.span parts.1.1.1.1.1.1.0 in
    (λ i. record { name = name i; kind = what i; owner = of i; docs = docs i; stability = stability i; span = span i; external_id = external i })

-- functions

function_kind_determines : (a b : FunctionKind) → Same (function_kind a) (function_kind b) → a ≡ b
function_kind_determines form.Freestanding form.Freestanding s = refl
function_kind_determines form.AsyncFreestanding form.AsyncFreestanding s = refl
function_kind_determines form.Getter form.Getter s = refl
function_kind_determines form.Setter form.Setter s = refl
function_kind_determines (form.Method r) (form.Method q) s = ap form.Method (number_determines r q (tagged_same s))
function_kind_determines (form.AsyncMethod r) (form.AsyncMethod q) s = ap form.AsyncMethod (number_determines r q (tagged_same s))
function_kind_determines (form.MethodGetter r) (form.MethodGetter q) s = ap form.MethodGetter (number_determines r q (tagged_same s))
function_kind_determines (form.MethodSetter r) (form.MethodSetter q) s = ap form.MethodSetter (number_determines r q (tagged_same s))
function_kind_determines (form.Static r) (form.Static q) s = ap form.Static (number_determines r q (tagged_same s))
function_kind_determines (form.AsyncStatic r) (form.AsyncStatic q) s = ap form.AsyncStatic (number_determines r q (tagged_same s))
function_kind_determines (form.StaticGetter r) (form.StaticGetter q) s = ap form.StaticGetter (number_determines r q (tagged_same s))
function_kind_determines (form.StaticSetter r) (form.StaticSetter q) s = ap form.StaticSetter (number_determines r q (tagged_same s))
function_kind_determines (form.Constructor r) (form.Constructor q) s = ap form.Constructor (number_determines r q (tagged_same s))
function_kind_determines a b s = absurd (unlike s refl)

param_determines : (a b : Param) → Same (param_json a) (param_json b) → a ≡ b
param_determines a b s =
    let parts = fields_same param_apart (param_shape a) (param_shape b) s in
    let name = string_determines a.name b.name parts.0 in
    let type = type_determines a.ty b.ty parts.1.0 in
    let span = span_determines a.span b.span parts.1.1.0 in
    (λ i. record { name = name i; ty = type i; span = span i })

pub function_determines : (a b : Function) → HasVersions a.stability → HasVersions b.stability → Same (function_json a) (function_json b) → a ≡ b
function_determines a b p q s =
    let parts = fields_same function_apart (function_shape a) (function_shape b) s in
    let name = string_determines a.name b.name parts.0 in
    let what = function_kind_determines a.kind b.kind parts.1.0 in
    let params = each_determines param_json param_determines a.params b.params parts.1.1.0 in
    let result = option_each type_json type_determines a.result b.result parts.1.1.1.0 in
    let docs = docs_determines a.docs b.docs parts.1.1.1.1.0 in
    let stability = known_determines a.stability b.stability p q parts.1.1.1.1.1.0 in
    let external = external_determines a.external_id b.external_id parts.1.1.1.1.1.1.0 in
    let span = span_determines a.span b.span parts.1.1.1.1.1.1.1.0 in
    (λ i. record { name = name i; kind = what i; params = params i; result = result i; docs = docs i; stability = stability i; span = span i; external_id = external i })
