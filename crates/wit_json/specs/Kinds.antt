-- What a type is.
use Rattle.std.specs.Prelude.{ℕ, List, [], ◌∷◌, ◌++◌, Option, Some, None, codes, map}
use Rattle.json.specs.Json.{Json, null, string}
use Rattle.wit_types.specs.declared.types.«Type».{«Type» as Ty}
use Rattle.wit_types.specs.declared.types.«Type».TheVariants as ty
use Rattle.wit_types.specs.declared.types.Field.{Field}
use Rattle.wit_types.specs.declared.types.Flag.{Flag}
use Rattle.wit_types.specs.declared.types.Case.{Case}
use Rattle.wit_types.specs.declared.types.EnumCase.{EnumCase}
use Rattle.wit_types.specs.declared.types.Handle.{Handle}
use Rattle.wit_types.specs.declared.types.Handle.TheVariants as handle
use Rattle.wit_types.specs.declared.types.TypeDefKind.{TypeDefKind}
use Rattle.wit_types.specs.declared.types.TypeDefKind.TheVariants as kind
use Rattle.wit_json.specs.declared.member_words.Word.{Word}
use Rattle.wit_json.specs.declared.member_words.Word.TheVariants as w
use Rattle.wit_json.specs.Values.{at, fields, list, number_json, tagged}
use Rattle.wit_json.specs.Metadata.{docs_members, span_json}

-- the word of a primitive type, or the id of an entry
abbrev pub type_json : Ty → Json
type_json ty.Bool = string (codes "bool")
type_json ty.U8 = string (codes "u8")
type_json ty.U16 = string (codes "u16")
type_json ty.U32 = string (codes "u32")
type_json ty.U64 = string (codes "u64")
type_json ty.S8 = string (codes "s8")
type_json ty.S16 = string (codes "s16")
type_json ty.S32 = string (codes "s32")
type_json ty.S64 = string (codes "s64")
type_json ty.F32 = string (codes "f32")
type_json ty.F64 = string (codes "f64")
type_json ty.Char = string (codes "char")
type_json ty.String = string (codes "string")
type_json ty.ErrorContext = string (codes "error-context")
type_json (ty.Id place) = number_json place

abbrev pub optional_type : Option Ty → Json
optional_type None = null
optional_type (Some t) = type_json t

abbrev pub field_members : Field → List (List ℕ × Json)
field_members f = at w.Name (string f.name) ∷ at w.Type_ (type_json f.ty) ∷ (docs_members f.docs.contents ++ at w.Span (span_json f.span) ∷ [])

abbrev pub field_json : Field → Json
field_json f = fields (field_members f)

abbrev pub flag_members : Flag → List (List ℕ × Json)
flag_members f = at w.Name (string f.name) ∷ (docs_members f.docs.contents ++ at w.Span (span_json f.span) ∷ [])

abbrev pub flag_json : Flag → Json
flag_json f = fields (flag_members f)

abbrev pub case_members : Case → List (List ℕ × Json)
case_members c = at w.Name (string c.name) ∷ at w.Type_ (optional_type c.ty) ∷ (docs_members c.docs.contents ++ at w.Span (span_json c.span) ∷ [])

abbrev pub case_json : Case → Json
case_json c = fields (case_members c)

abbrev pub enum_case_members : EnumCase → List (List ℕ × Json)
enum_case_members c = at w.Name (string c.name) ∷ (docs_members c.docs.contents ++ at w.Span (span_json c.span) ∷ [])

abbrev pub enum_case_json : EnumCase → Json
enum_case_json c = fields (enum_case_members c)

abbrev pub handle_json : Handle → Json
handle_json (handle.Own resource) = tagged w.Own (number_json resource)
handle_json (handle.Borrow resource) = tagged w.Borrow (number_json resource)

abbrev pub outcome_members : Option Ty → Option Ty → List (List ℕ × Json)
outcome_members ok err = at w.Ok_ (optional_type ok) ∷ at w.Err_ (optional_type err) ∷ []

abbrev pub outcome_json : Option Ty → Option Ty → Json
outcome_json ok err = fields (outcome_members ok err)

-- two types side by side
abbrev pub pair_json : Ty → Ty → Json
pair_json a b = list (type_json a ∷ type_json b ∷ [])

-- a type, and how many
abbrev pub counted_json : Ty → ℕ → Json
counted_json t n = list (type_json t ∷ number_json n ∷ [])

-- parts in a list, under its name and that of the kind
abbrev pub parts_json : Word → Word → List Json → Json
parts_json tag name parts = tagged tag (tagged name (list parts))

-- what a type is
abbrev pub kind_json : TypeDefKind → Json
kind_json (kind.Record r) = parts_json w.Record w.Fields (map field_json r.fields)
kind_json kind.Resource = string (codes "resource")
kind_json (kind.Handle h) = tagged w.Handle (handle_json h)
kind_json (kind.Flags f) = parts_json w.Flags w.Flags (map flag_json f.flags)
kind_json (kind.Tuple t) = parts_json w.Tuple w.Types (map type_json t.types)
kind_json (kind.Variant v) = parts_json w.Variant w.Cases (map case_json v.cases)
kind_json (kind.Enum e) = parts_json w.Enum_ w.Cases (map enum_case_json e.cases)
kind_json (kind.Option t) = tagged w.Option_ (type_json t)
kind_json (kind.Result r) = tagged w.Result_ (outcome_json r.ok r.err)
kind_json (kind.List t) = tagged w.List_ (type_json t)
kind_json (kind.Map k v) = tagged w.Map_ (pair_json k v)
kind_json (kind.FixedLengthList t n) = tagged w.FixedLengthList (counted_json t n)
kind_json (kind.Future t) = tagged w.Future (optional_type t)
kind_json (kind.Stream t) = tagged w.Stream (optional_type t)
kind_json (kind.Type_ t) = tagged w.Type_ (type_json t)
kind_json kind.Unknown = string (codes "unknown")
