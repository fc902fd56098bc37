-- The spans that a value holds, and the value with each of them shifted and nothing else changed.
use Rattle.std.specs.Prelude.{ℕ, ◌+◌, ◌^◌, ◌<◌, List, [], ◌∷◌, ⊤, map}
use Rattle.std.specs.List.{flat_map}
use Rattle.wit_values.specs.declared.span.Span.{Span}
use Rattle.wit_types.specs.declared.types.Case.{Case}
use Rattle.wit_types.specs.declared.types.EnumCase.{EnumCase}
use Rattle.wit_types.specs.declared.types.Field.{Field}
use Rattle.wit_types.specs.declared.types.Flag.{Flag}
use Rattle.wit_types.specs.declared.types.TypeDef.{TypeDef}
use Rattle.wit_types.specs.declared.types.TypeDefKind.{TypeDefKind}
use Rattle.wit_types.specs.declared.types.TypeDefKind.TheVariants as kind

-- both ends, shifted, are numbers of 32 bits
abbrev pub Fits : ℕ → Span → Type 0
Fits offset s = (s.start + offset < 2 ^ 32) × (s.end + offset < 2 ^ 32)

-- the offset can be added to both ends of every span
abbrev pub AllFit : ℕ → List Span → Type 0
AllFit offset [] = ⊤
AllFit offset (s ∷ rest) = Fits offset s × AllFit offset rest

-- the offset added to both ends
abbrev pub shifted : ℕ → Span → Span
shifted offset s = record { start = s.start + offset; end = s.end + offset }

-- an entry of a map with its value changed
abbrev pub on_value : {K V : Type 0} → (V → V) → K × V → K × V
on_value f e = (e.0, f e.1)

abbrev pub field_spans : Field → List Span
field_spans f = f.span ∷ []

abbrev pub shifted_field : ℕ → Field → Field
shifted_field offset f = record f { span = shifted offset f.span }

abbrev pub flag_spans : Flag → List Span
flag_spans f = f.span ∷ []

abbrev pub shifted_flag : ℕ → Flag → Flag
shifted_flag offset f = record f { span = shifted offset f.span }

abbrev pub case_spans : Case → List Span
case_spans c = c.span ∷ []

abbrev pub shifted_case : ℕ → Case → Case
shifted_case offset c = record c { span = shifted offset c.span }

abbrev pub enum_case_spans : EnumCase → List Span
enum_case_spans c = c.span ∷ []

abbrev pub shifted_enum_case : ℕ → EnumCase → EnumCase
shifted_enum_case offset c = record c { span = shifted offset c.span }

-- those of its fields, flags or cases
abbrev pub kind_spans : TypeDefKind → List Span
kind_spans (kind.Record r) = flat_map field_spans r.fields
kind_spans kind.Resource = []
kind_spans (kind.Handle h) = []
kind_spans (kind.Flags f) = flat_map flag_spans f.flags
kind_spans (kind.Tuple t) = []
kind_spans (kind.Variant v) = flat_map case_spans v.cases
kind_spans (kind.Enum e) = flat_map enum_case_spans e.cases
kind_spans (kind.Option t) = []
kind_spans (kind.Result r) = []
kind_spans (kind.List t) = []
kind_spans (kind.Map k v) = []
kind_spans (kind.FixedLengthList t n) = []
kind_spans (kind.Future t) = []
kind_spans (kind.Stream t) = []
kind_spans (kind.Type_ t) = []
kind_spans kind.Unknown = []

abbrev pub shifted_kind : ℕ → TypeDefKind → TypeDefKind
shifted_kind offset (kind.Record r) = kind.Record (record { fields = map (shifted_field offset) r.fields })
shifted_kind offset kind.Resource = kind.Resource
shifted_kind offset (kind.Handle h) = kind.Handle h
shifted_kind offset (kind.Flags f) = kind.Flags (record { flags = map (shifted_flag offset) f.flags })
shifted_kind offset (kind.Tuple t) = kind.Tuple t
shifted_kind offset (kind.Variant v) = kind.Variant (record { cases = map (shifted_case offset) v.cases })
shifted_kind offset (kind.Enum e) = kind.Enum (record { cases = map (shifted_enum_case offset) e.cases })
shifted_kind offset (kind.Option t) = kind.Option t
shifted_kind offset (kind.Result r) = kind.Result r
shifted_kind offset (kind.List t) = kind.List t
shifted_kind offset (kind.Map k v) = kind.Map k v
shifted_kind offset (kind.FixedLengthList t n) = kind.FixedLengthList t n
shifted_kind offset (kind.Future t) = kind.Future t
shifted_kind offset (kind.Stream t) = kind.Stream t
shifted_kind offset (kind.Type_ t) = kind.Type_ t
shifted_kind offset kind.Unknown = kind.Unknown

-- its own, and those of its fields, flags or cases
abbrev pub type_spans : TypeDef → List Span
type_spans t = t.span ∷ kind_spans t.kind

abbrev pub shifted_type : ℕ → TypeDef → TypeDef
shifted_type offset t = record t { span = shifted offset t.span; kind = shifted_kind offset t.kind }

-- that of its name; the type is given by its place
abbrev pub required_spans : ℕ × Span → List Span
required_spans r = r.1 ∷ []

abbrev pub shifted_required : ℕ → ℕ × Span → ℕ × Span
shifted_required offset r = (r.0, shifted offset r.1)
