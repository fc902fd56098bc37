-- What a type is, in one line of a listing: a word, and the parts after single blanks.
use Rattle.std.specs.Prelude.{ℕ, List, [], ◌∷◌, ◌++◌, Option, Some, None, codes}
use Rattle.std.specs.List.{flat_map}
use Rattle.std.specs.Fmt.{decimal}
use Rattle.wit_types.specs.declared.types.«Type».{«Type» as Ty}
use Rattle.wit_types.specs.declared.types.Field.{Field}
use Rattle.wit_types.specs.declared.types.Flag.{Flag}
use Rattle.wit_types.specs.declared.types.Case.{Case}
use Rattle.wit_types.specs.declared.types.EnumCase.{EnumCase}
use Rattle.wit_types.specs.declared.types.Handle.{Handle}
use Rattle.wit_types.specs.declared.types.Handle.TheVariants as handle
use Rattle.wit_types.specs.declared.types.TypeDefKind.{TypeDefKind}
use Rattle.wit_types.specs.declared.types.TypeDefKind.TheVariants as kind
use Rattle.wit_listing.specs.ListingTexts.{type_text, optional_text}

abbrev pub field_text : Field → List ℕ
field_text f = 32 ∷ (f.name ++ (58 ∷ type_text f.ty))

abbrev pub flag_text : Flag → List ℕ
flag_text f = 32 ∷ f.name

abbrev pub item_text : Ty → List ℕ
item_text t = 32 ∷ type_text t

-- the type of a case, where it has one
abbrev pub payload_text : Option Ty → List ℕ
payload_text None = []
payload_text (Some t) = 58 ∷ type_text t

abbrev pub case_text : Case → List ℕ
case_text c = 32 ∷ (c.name ++ payload_text c.ty)

abbrev pub enum_case_text : EnumCase → List ℕ
enum_case_text c = 32 ∷ c.name

abbrev pub handle_text : Handle → List ℕ
handle_text (handle.Own resource) = codes "own #" ++ decimal resource
handle_text (handle.Borrow resource) = codes "borrow #" ++ decimal resource

-- what a type is
abbrev pub kind_text : TypeDefKind → List ℕ
kind_text (kind.Record r) = codes "record" ++ flat_map field_text r.fields
kind_text kind.Resource = codes "resource"
kind_text (kind.Handle h) = handle_text h
kind_text (kind.Flags f) = codes "flags" ++ flat_map flag_text f.flags
kind_text (kind.Tuple t) = codes "tuple" ++ flat_map item_text t.types
kind_text (kind.Variant v) = codes "variant" ++ flat_map case_text v.cases
kind_text (kind.Enum e) = codes "enum" ++ flat_map enum_case_text e.cases
kind_text (kind.Option t) = codes "option" ++ item_text t
kind_text (kind.Result r) = codes "result " ++ (optional_text r.ok ++ (32 ∷ optional_text r.err))
kind_text (kind.List t) = codes "list" ++ item_text t
kind_text (kind.Map k v) = codes "map" ++ (item_text k ++ item_text v)
kind_text (kind.FixedLengthList t n) = codes "fixed" ++ (item_text t ++ (32 ∷ decimal n))
kind_text (kind.Future t) = codes "future " ++ optional_text t
kind_text (kind.Stream t) = codes "stream " ++ optional_text t
kind_text (kind.Type_ t) = codes "alias" ++ item_text t
kind_text kind.Unknown = codes "unknown"
