-- The rules of what is written in definitions, and what it is that breaks each.
use Rattle.std.specs.Prelude.{◌≡◌, ℕ, ◌<◌, ◌⊎◌, List, [], map, Some, Contains, slice_get}
use Rattle.std.specs.Option.{option_map}
use Rattle.wit_values.specs.declared.span.Span.{Span}
use Rattle.wit_type_tree.specs.declared.leaves.Id.{Id}
use Rattle.wit_type_tree.specs.declared.types.Field.{Field}
use Rattle.wit_type_tree.specs.declared.types.Flag.{Flag}
use Rattle.wit_type_tree.specs.declared.types.Case.{Case}
use Rattle.wit_type_tree.specs.declared.types.EnumCase.{EnumCase}
use Rattle.wit_type_tree.specs.declared.types.Primitive.{Primitive}
use Rattle.wit_type_tree.specs.declared.types.Primitive.TheVariants as primitive
use Rattle.wit_type_tree.specs.declared.types.«Type».{«Type» as Written}
use Rattle.wit_type_tree.specs.declared.types.«Type».TheVariants as written
use Rattle.wit_type_tree.specs.declared.types.TypeBody.{TypeBody}
use Rattle.wit_type_tree.specs.declared.types.TypeBody.TheVariants.{Record, Flags, Variant, Enum}
use Rattle.wit_type_tree.specs.TypeParts.{part_types, row_types, body_types}
use Rattle.wit_names.specs.Folded.{lower_case}
use Rattle.wit_syntax.specs.Fault.{Fault, fault, fault_in}

-- an earlier item of a list has the key of a later one
abbrev pub IsRepeated : {X : Type 0} → (X → List ℕ) → List X → X → Type 0
IsRepeated {X} key xs later = (first second : ℕ) × (first < second) × (earlier : X) × (slice_get xs first ≡ Some earlier) × (slice_get xs second ≡ Some later) × (key earlier ≡ key later)

-- an earlier item of a list has the key of a later one, of which a fault is stated
abbrev pub IsSecond : {X : Type 0} → (X → List ℕ) → (X → Fault) → List X → Fault → Type 0
IsSecond {X} key as_stated xs f = (later : X) × IsRepeated key xs later × (f ≡ as_stated later)

-- the same, where the words of the fault have more in them than the later item: in some words
abbrev pub IsSecondIn : {X : Type 0} → (X → List ℕ) → (X → List ℕ → Fault) → List X → Fault → Type 0
IsSecondIn {X} key as_stated xs f = (words : List ℕ) × IsSecond key (λ (x : X). as_stated x words) xs f

-- a list has nothing in it, and the fault of this number says of it
abbrev pub IsEmpty : {X : Type 0} → ℕ → List X → Span → Fault → Type 0
IsEmpty number xs span f = (xs ≡ []) × (f ≡ fault number span)

-- a flag is the thirty-third
abbrev pub IsFlagTooMany : List Flag → Fault → Type 0
IsFlagTooMany flags f = option_map (λ (flag : Flag). fault 21 flag.name.span) (slice_get flags 32) ≡ Some f

-- an earlier one of the names of fields, flags or cases is the same once case is folded
abbrev pub IsDuplicateName : List Id → Fault → Type 0
IsDuplicateName names f = IsSecondIn (λ (id : Id). lower_case id.name.now) (λ (id : Id) (words : List ℕ). fault_in 25 id.span words) names f

-- the keys of a map can be of a primitive type, but of no float and no context of errors
abbrev pub CanBeKey : Primitive → Type 0
CanBeKey primitive.F32 = ⊥
CanBeKey primitive.F64 = ⊥
CanBeKey primitive.ErrorContext = ⊥
CanBeKey _ = Unit {0}

-- the keys of a map can be of the type, as it is written
abbrev pub IsKey : Written → Type 0
IsKey (written.Primitive span p) = CanBeKey p
IsKey _ = ⊥

-- a map's key is written as another type
abbrev pub IsInvalidKey : Written → Span → Fault → Type 0
IsInvalidKey key span f = (IsKey key → ⊥) × (f ≡ fault 26 span)

-- what is wrong with a written type apart from its parts
abbrev pub IsBrokenForm : Written → Fault → Type 0
IsBrokenForm (written.Tuple' span shape ts) f = IsEmpty 22 (row_types ts) span f
IsBrokenForm (written.Map' span p key q value) f = IsInvalidKey key span f
IsBrokenForm t f = ⊥

-- something is wrong with a written type apart from its parts, or with a part
pub data IsBrokenType : Written → Fault → Type 0 where
  Itself : {t : Written} {f : Fault} → IsBrokenForm t f → IsBrokenType t f
  Inside : {whole t : Written} {f : Fault} → Contains (part_types whole) t → IsBrokenType t f → IsBrokenType whole f

-- with one of these types
abbrev pub IsBrokenPart : List Written → Fault → Type 0
IsBrokenPart types f = (t : Written) × Contains types t × IsBrokenType t f

-- what is wrong with fields, flags or cases: there is none, and the fault of this number says of it, or a name repeats
abbrev pub AreBroken : {X : Type 0} → ℕ → (X → Id) → List X → Span → Fault → Type 0
AreBroken number name xs span f = IsEmpty number xs span f ⊎ IsDuplicateName (map name xs) f

-- what is wrong with the fields, flags or cases of a body
abbrev pub IsBrokenList : TypeBody → Fault → Type 0
IsBrokenList (Record span fields) f = AreBroken 19 (λ (x : Field). x.name) fields.items span f
IsBrokenList (Flags span flags) f = AreBroken 20 (λ (x : Flag). x.name) flags.items span f ⊎ IsFlagTooMany flags.items f
IsBrokenList (Variant span cases) f = AreBroken 23 (λ (x : Case). x.name) cases.items span f
IsBrokenList (Enum span cases) f = AreBroken 24 (λ (x : EnumCase). x.name) cases.items span f
IsBrokenList _ f = ⊥

-- what is wrong with the body of a definition: its list, or a type that is written in it
abbrev pub IsBrokenBody : TypeBody → Fault → Type 0
IsBrokenBody body f = IsBrokenList body f ⊎ IsBrokenPart (body_types body) f
