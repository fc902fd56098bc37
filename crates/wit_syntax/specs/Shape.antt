-- A written type as a shape: a primitive, a name, or a form over parts.
use Rattle.std.specs.Prelude.{true, false, List, [], ◌∷◌, ◌++◌, map, is_some}
use Rattle.wit_values.specs.declared.span.Span.{Span}
use Rattle.wit_type_tree.specs.declared.leaves.Id.{Id}
use Rattle.wit_type_tree.specs.declared.types.Primitive.{Primitive}
use Rattle.wit_type_tree.specs.declared.types.«Type».{«Type» as Written, None', Some', Row_of-Type, end_of-Type, more_of-Type}
use Rattle.wit_type_tree.specs.declared.types.«Type».TheVariants as written
use Rattle.wit_type_tree.specs.declared.types.ResultTypes.{Neither, Ok', Err', Both'}
use Rattle.wit_type_tree.specs.declared.types.Field.{Field}
use Rattle.wit_type_tree.specs.declared.types.Flag.{Flag}
use Rattle.wit_type_tree.specs.declared.types.Case.{Case}
use Rattle.wit_type_tree.specs.declared.types.EnumCase.{EnumCase}
use Rattle.wit_type_tree.specs.declared.types.TypeBody.{TypeBody}
use Rattle.wit_type_tree.specs.declared.types.TypeBody.TheVariants.{Record, Flags, Variant, Enum, Resource, Plain}
use Rattle.wit_type_tree.specs.TypeParts.{field_types, case_types}
use Rattle.wit_type_tree.specs.declared.leaves.Docs.{Docs as Comments}
use Rattle.wit_syntax.specs.Metadata.{docs_of}
use Rattle.wit_syntax.specs.Form.{Member, Form, RecordForm, FlagsForm, VariantForm, EnumForm, OptionForm, ResultForm, TupleForm, ListForm, MapForm, FixedLengthListForm, FutureForm, StreamForm, AliasForm, OwnForm, BorrowForm, ResourceForm}
use Rattle.std.specs.List.{flat_map}

-- a type is a primitive, a name, or an unnamed type: a form over parts, with its span
mutual
  pub data Shape : Type 0 where
    Prim : (primitive : Primitive) → Shape
    Word : (id : Id) → Shape
    Of : (span : Span) (form : Form) (parts : Shapes) → Shape

  pub data Shapes : Type 0 where
    End : Shapes
    More : (first : Shape) (rest : Shapes) → Shapes

abbrev pub one : Shape → Shapes
one x = More x End

-- the shape of a written type; a part that is left out is given by the form
abbrev mutual
  pub shape_of : Written → Shape
  shape_of (written.Primitive span p) = Prim p
  shape_of (written.Name id) = Word id
  shape_of (written.List' span p t) = Of span ListForm (one (shape_of t))
  shape_of (written.FixedLengthList' span p t size) = Of span (FixedLengthListForm size) (one (shape_of t))
  shape_of (written.Map' span p key q value) = Of span MapForm (More (shape_of key) (one (shape_of value)))
  shape_of (written.Option' span p t) = Of span OptionForm (one (shape_of t))
  shape_of (written.Result span Neither) = Of span (ResultForm false false) End
  shape_of (written.Result span (Ok' p t)) = Of span (ResultForm true false) (one (shape_of t))
  shape_of (written.Result span (Err' p t)) = Of span (ResultForm false true) (one (shape_of t))
  shape_of (written.Result span (Both' p t q u)) = Of span (ResultForm true true) (More (shape_of t) (one (shape_of u)))
  shape_of (written.Tuple' span shape ts) = Of span TupleForm (row_shapes ts)
  shape_of (written.Future' span None') = Of span (FutureForm false) End
  shape_of (written.Future' span (Some' p t)) = Of span (FutureForm true) (one (shape_of t))
  shape_of (written.Stream' span None') = Of span (StreamForm false) End
  shape_of (written.Stream' span (Some' p t)) = Of span (StreamForm true) (one (shape_of t))
  -- a resource that is owned is written as the resource
  shape_of (written.Own span id) = Word id
  shape_of (written.Borrow span id) = Of span BorrowForm (one (Word id))

  -- those of types in a row
  pub row_shapes : {m : _} → Row_of-Type m → Shapes
  row_shapes end_of-Type = End
  row_shapes (more_of-Type t rest) = More (shape_of t) (row_shapes rest)

-- the shapes of written types
abbrev pub all_shapes : List Written → Shapes
all_shapes [] = End
all_shapes (t ∷ ts) = More (shape_of t) (all_shapes ts)

-- what is under a name: a form over parts
pub record Body : Type 0 where
  pub form : Form
  pub parts : Shapes

-- an unnamed type is under a name with its own form and parts; a name or a primitive gets another word
abbrev pub head : Shape → Body
head (Of span form parts) = record { form = form; parts = parts }
head x = record { form = AliasForm; parts = one x }

-- a field, flag or case of this name, with what documents it
abbrev pub member : Comments → Id → Member
member docs id = record { name = id.name.now; docs = docs_of docs; span = id.span }

-- what a definition says: a handle that owns is one under a name
abbrev pub body_of : TypeBody → Body
body_of (Record span fields) = record { form = RecordForm (map (λ (f : Field). member f.docs f.name) fields.items); parts = all_shapes (field_types fields.items) }
body_of (Flags span flags) = record { form = FlagsForm (map (λ (f : Flag). member f.docs f.name) flags.items); parts = End }
body_of (Variant span cases) = record { form = VariantForm (map (λ (c : Case). (member c.docs c.name, is_some c.ty)) cases.items); parts = all_shapes (case_types cases.items) }
body_of (Enum span cases) = record { form = EnumForm (map (λ (c : EnumCase). member c.docs c.name) cases.items); parts = End }
body_of (Resource funcs) = record { form = ResourceForm; parts = End }
body_of (Plain (written.Own span id)) = record { form = OwnForm; parts = one (Word id) }
body_of (Plain t) = head (shape_of t)

-- the names written in a type, in written order
abbrev mutual
  pub words : Shape → List Id
  words (Prim p) = []
  words (Word id) = id ∷ []
  words (Of span form parts) = all_words parts

  pub all_words : Shapes → List Id
  all_words End = []
  all_words (More x xs) = words x ++ all_words xs

-- the names written in handles, in written order
abbrev mutual
  pub handles : Written → List Id
  handles (written.Own span id) = id ∷ []
  handles (written.Borrow span id) = id ∷ []
  handles (written.List' span p t) = handles t
  handles (written.FixedLengthList' span p t size) = handles t
  handles (written.Map' span p key q value) = handles key ++ handles value
  handles (written.Option' span p t) = handles t
  handles (written.Result span (Ok' p t)) = handles t
  handles (written.Result span (Err' p t)) = handles t
  handles (written.Result span (Both' p t q u)) = handles t ++ handles u
  handles (written.Tuple' span shape ts) = row_handles ts
  handles (written.Future' span (Some' p t)) = handles t
  handles (written.Stream' span (Some' p t)) = handles t
  handles _ = []

  pub row_handles : {m : _} → Row_of-Type m → List Id
  row_handles end_of-Type = []
  row_handles (more_of-Type t rest) = handles t ++ row_handles rest

abbrev pub all_handles : List Written → List Id
all_handles ts = flat_map handles ts
