-- The types that are written in a type or in the body of a definition, in written order.
use Rattle.std.specs.Prelude.{List, [], ◌∷◌, ◌++◌, map, Option, Some, None, Box}
use Rattle.std.specs.List.{filter_map}
use Rattle.std.specs.Option.{option_to_list}
use Rattle.std.specs.declared.alloc.Global.{Global}
use Rattle.wit_type_tree.specs.declared.types.Field.{Field}
use Rattle.wit_type_tree.specs.declared.types.Case.{Case}
use Rattle.wit_type_tree.specs.declared.types.TypeBody.{TypeBody}
use Rattle.wit_type_tree.specs.declared.types.TypeBody.TheVariants.{Record, Variant, Plain}
use Rattle.wit_type_tree.specs.declared.types.«Type».{«Type» as Written, List', FixedLengthList', Map', Option', Result, Tuple', Future', Stream', Held-Type-Future-1, None', Some', Row_of-Type, end_of-Type, more_of-Type}
use Rattle.wit_type_tree.specs.declared.types.ResultTypes.{ResultTypes, Ok', Err', Both'}

-- the type of a result's value, where there is one
abbrev pub ok_type : ResultTypes → Option Written
ok_type (Ok' p t) = Some t
ok_type (Both' p t q u) = Some t
ok_type of = None

-- that of its error
abbrev pub err_type : ResultTypes → Option Written
err_type (Err' p t) = Some t
err_type (Both' p t q u) = Some u
err_type of = None

-- the types that a result is written with
abbrev pub result_types : ResultTypes → List Written
result_types of = option_to_list (ok_type of) ++ option_to_list (err_type of)

-- a type, where there is one
abbrev pub borrowed_types : Held-Type-Future-1 → List Written
borrowed_types None' = []
borrowed_types (Some' p t) = t ∷ []

abbrev pub boxed_types : Option (Box Written Global) → List Written
boxed_types None = []
boxed_types (Some b) = b.value ∷ []

-- types in a row
abbrev pub row_types : {m : _} → Row_of-Type m → List Written
row_types end_of-Type = []
row_types (more_of-Type t rest) = t ∷ row_types rest

-- the parts of a type: those written directly in it
abbrev pub part_types : Written → List Written
part_types (List' span p t) = t ∷ []
part_types (FixedLengthList' span p t size) = t ∷ []
part_types (Map' span p key q value) = key ∷ value ∷ []
part_types (Option' span p t) = t ∷ []
part_types (Result span of) = result_types of
part_types (Tuple' span shape ts) = row_types ts
part_types (Future' span t) = borrowed_types t
part_types (Stream' span t) = borrowed_types t
part_types _ = []

abbrev pub field_types : List Field → List Written
field_types fs = map (λ f. f.ty) fs

-- of the cases that hold something
abbrev pub case_types : List Case → List Written
case_types cs = filter_map (λ c. c.ty) cs

-- the functions of a resource are signatures, and no part of its body
abbrev pub body_types : TypeBody → List Written
body_types (Record span fields) = field_types fields.items
body_types (Variant span cases) = case_types cases.items
body_types (Plain t) = t ∷ []
body_types _ = []
