-- Functions as they are written: each by its mangled name, with the shapes of its parameters and of its result.
use Rattle.std.specs.Prelude.{ℕ, List, [], ◌∷◌, ◌++◌, Option, Some, map, codes}
use Rattle.std.specs.List.{flat_map}
use Rattle.std.specs.Option.{option_map, option_map_or, option_to_list}
use Rattle.wit_values.specs.declared.span.Span.{Span}
use Rattle.wit_type_tree.specs.declared.leaves.Id.{Id}
use Rattle.wit_type_tree.specs.declared.leaves.Attribute.{Attribute}
use Rattle.wit_type_tree.specs.declared.leaves.Docs.{Docs}
use Rattle.wit_type_tree.specs.declared.types.«Type».{«Type» as Written}
use Rattle.wit_type_tree.specs.declared.types.TypeBody.{TypeBody}
use Rattle.wit_type_tree.specs.declared.types.TypeBody.TheVariants as body
use Rattle.wit_type_tree.specs.declared.types.NamedFunc.{NamedFunc}
use Rattle.wit_type_tree.specs.declared.types.Func.{Func}
use Rattle.wit_tree.specs.declared.tree.WorldSide.{WorldSide}
use Rattle.wit_tree.specs.declared.tree.Extern.{Extern}
use Rattle.wit_tree.specs.declared.tree.ExternKind.{ExternKind}
use Rattle.wit_tree.specs.declared.tree.ExternKind.TheVariants as extern
use Rattle.wit_type_tree.specs.declared.types.FuncForm.{FuncForm}
use Rattle.wit_type_tree.specs.declared.types.FuncForm.TheVariants as form
use Rattle.wit_type_tree.specs.declared.types.Param.{Param}
use Rattle.wit_type_tree.specs.declared.types.ResourceFunc.{ResourceFunc}
use Rattle.wit_type_tree.specs.declared.types.ResourceFunc.TheVariants as resource
use Rattle.wit_type_tree.specs.TypeParts.{body_types}
use Rattle.wit_syntax.specs.Form.{BorrowForm}
use Rattle.wit_syntax.specs.Shape.{Shape, Word, Of, one, shape_of}
use Rattle.wit_syntax.specs.Source.{Part, DefinitionPart, FunctionPart, ExternPart, ScopeName, Defined}

-- what a function is: by itself in an interface, of a resource, or by itself on a side of a world
pub data Role : Type 0 where
  Freestanding : (id : Id) (form : FuncForm) → Role
  Method Static : (of : Id) (form : FuncForm) → Role
  Constructor : (of : Id) → Role
  OnSide : (side : WorldSide) (id : Id) (form : FuncForm) → Role

-- a parameter: its name, the place of that, and its type
pub record SourceParam : Type 0 where
  pub name : List ℕ
  pub span : Span
  pub shape : Shape

-- A function: its mangled name, what it is, the place of its written name, what it is first given, the signature that is written after
-- its name, its result, and its docs and attributes.
pub record SourceFunction : Type 0 where
  pub name : List ℕ
  pub role : Role
  pub span : Span
  pub given : List SourceParam
  pub func : Func
  pub result : Option Shape
  pub docs : Docs
  pub attributes : List Attribute

-- a parameter as it is written
abbrev pub written_param : Param → SourceParam
written_param p = record { name = p.name.name.now; span = p.name.span; shape = shape_of p.ty }

-- all its parameters
abbrev pub all_params : SourceFunction → List SourceParam
all_params f = f.given ++ map written_param f.func.params.items

-- the types that are written in it, in order
abbrev pub written_types : SourceFunction → List Written
written_types f = map (λ p. p.ty) f.func.params.items ++ option_to_list f.func.result

-- the mark of an accessor
abbrev pub accessor : FuncForm → List ℕ
accessor form.Getter = codes "[get]"
accessor form.Setter = codes "[set]"
accessor _ = []

-- a method is first given its resource, lent, where the function is
abbrev pub self_param : Id → Span → SourceParam
self_param r span = record { name = codes "self"; span = span; shape = Of span BorrowForm (one (Word r)) }

-- a function whose mangled name, role and first parameters are these, and these the docs and the attributes, its written name and the
-- signature after that
abbrev pub function_of : List ℕ → Role → List SourceParam → Docs → List Attribute → Id → Func → SourceFunction
function_of name role given docs attributes id f = record { name = name; role = role; span = id.span; given = given; func = f; result = option_map shape_of f.result; docs = docs; attributes = attributes }

-- a function of an interface
abbrev pub free_function : NamedFunc → SourceFunction
free_function f = function_of (accessor f.func.form ++ f.name.name.now) (Freestanding f.name f.func.form) [] f.docs f.attributes.items f.name f.func

-- a function on a side of a world
abbrev pub side_function : WorldSide → Docs → List Attribute → Id → Func → SourceFunction
side_function side docs attributes id f = function_of (accessor f.form ++ id.name.now) (OnSide side id f.form) [] docs attributes id f

-- the function that a world imports or exports, if it is one
abbrev pub extern_functions : Extern → ExternKind → List SourceFunction
extern_functions x (extern.Func name f) = side_function x.side x.docs x.attributes.items name f ∷ []
extern_functions x _ = []

-- a constructor without a result makes its resource
abbrev pub constructor_of : Id → Docs → List Attribute → Func → SourceFunction
constructor_of r docs attributes f =
    record { name = codes "[constructor]" ++ r.name.now; role = Constructor r; span = f.span; given = []; func = f; result = Some (option_map_or shape_of f.result (Word r)); docs = docs; attributes = attributes }

-- a function of a resource
abbrev pub resource_function : Id → ResourceFunc → SourceFunction
resource_function r (resource.Method f) = function_of (codes "[method]" ++ accessor f.func.form ++ (r.name.now ++ codes "." ++ f.name.name.now)) (Method r f.func.form) (self_param r f.func.span ∷ []) f.docs f.attributes.items f.name f.func
resource_function r (resource.Static f) = function_of (codes "[static]" ++ accessor f.func.form ++ (r.name.now ++ codes "." ++ f.name.name.now)) (Static r f.func.form) [] f.docs f.attributes.items f.name f.func
resource_function r (resource.Constructor docs attributes span params result) = constructor_of r docs attributes.items (record { span = span; form = form.Plain; params = params; result = result })

-- the functions of a definition: those of a resource
abbrev pub definition_functions : Id → TypeBody → List SourceFunction
definition_functions r (body.Resource funcs) = map (resource_function r) funcs.items
definition_functions r _ = []

-- the functions of a part of an item
abbrev pub part_functions : Part → List SourceFunction
part_functions (DefinitionPart d) = definition_functions d.name d.body
part_functions (FunctionPart f) = free_function f ∷ []
part_functions (ExternPart x) = extern_functions x x.kind
part_functions _ = []

-- the names of the functions that are no resource's
abbrev pub role_names : Role → List (List ℕ)
role_names (Freestanding id form) = id.name.now ∷ []
role_names (OnSide side id form) = id.name.now ∷ []
role_names _ = []

-- the types that are written in a name of a scope: those of a definition's body
abbrev pub name_types : ScopeName → List Written
name_types (Defined d) = body_types d.body
name_types _ = []

-- the types that are written in names of a scope, and then in its functions
abbrev pub all_types : List ScopeName → List SourceFunction → List Written
all_types xs fns = flat_map name_types xs ++ flat_map written_types fns

-- the types of a function, in the order in which they are resolved
abbrev pub signature : SourceFunction → List Shape
signature f = map (λ p. p.shape) (all_params f) ++ option_to_list f.result
