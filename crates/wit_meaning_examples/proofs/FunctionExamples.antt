-- A worked row with the functions of a resource and of an interface, computed by the definitions.
use Rattle.std.proofs.Common.{◌≡◌, ℕ, false, true, List, [], ◌∷◌, map, Option, Some, None, refl, lit<, sym, ap, ◌∙◌}
use Rattle.wit_arena.proofs.Common.{Address, AreFunctions, Borrow, BorrowForm, Box, Constructor, Def, End, Expr, FixedLengthListForm, Freestanding, Function, FunctionKey, FunctionKind, FutureForm, Global, Id, Interface, InterfaceNamed, Item, Key, MapForm, Method, More, NamedFunc, None', Occurrence, Of, OptionForm, PackageFile, Param, Prim, Primitive, Resource, Shape, Some', SourceFunction, Span, Static, StreamForm, TheInterface, TypeDef, TypeDefKind, Unknown, UnresolvedPackage, Use, Whole, Word, all_handles, codes, flat_map, folded_key, free_function, function_types, functions, functions_of, item_types, no_docs, occurrences, one, package_tree, placed_functions, resource_function, role_names, rows_of, scope_names, signature, source_tree, top_names, turned, «Type» as Written, GivesPlaces, function_in}
use Rattle.wit_syntax.proofs.Common.{Interface as WrittenInterface, Param as WrittenParam}
use denote.RawPtr.{Ptr}
use Rattle.wit_type_tree.specs.declared.types.Primitive.TheVariants as primitive
use Rattle.wit_type_tree.specs.declared.types.«Type».TheVariants as written
use Rattle.wit_type_tree.specs.declared.types.TypeDef.{TypeDef as Definition}
use Rattle.wit_type_tree.specs.declared.types.ResourceFunc.TheVariants as resource
use Rattle.wit_type_tree.specs.declared.types.FuncForm.TheVariants as form
use Rattle.wit_tree.specs.declared.tree.InterfaceItem.TheVariants.{TypeDef as TypeItem, Func as FuncItem}
use Rattle.wit_tree.specs.declared.tree.AstItem.TheVariants.{Interface as InterfaceItem}
use Rattle.wit_types.specs.declared.types.«Type».{«Type» as Ty}
use Rattle.wit_types.specs.declared.types.«Type».TheVariants as type
use Rattle.wit_types.specs.declared.types.TypeDefKind.TheVariants as kind
use Rattle.wit_types.specs.declared.types.TypeOwner.TheVariants as owner
use Rattle.wit_functions.specs.declared.function.FunctionKind.TheVariants as function_kind
use Rattle.wit_syntax.specs.Shape as shape
use Rattle.wit_meaning_examples.proofs.Examples.{at, id, vec, no_comments, unstated, header}

-- package foo:foo; interface i { resource r { constructor(n: u32); m: async func(x: borrow<r>) -> future<u8>; s: static func() -> r; } f: func(a: map<string, list<u8, 4>>) -> option<stream>; }
module _ (ptr : Ptr) (alloc : Global) where
  abbrev box : Box (Unit {0}) Global
  box = record { ptr = ptr; alloc = alloc; value = tt }

  abbrev named_r : Span → Id
  named_r span = id ptr alloc (codes "r") span refl

  abbrev n_u32 : WrittenParam
  n_u32 = record { name = id ptr alloc (codes "n") (at 56 57) refl; ty = written.Primitive (at 59 62) primitive.U32 }

  abbrev x_borrow : WrittenParam
  x_borrow = record { name = id ptr alloc (codes "x") (at 79 80) refl; ty = written.Borrow (at 82 88) (named_r (at 89 90)) }

  abbrev method_m : NamedFunc
  method_m = record { docs = no_comments ptr alloc; attributes = unstated ptr alloc; name = id ptr alloc (codes "m") (at 65 66) refl; func = record { span = at 74 78; form = form.Async; params = vec ptr alloc (x_borrow ∷ []) (lit< tt); result = Some (written.Future' (at 96 102) (Some' box (written.Primitive (at 103 105) primitive.U8))) } }

  abbrev static_s : NamedFunc
  static_s = record { docs = no_comments ptr alloc; attributes = unstated ptr alloc; name = id ptr alloc (codes "s") (at 108 109) refl; func = record { span = at 118 122; form = form.Plain; params = vec ptr alloc [] (lit< tt); result = Some (written.Name (named_r (at 128 129))) } }

  abbrev r : Definition
  r = record { docs = no_comments ptr alloc; attributes = unstated ptr alloc; name = named_r (at 40 41); body = Resource (vec ptr alloc (resource.Constructor (no_comments ptr alloc) (unstated ptr alloc) (at 44 55) (vec ptr alloc (n_u32 ∷ []) (lit< tt)) None ∷ resource.Method method_m ∷ resource.Static static_s ∷ []) (lit< tt)) }

  abbrev map_type : Written
  map_type = written.Map' (at 144 147) box (written.Primitive (at 148 154) primitive.String) box (written.FixedLengthList' (at 156 160) box (written.Primitive (at 161 163) primitive.U8) 4)

  abbrev a_map : WrittenParam
  a_map = record { name = id ptr alloc (codes "a") (at 141 142) refl; ty = map_type }

  abbrev f : NamedFunc
  f = record { docs = no_comments ptr alloc; attributes = unstated ptr alloc; name = id ptr alloc (codes "f") (at 133 134) refl; func = record { span = at 136 140; form = form.Plain; params = vec ptr alloc (a_map ∷ []) (lit< tt); result = Some (written.Option' (at 173 179) box (written.Stream' (at 180 186) None')) } }

  abbrev i : WrittenInterface
  i = record { docs = no_comments ptr alloc; attributes = unstated ptr alloc; name = id ptr alloc (codes "i") (at 27 28) refl; items = vec ptr alloc (TypeItem r ∷ FuncItem f ∷ []) (lit< tt) }

  abbrev file : PackageFile
  file = record { package_id = Some (header ptr alloc); decl_list = record { items = vec ptr alloc (InterfaceItem i ∷ []) (lit< tt) } }

  abbrev files : List PackageFile
  files = file ∷ []

  abbrev item : Item
  item = record { top = top_names file; declared = TheInterface i }

  abbrev in_i : Address
  in_i = InterfaceNamed (codes "i")

  -- the functions of the resource are at its definition
  names : map (λ (g : SourceFunction). g.name) (functions item) ≡ (codes "[constructor]r" ∷ codes "[method]r.m" ∷ codes "[static]r.s" ∷ codes "f" ∷ [])
  names = refl

  roles : map (λ (g : SourceFunction). g.role) (functions item) ≡ (Constructor r.name ∷ Method r.name form.Async ∷ Static r.name form.Plain ∷ Freestanding f.name form.Plain ∷ [])
  roles = refl

  keys_of_names : map (λ (g : SourceFunction). folded_key g.name) (functions item) ≡ (codes "[constructor]r" ∷ codes "r.m" ∷ codes "r.s" ∷ codes "f" ∷ [])
  keys_of_names = refl

  free : flat_map (λ fn. role_names fn.role) (functions item) ≡ (codes "f" ∷ [])
  free = refl

  -- a function is no body, so the resource needs no name
  needs : rows_of (scope_names item) ≡ (record { name = codes "r"; needs = [] } ∷ [])
  needs = refl

  -- a constructor gives its resource, and a method is first given it, lent
  abbrev borrow_r : Span → Id → shape.Shape
  borrow_r span name = shape.Of span BorrowForm (shape.one (Word name))

  abbrev map_shape : shape.Shape
  map_shape = shape.Of (at 144 147) MapForm (shape.More (shape.Prim primitive.String) (shape.one (shape.Of (at 156 160) (FixedLengthListForm 4) (shape.one (shape.Prim primitive.U8)))))

  signatures : map signature (functions item)
      ≡ ((shape.Prim primitive.U32 ∷ Word r.name ∷ [])
      ∷ (borrow_r (at 74 78) r.name ∷ borrow_r (at 82 88) (named_r (at 89 90)) ∷ shape.Of (at 96 102) (FutureForm true) (shape.one (shape.Prim primitive.U8)) ∷ [])
      ∷ (Word (named_r (at 128 129)) ∷ [])
      ∷ (map_shape ∷ shape.Of (at 173 179) OptionForm (shape.one (shape.Of (at 180 186) (StreamForm false) shape.End)) ∷ [])
      ∷ [])
  signatures = refl

  -- the one name in a handle
  in_handles : all_handles (item_types item) ≡ (named_r (at 89 90) ∷ [])
  in_handles = refl

  -- what occurs: the resource, and then each signature with its parts in front
  abbrev whole_seen : Span → Primitive → Occurrence
  whole_seen span p = record { key = Whole (FutureForm true) (one (Prim p)); span = span; given = Unknown }

  abbrev borrow_seen : Span → Occurrence
  borrow_seen span = record { key = Whole BorrowForm (one (Use in_i (codes "r"))); span = span; given = Unknown }

  abbrev fixed : Expr
  fixed = Of (FixedLengthListForm 4) (one (Prim primitive.U8))

  abbrev stream : Expr
  stream = Of (StreamForm false) End

  abbrev after_names : List Occurrence
  after_names = borrow_seen (at 74 78) ∷ borrow_seen (at 82 88) ∷ whole_seen (at 96 102) primitive.U8
      ∷ record { key = Whole (FixedLengthListForm 4) (one (Prim primitive.U8)); span = at 156 160; given = Unknown }
      ∷ record { key = Whole MapForm (More (Prim primitive.String) (one fixed)); span = at 144 147; given = Unknown }
      ∷ record { key = Whole (StreamForm false) End; span = at 180 186; given = Unknown }
      ∷ record { key = Whole OptionForm (one stream); span = at 173 179; given = Unknown } ∷ []

  seen : occurrences (map turned (record { item = item; order = 0 ∷ [] } ∷ [])) ≡ (record { key = Def in_i (codes "r"); span = at 40 41; given = Unknown } ∷ after_names)
  seen = refl

  -- the arena: each once
  abbrev ks : List Key
  ks = Def in_i (codes "r") ∷ Whole BorrowForm (one (Use in_i (codes "r"))) ∷ Whole (FutureForm true) (one (Prim primitive.U8)) ∷ Whole (FixedLengthListForm 4) (one (Prim primitive.U8)) ∷ Whole MapForm (More (Prim primitive.String) (one fixed)) ∷ Whole (StreamForm false) End ∷ Whole OptionForm (one stream) ∷ []

  abbrev unnamed : TypeDefKind → Span → TypeDef
  unnamed kind span = record { name = None; kind = kind; owner = owner.None; docs = no_docs; stability = Unknown; span = span; external_id = None }

  abbrev r_entry : TypeDef
  r_entry = record { name = Some (codes "r"); kind = kind.Resource; owner = owner.Interface 0; docs = no_docs; stability = Unknown; span = at 40 41; external_id = None }

  abbrev types : List TypeDef
  types = r_entry
      ∷ unnamed (kind.Handle (Borrow 0)) (at 74 78)
      ∷ unnamed (kind.Future (Some type.U8)) (at 96 102)
      ∷ unnamed (kind.FixedLengthList type.U8 4) (at 156 160)
      ∷ unnamed (kind.Map type.String (type.Id 3)) (at 144 147)
      ∷ unnamed (kind.Stream None) (at 180 186)
      ∷ unnamed (kind.Option (type.Id 5)) (at 173 179) ∷ []

  abbrev given : List ℕ → Ty → Span → Param
  given name ty span = record { name = name; ty = ty; span = span }

  abbrev function : List ℕ → FunctionKind → List Param → Option Ty → Span → Function
  function name kind params result span = record { name = name; kind = kind; params = params; result = result; docs = no_docs; stability = Unknown; span = span; external_id = None }

  abbrev made_constructor : Function
  made_constructor = function (codes "[constructor]r") (function_kind.Constructor 0) (given (codes "n") type.U32 (at 56 57) ∷ []) (Some (type.Id 0)) (at 44 55)

  abbrev made_method : Function
  made_method = function (codes "[method]r.m") (function_kind.AsyncMethod 0) (given (codes "self") (type.Id 1) (at 74 78) ∷ given (codes "x") (type.Id 1) (at 79 80) ∷ []) (Some (type.Id 2)) (at 65 66)

  abbrev made_static : Function
  made_static = function (codes "[static]r.s") (function_kind.Static 0) [] (Some (type.Id 0)) (at 108 109)

  abbrev made_f : Function
  made_f = function (codes "f") function_kind.Freestanding (given (codes "a") (type.Id 4) (at 141 142) ∷ []) (Some (type.Id 6)) (at 133 134)

  abbrev made : List Function
  made = made_constructor ∷ made_method ∷ made_static ∷ made_f ∷ []

  abbrev interface : Interface
  interface = record { name = Some (codes "i"); types = (codes "r", 0) ∷ []; functions = placed_functions made; docs = no_docs; stability = Unknown; «package» = None; span = at 27 28; clone_of = None }

  abbrev whole : UnresolvedPackage
  whole = record { docs = no_docs; name = record { namespace = codes "foo"; name = codes "foo"; version = None }; worlds = []; interfaces = interface ∷ []; types = types; foreign_deps = []; name_span = at 8 15; unknown_type_spans = []; foreign_dep_spans = []; required_resource_types = [] }

  -- no setter is among them, so each keeps its place
  placed : map (λ (g : FunctionKey × Function). g.0.1) (functions_of whole (owner.Interface 0)) ≡ (codes "[constructor]r" ∷ codes "[method]r.m" ∷ codes "[static]r.s" ∷ codes "f" ∷ [])
  placed = refl

  -- each is the written one, over the places of what occurs
  module _ (place : Key → ℕ) (gives : GivesPlaces place ks) where
    r_place : place (Def in_i (codes "r")) ≡ 0
    r_place = gives.at 0 (Def in_i (codes "r")) refl

    is_constructor : made_constructor ≡ function_in place in_i (resource_function r.name (resource.Constructor (no_comments ptr alloc) (unstated ptr alloc) (at 44 55) (vec ptr alloc (n_u32 ∷ []) (lit< tt)) None))
    is_constructor = ap (λ (k : ℕ). function (codes "[constructor]r") (function_kind.Constructor k) (given (codes "n") type.U32 (at 56 57) ∷ []) (Some (type.Id k)) (at 44 55)) (sym r_place)

    is_method : made_method ≡ function_in place in_i (resource_function r.name (resource.Method method_m))
    is_method =
        let method = λ (k b f : ℕ). function (codes "[method]r.m") (function_kind.AsyncMethod k) (given (codes "self") (type.Id b) (at 74 78) ∷ given (codes "x") (type.Id b) (at 79 80) ∷ []) (Some (type.Id f)) (at 65 66) in
        let borrow = Whole BorrowForm (one (Use in_i (codes "r"))) in
        let future = Whole (FutureForm true) (one (Prim primitive.U8)) in
        ap (λ (k : ℕ). method k 1 2) (sym r_place) ∙ ap (λ (b : ℕ). method (place (Def in_i (codes "r"))) b 2) (sym (gives.at 1 borrow refl)) ∙ ap (method (place (Def in_i (codes "r"))) (place borrow)) (sym (gives.at 2 future refl))

    is_static : made_static ≡ function_in place in_i (resource_function r.name (resource.Static static_s))
    is_static = ap (λ (k : ℕ). function (codes "[static]r.s") (function_kind.Static k) [] (Some (type.Id k)) (at 108 109)) (sym r_place)

    is_f : made_f ≡ function_in place in_i (free_function f)
    is_f =
        let free = λ (a b : ℕ). function (codes "f") function_kind.Freestanding (given (codes "a") (type.Id a) (at 141 142) ∷ []) (Some (type.Id b)) (at 133 134) in
        let map_form = Whole MapForm (More (Prim primitive.String) (one fixed)) in
        let option_form = Whole OptionForm (one stream) in
        ap (λ (a : ℕ). free a 6) (sym (gives.at 4 map_form refl)) ∙ ap (free (place map_form)) (sym (gives.at 6 option_form refl))

    all_are : made ≡ map (function_in place in_i) (functions item)
    all_are = cc (is_constructor, is_method, is_static, is_f)

  are_functions : AreFunctions ks in_i (functions item) made
  are_functions = all_are

  -- the trees of their types are those of the files
  trees_in_files : map (λ (x : shape.Shape). source_tree files 4 (in_i, x)) (flat_map signature (functions item)) ≡ map (package_tree whole 4) (flat_map function_types made)
  trees_in_files = refl
