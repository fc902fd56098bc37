-- Rules of functions that no worked row shows, and a world whose resource has functions, computed by the definitions.
use Rattle.std.proofs.Common.{◌≡◌, ℕ, zero, suc, Bool, true, false, List, [], ◌∷◌, ◌++◌, map, Option, Some, None, refl, sym, ap, ◌∙◌, arith, lit<}
use Rattle.wit_arena.proofs.Common.{Borrow, ConstructorOfOther, ConstructorWithoutResult, Defined, Freestanding, Function as Made, GetterGiven, GetterWithoutResult, Global, Id, Imported, IsBroken, IsEntered, IsSetterAlone, Item, Missing, MissingInSignature, NamedFunc, Neither, OfNothing, Ok', Ordered, PackageFile, Plain, Role, ScopeName, SetterGiven, SetterWithResult, Shape, SourceFunction, Span, TheWorld, TypeDef, Unknown, UnresolvedPackage, WorldNamed, at_contains, bytes_eq, codes, fault, fault_in, flat_map, function_item, function_types, functions, functions_of, names_of, no_docs, option_map, ordered_names, package_tree, result_ok, signature, slice_get, source_tree, top_names, type_imports, «Type» as Written}
use Rattle.wit_syntax.proofs.Common.{Function, Interface, World as WrittenWorld}
use denote.RawPtr.{Ptr}
use Rattle.wit_type_tree.specs.declared.types.Primitive.TheVariants as primitive
use Rattle.wit_type_tree.specs.declared.types.«Type».TheVariants as written
use Rattle.wit_type_tree.specs.declared.types.TypeDef.{TypeDef as Definition}
use Rattle.wit_type_tree.specs.declared.types.FuncForm.TheVariants as form
use Rattle.wit_type_tree.specs.declared.types.ResourceFunc.TheVariants as resource
use Rattle.wit_tree.specs.declared.tree.InterfaceItem.TheVariants.{TypeDef as TypeItem, Func as FuncItem}
use Rattle.wit_tree.specs.declared.tree.WorldItem.TheVariants as world_item
use Rattle.wit_tree.specs.declared.tree.AstItem.TheVariants as ast
use Rattle.wit_types.specs.declared.types.«Type».TheVariants as type
use Rattle.wit_types.specs.declared.types.TypeDefKind.TheVariants as kind
use Rattle.wit_types.specs.declared.types.TypeOwner.TheVariants as owner
use Rattle.wit_functions.specs.declared.function.FunctionKind.TheVariants as function_kind
use Rattle.wit_meaning_examples.proofs.Examples.{at, id, vec, no_comments, unstated, header}
use Rattle.wit_meaning_examples.proofs.SignatureExamples.{i_of, file_of, item_of, in_scope, f_id, r_id, t_id, x_id, param, func, func_of, v_u8, resource_of}

module _ (ptr : Ptr) (alloc : Global) where
  abbrev getter : Span → Span → Span → NamedFunc
  getter name word ty = func ptr alloc (x_id ptr alloc name) word form.Getter (Some (written.Primitive ty primitive.U8))

  -- f: func(x: g); g: func();
  module _ where
    abbrev g_id : Span → Id
    g_id span = id ptr alloc (codes "g") span refl

    abbrev later : Interface
    later = i_of ptr alloc (FuncItem (func_of ptr alloc (f_id ptr alloc (at 31 32)) (at 34 38) form.Plain (param ptr alloc (x_id ptr alloc (at 39 40)) (written.Name (g_id (at 42 43)))) None) ∷ FuncItem (func ptr alloc (g_id (at 46 47)) (at 49 53) form.Plain None) ∷ []) (lit< tt)

    -- whether a function is written as g
    abbrev is_role_g : Role → Bool
    is_role_g (Freestanding name form) = bytes_eq name.name.now (codes "g")
    is_role_g _ = false

    abbrev is_named_g : Option SourceFunction → Bool
    is_named_g (Some fn) = is_role_g fn.role
    is_named_g None = false

    -- g is no name yet where it is written
    not_entered : IsEntered (functions (item_of ptr alloc later)) 0 (codes "g") → ⊥
    not_entered e =
        let first : e.0 ≡ 0 = (let before = e.1 in omega arith) in
        let there : slice_get (functions (item_of ptr alloc later)) 0 ≡ Some e.2 = ap (slice_get (functions (item_of ptr alloc later))) (sym first) ∙ e.3 in
        let wrong : false ≡ true = ap is_named_g there ∙ ap is_role_g e.6 ∙ ap (λ n. bytes_eq n (codes "g")) e.7 in
        let f : ⊥ = cc in
        f

    later_refused : IsBroken (file_of ptr alloc later ∷ []) (record { rule = 29; span = at 42 43; says = Missing (codes "g") (codes "name") None })
    later_refused = in_scope ptr alloc later _ (Function 0 _ refl (MissingInSignature (g_id (at 42 43)) (0, lit< tt, refl) refl (OfNothing not_entered refl)))

  -- x: get(v: u8) -> u8;
  abbrev given : Interface
  given = i_of ptr alloc (FuncItem (func_of ptr alloc (x_id ptr alloc (at 31 32)) (at 34 37) form.Getter (v_u8 ptr alloc (at 38 39) (at 41 43)) (Some (written.Primitive (at 48 50) primitive.U8))) ∷ []) (lit< tt)

  given_refused : IsBroken (file_of ptr alloc given ∷ []) (fault 36 (at 38 39))
  given_refused = in_scope ptr alloc given (fault 36 (at 38 39)) (Function 0 _ refl (GetterGiven (refl, _, refl, refl)))

  -- x: set(); x: get() -> u8;
  abbrev bare : Interface
  bare = i_of ptr alloc (FuncItem (func ptr alloc (x_id ptr alloc (at 31 32)) (at 34 37) form.Setter None) ∷ FuncItem (getter (at 41 42) (at 44 47) (at 53 55)) ∷ []) (lit< tt)

  -- at the function's word
  bare_refused : IsBroken (file_of ptr alloc bare ∷ []) (fault 37 (at 34 37))
  bare_refused = in_scope ptr alloc bare (fault 37 (at 34 37)) (Function 0 _ refl (SetterGiven (refl, λ (none : 0 ≡ 1). (let f : ⊥ = cc in f), refl)))

  -- x: set(v: u8, t: u8); x: get() -> u8;
  abbrev double : Interface
  double = i_of ptr alloc (FuncItem (record {
    docs = no_comments ptr alloc;
    attributes = unstated ptr alloc;
    name = x_id ptr alloc (at 31 32);
    func = record { span = at 34 37; form = form.Setter; params = vec ptr alloc (v_u8 ptr alloc (at 38 39) (at 41 43) ∷ param ptr alloc (t_id ptr alloc (at 45 46)) (written.Primitive (at 48 50) primitive.U8) ∷ []) (lit< tt); result = None };
  }) ∷ FuncItem (getter (at 53 54) (at 56 59) (at 65 67)) ∷ []) (lit< tt)

  double_refused : IsBroken (file_of ptr alloc double ∷ []) (fault 37 (at 45 46))
  double_refused = in_scope ptr alloc double (fault 37 (at 45 46)) (Function 0 _ refl (SetterGiven (refl, λ (two : 2 ≡ 1). (let f : ⊥ = cc in f), refl)))

  -- x: get();
  abbrev silent : Interface
  silent = i_of ptr alloc (FuncItem (func ptr alloc (x_id ptr alloc (at 31 32)) (at 34 37) form.Getter None) ∷ []) (lit< tt)

  silent_refused : IsBroken (file_of ptr alloc silent ∷ []) (fault 39 (at 34 37))
  silent_refused = in_scope ptr alloc silent (fault 39 (at 34 37)) (Function 0 _ refl (GetterWithoutResult (refl, refl, refl)))

  -- resource r { constructor() -> u8; }
  abbrev making : Written → Interface
  making t = i_of ptr alloc (TypeItem (resource_of ptr alloc (r_id ptr alloc (at 40 41)) (resource.Constructor (no_comments ptr alloc) (unstated ptr alloc) (at 44 55) (vec ptr alloc [] (lit< tt)) (Some t) ∷ []) (lit< tt)) ∷ []) (lit< tt)

  plain_refused : IsBroken (file_of ptr alloc (making (written.Primitive (at 61 63) primitive.U8)) ∷ []) (fault 41 (at 61 63))
  plain_refused = in_scope ptr alloc (making (written.Primitive (at 61 63) primitive.U8)) (fault 41 (at 61 63)) (Function 0 _ refl (ConstructorWithoutResult (r_id ptr alloc (at 40 41), refl, _, refl, refl, refl)))

  -- resource r { constructor() -> result; }
  abbrev empty : Written
  empty = written.Result (at 61 67) Neither

  empty_refused : IsBroken (file_of ptr alloc (making empty) ∷ []) (fault 42 (at 61 67))
  empty_refused = in_scope ptr alloc (making empty) (fault 42 (at 61 67)) (Function 0 _ refl (ConstructorOfOther (r_id ptr alloc (at 40 41), refl, _, refl, None, refl, λ u (some : None ≡ Some u) is. (let f : ⊥ = cc in f), refl)))

  -- type t = result<u8>; x: set(v: u8) -> t; x: get() -> u8;
  module _ where
    abbrev some_ok : Definition
    some_ok = record { docs = no_comments ptr alloc; attributes = unstated ptr alloc; name = t_id ptr alloc (at 36 37); body = Plain (written.Result (at 40 46) (Ok' (record { ptr = ptr; alloc = alloc; value = tt }) (written.Primitive (at 47 49) primitive.U8))) }

    abbrev called : Interface
    called = i_of ptr alloc (TypeItem some_ok ∷ FuncItem (func_of ptr alloc (x_id ptr alloc (at 52 53)) (at 55 58) form.Setter (v_u8 ptr alloc (at 59 60) (at 62 64)) (Some (written.Name (t_id ptr alloc (at 69 70))))) ∷ FuncItem (getter (at 72 73) (at 75 78) (at 84 86)) ∷ []) (lit< tt)

    called_refused : IsBroken (file_of ptr alloc called ∷ []) (fault 40 (at 69 70))
    called_refused = in_scope ptr alloc called (fault 40 (at 69 70)) (Function 0 _ refl (SetterWithResult (refl, _, refl, λ (same : Some (Some (written.Primitive (at 47 49) primitive.U8)) ≡ Some None). (let f : ⊥ = cc in f), refl)))

  -- type t = result; type f = t;
  abbrev words : List ScopeName
  words = Defined (record { docs = no_comments ptr alloc; attributes = unstated ptr alloc; name = t_id ptr alloc (at 36 37); body = Plain (written.Result (at 40 46) Neither) }) ∷ Defined (record { docs = no_comments ptr alloc; attributes = unstated ptr alloc; name = f_id ptr alloc (at 53 54); body = Plain (written.Name (t_id ptr alloc (at 57 58))) }) ∷ []

  -- t is a result, f is only another word for one
  t_is_result : result_ok words (written.Name (t_id ptr alloc (at 69 70))) ≡ Some None
  t_is_result = refl

  f_is_none : result_ok words (written.Name (f_id ptr alloc (at 77 78))) ≡ None
  f_is_none = refl

  -- package foo:foo; world w { resource r { constructor(); x: set(v: u8); } }
  module _ where
    abbrev w : WrittenWorld
    w = record { docs = no_comments ptr alloc; attributes = unstated ptr alloc; name = id ptr alloc (codes "w") (at 23 24) refl; items = vec ptr alloc (world_item.TypeDef (resource_of ptr alloc (r_id ptr alloc (at 36 37)) (resource.Constructor (no_comments ptr alloc) (unstated ptr alloc) (at 40 51) (vec ptr alloc [] (lit< tt)) None ∷ resource.Method (func_of ptr alloc (x_id ptr alloc (at 55 56)) (at 58 61) form.Setter (v_u8 ptr alloc (at 62 63) (at 65 67)) None) ∷ []) (lit< tt)) ∷ []) (lit< tt) }

    abbrev file : PackageFile
    file = record { package_id = Some (header ptr alloc); decl_list = record { items = vec ptr alloc (ast.World w ∷ []) (lit< tt) } }

    abbrev item : Item
    item = record { top = top_names file; declared = TheWorld w }

    abbrev ordered : Ordered
    ordered = record { item = item; order = 0 ∷ [] }

    -- its setter has no getter, and nothing is included with which one could come
    abbrev getter_of_x : List ℕ
    getter_of_x = codes "[method][get]r.x"

    no_getter : (k : ℕ) (g : SourceFunction) → slice_get (functions item) k ≡ Some g → g.name ≡ getter_of_x → ⊥
    no_getter zero g at same =
        let wrong : Some false ≡ Some true = ap (option_map (λ (h : SourceFunction). bytes_eq h.name getter_of_x)) at ∙ ap (λ (n : List ℕ). Some (bytes_eq n getter_of_x)) same in
        let f : ⊥ = cc in
        f
    no_getter (suc zero) g at same =
        let wrong : Some false ≡ Some true = ap (option_map (λ (h : SourceFunction). bytes_eq h.name getter_of_x)) at ∙ ap (λ (n : List ℕ). Some (bytes_eq n getter_of_x)) same in
        let f : ⊥ = cc in
        f
    no_getter (suc (suc k)) g at same = let f : ⊥ = cc in f

    alone : IsSetterAlone item (fault_in 18 (at 55 56) (codes "setter `[method][set]r.x` has no corresponding getter `[method][get]r.x`"))
    alone = (
      refl,
      Imported,
      (
        _,
        (1, lit< tt, refl),
        refl,
        λ g among same. (let it = at_contains (functions item) g among in no_getter it.0 g it.1 same),
        refl,
      ),
    )

    abbrev types : List TypeDef
    types = record { name = Some (codes "r"); kind = kind.Resource; owner = owner.World 0; docs = no_docs; stability = Unknown; span = at 36 37; external_id = None }
        ∷ record { name = None; kind = kind.Handle (Borrow 0); owner = owner.None; docs = no_docs; stability = Unknown; span = at 58 61; external_id = None } ∷ []

    abbrev made : List Made
    made = record { name = codes "[constructor]r"; kind = function_kind.Constructor 0; params = []; result = Some (type.Id 0); docs = no_docs; stability = Unknown; span = at 40 51; external_id = None }
        ∷ record { name = codes "[method][set]r.x"; kind = function_kind.MethodSetter 0; params = record { name = codes "self"; ty = type.Id 1; span = at 58 61 } ∷ record { name = codes "v"; ty = type.U8; span = at 62 63 } ∷ []; result = None; docs = no_docs; stability = Unknown; span = at 55 56; external_id = None } ∷ []

    names_of_functions : map (λ (g : SourceFunction). g.name) (functions item) ≡ map (λ (g : Made). g.name) made
    names_of_functions = refl

    -- its imports are its names as types, and then the functions
    abbrev whole : UnresolvedPackage
    whole = record {
      docs = no_docs;
      name = record { namespace = codes "foo"; name = codes "foo"; version = None };
      worlds = record { name = codes "w"; imports = type_imports (ordered_names ordered) ((codes "r", 0) ∷ []) ++ map function_item made; exports = []; «package» = None; docs = no_docs; stability = Unknown; includes = []; span = at 23 24 } ∷ [];
      interfaces = [];
      types = types;
      foreign_deps = [];
      name_span = at 8 15;
      unknown_type_spans = [];
      foreign_dep_spans = [];
      required_resource_types = [];
    }

    types_of_world : names_of whole (owner.World 0) ≡ ((codes "r", 0) ∷ [])
    types_of_world = refl

    functions_of_world : functions_of whole (owner.World 0) ≡ map (λ (g : Made). ((Imported, g.name), g)) made
    functions_of_world = refl

    trees : map (λ (x : Shape). source_tree (file ∷ []) 3 (WorldNamed (codes "w"), x)) (flat_map signature (functions item)) ≡ map (package_tree whole 3) (flat_map function_types made)
    trees = refl
