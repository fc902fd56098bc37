-- Worked rows about names of functions, their results, and the names in them.
use Rattle.std.proofs.Common.{◌≡◌, ℕ, ◌<◌, ◌≤◌, ◌^◌, zero, suc, Bool, true, false, List, [], ◌∷◌, length, map, Option, Some, None, refl, ap, ◌∙◌, arith, lit<, lit≤}
use Rattle.wit_arena.proofs.Common.{Box, Called, ConstructorOfOther, Def, DuplicateParam, Err', Fault, FoldedTwice, FuncForm, Function as Made, FunctionKind, Global, Id, Imported, InterfaceItem as Part, InterfaceNamed, IsBroken, IsBrokenScope, IsDependencyFirst, IsEdge, IsOrder, IsWrittenAs, Item, Leads, Missing, MissingInSignature, MissingName, MissingType, NamedFunc, Ok', PackageFile, Plain, Resource, ResourceFunc, ResultForm, Row, Scope, Setter, SetterWithResult, Shape, Sides, SourceFunction, Span, TheInterface, Unknown, Use, UseName, Whole, Word, all_scopes, at_contains, bytes_eq, called_key, codes, contains_at, fault, fault_in, flat_map, functions, items_on, no_docs, occurrences, one, placed_functions, result_ok, role_names, scope_names, shape_of, side_called, side_items, slice_get, slice_index, take, top_names, turned, «Type» as Written}
use Rattle.wit_syntax.proofs.Common.{Function, Interface, OfFunction, Param}
use denote.RawPtr.{Ptr}
use Rattle.wit_type_tree.specs.declared.types.Primitive.TheVariants as primitive
use Rattle.wit_type_tree.specs.declared.types.«Type».TheVariants as written
use Rattle.wit_type_tree.specs.declared.types.TypeDef.{TypeDef as Definition}
use Rattle.wit_type_tree.specs.declared.types.FuncForm.TheVariants as form
use Rattle.wit_type_tree.specs.declared.types.ResourceFunc.TheVariants as resource
use Rattle.wit_tree.specs.declared.tree.UsePath.TheVariants as path
use Rattle.wit_tree.specs.declared.tree.InterfaceItem.TheVariants.{TypeDef as TypeItem, Use as UseItem, Func as FuncItem}
use Rattle.wit_tree.specs.declared.tree.AstItem.TheVariants.{Interface as InterfaceItem}
use Rattle.wit_functions.specs.declared.function.FunctionKind.TheVariants as kind
use Rattle.wit_meaning_examples.proofs.Examples.{at, id, vec, no_comments, unstated, header}

-- a scope of one name that needs none has one order
abbrev pub alone : List ℕ → List Row
alone name = record { name = name; needs = [] } ∷ []

no_edge : (name : List ℕ) (i k : ℕ) (id : Id) → IsEdge (alone name) i k id → ⊥
no_edge name zero k id (row, at, there) =
    let same : record { name = name; needs = [] } ≡ row = cc in
    let none : slice_get [] k ≡ Some id = ap (λ (r : Row). slice_get r.needs k) same ∙ there in
    let f : ⊥ = cc in
    f
no_edge name (suc i) k id (row, at, there) = let f : ⊥ = cc in f

pub one_order : (name : List ℕ) → IsOrder (alone name) (0 ∷ [])
one_order name = record {
  complete = λ i k id edge. absurd (no_edge name i k id edge);
  sorted = record {
    long = refl;
    within = within;
    each = λ p lt. record { index = 0; below = omega arith; is = omega arith };
    once = λ i j lt small. absurd (let f : ⊥ = omega arith in f);
    after = λ i p lt leads. absurd (no_edge name _ leads.0 leads.1 leads.2);
  };
  least = least;
}
  where
    within : (i : ℕ) → i < 1 → slice_index (0 ∷ []) i < 1
    within zero h = omega arith
    within (suc i) h = absurd (omega arith)

    least : (other : List ℕ) → IsDependencyFirst (Leads (alone name)) 1 other → (i : ℕ) → i < 1 → take i other ≡ take i (0 ∷ []) → slice_index (0 ∷ []) i ≤ slice_index other i
    least other first zero lt same = omega arith
    least other first (suc i) lt same = absurd (omega arith)

-- a function of a package: here only its name and its kind matter
abbrev made : List ℕ → FunctionKind → Made
made name kind = record { name = name; kind = kind; params = []; result = None; docs = no_docs; stability = Unknown; span = at 0 0; external_id = None }

-- a setter that comes before its getter is put after it
placed : map (λ (f : List ℕ × Made). f.0) (placed_functions (made (codes "[set]x") kind.Setter ∷ made (codes "f") kind.Freestanding ∷ made (codes "[get]x") kind.Getter ∷ [])) ≡ (codes "f" ∷ codes "[get]x" ∷ codes "[set]x" ∷ [])
placed = refl

abbrev names : List SourceFunction → List (List ℕ)
names fns = map (λ (f : SourceFunction). f.name) fns

module _ (ptr : Ptr) (alloc : Global) where
  abbrev pub box : Box (Unit {0}) Global
  box = record { ptr = ptr; alloc = alloc; value = tt }

  -- package foo:foo; interface i { .. }
  abbrev pub i_of : (parts : List Part) → length parts < 2 ^ 63 → Interface
  i_of parts small = record { docs = no_comments ptr alloc; attributes = unstated ptr alloc; name = id ptr alloc (codes "i") (at 27 28) refl; items = vec ptr alloc parts small }

  abbrev pub file_of : Interface → PackageFile
  file_of i = record { package_id = Some (header ptr alloc); decl_list = record { items = vec ptr alloc (InterfaceItem i ∷ []) (lit< tt) } }

  abbrev pub item_of : Interface → Item
  item_of i = record { top = top_names (file_of i); declared = TheInterface i }

  -- what is broken in its scope is broken
  pub in_scope : (i : Interface) (f : Fault) → IsBrokenScope (scope_names (item_of i)) (functions (item_of i)) f → IsBroken (file_of i ∷ []) f
  in_scope i f broken = Scope (item_of i) (contains_at (all_scopes (file_of i ∷ [])) 0 (item_of i) refl) broken

  abbrev pub f_id : Span → Id
  f_id span = id ptr alloc (codes "f") span refl

  abbrev pub m_id : Span → Id
  m_id span = id ptr alloc (codes "m") span refl

  abbrev pub r_id : Span → Id
  r_id span = id ptr alloc (codes "r") span refl

  abbrev pub t_id : Span → Id
  t_id span = id ptr alloc (codes "t") span refl

  abbrev pub x_id : Span → Id
  x_id span = id ptr alloc (codes "x") span refl

  abbrev pub param : Id → Written → Param
  param name ty = record { name = name; ty = ty }

  -- a function with at most one parameter
  abbrev pub func : Id → Span → FuncForm → Option Written → NamedFunc
  func name span form result = record { docs = no_comments ptr alloc; attributes = unstated ptr alloc; name = name; func = record { span = span; form = form; params = vec ptr alloc [] (lit< tt); result = result } }

  abbrev pub func_of : Id → Span → FuncForm → Param → Option Written → NamedFunc
  func_of name span form given result = record { docs = no_comments ptr alloc; attributes = unstated ptr alloc; name = name; func = record { span = span; form = form; params = vec ptr alloc (given ∷ []) (lit< tt); result = result } }

  abbrev pub v_u8 : Span → Span → Param
  v_u8 name ty = param (id ptr alloc (codes "v") name refl) (written.Primitive ty primitive.U8)

  -- a resource with at most two functions
  abbrev pub resource_of : Id → (funcs : List ResourceFunc) → length funcs < 2 ^ 63 → Definition
  resource_of name funcs small = record { docs = no_comments ptr alloc; attributes = unstated ptr alloc; name = name; body = Resource (vec ptr alloc funcs small) }

  -- resource r { r: func(); }
  module _ where
    abbrev clash : Interface
    clash = i_of (TypeItem (resource_of (r_id (at 40 41)) (resource.Method (func (r_id (at 44 45)) (at 47 51) form.Plain None) ∷ []) (lit< tt)) ∷ []) (lit< tt)

    abbrev clashing : List Called
    clashing = side_called Imported (scope_names (item_of clash)) (items_on Imported (side_items (item_of clash))) (0 ∷ [])

    clashing_names : map (λ (c : Called). c.name) clashing ≡ (codes "r" ∷ codes "[method]r.r" ∷ [])
    clashing_names = refl

    one_key : map called_key clashing ≡ (codes "r" ∷ codes "r" ∷ [])
    one_key = refl

    clash_refused : IsBroken (file_of clash ∷ []) (fault_in 17 (at 44 45) (codes "name `[method]r.r` conflicts with previous name `r`"))
    clash_refused = Sides (item_of clash) (0, lit< tt, refl) (FoldedTwice (
      Imported,
      0 ∷ [],
      one_order (codes "r"),
      (
        codes "name `[method]r.r` conflicts with previous name `r`",
        (record { name = codes "[method]r.r"; span = at 44 45; sort = codes "func" }, (0, 1, lit< tt, record { name = codes "r"; span = at 40 41; sort = codes "type" }, refl, refl, refl), refl),
      ),
    ))

  -- resource r { constructor(); }
  abbrev maker : Interface
  maker = i_of (TypeItem (resource_of (r_id (at 40 41)) (resource.Constructor (no_comments ptr alloc) (unstated ptr alloc) (at 44 55) (vec ptr alloc [] (lit< tt)) None ∷ []) (lit< tt)) ∷ []) (lit< tt)

  two_keys : map called_key (side_called Imported (scope_names (item_of maker)) (items_on Imported (side_items (item_of maker))) (0 ∷ [])) ≡ (codes "r" ∷ codes "[constructor]r" ∷ [])
  two_keys = refl

  -- type x = u8; x: get() -> u8;
  abbrev getter_beside : Interface
  getter_beside = i_of (TypeItem (record { docs = no_comments ptr alloc; attributes = unstated ptr alloc; name = x_id (at 36 37); body = Plain (written.Primitive (at 40 42) primitive.U8) }) ∷ FuncItem (func (x_id (at 44 45)) (at 47 50) form.Getter (Some (written.Primitive (at 56 58) primitive.U8))) ∷ []) (lit< tt)

  keys_beside : map called_key (side_called Imported (scope_names (item_of getter_beside)) (items_on Imported (side_items (item_of getter_beside))) (0 ∷ [])) ≡ (codes "x" ∷ codes "[get]x" ∷ [])
  keys_beside = refl

  -- x: set(v: u8); f: func(); x: get() -> u8;
  abbrev setting : Interface
  setting = i_of (FuncItem (func_of (x_id (at 31 32)) (at 34 37) form.Setter (v_u8 (at 38 39) (at 41 43)) None) ∷ FuncItem (func (f_id (at 46 47)) (at 49 53) form.Plain None) ∷ FuncItem (func (x_id (at 57 58)) (at 60 63) form.Getter (Some (written.Primitive (at 69 71) primitive.U8))) ∷ []) (lit< tt)

  names_of_setting : names (functions (item_of setting)) ≡ (codes "[set]x" ∷ codes "f" ∷ codes "[get]x" ∷ [])
  names_of_setting = refl

  -- by their written names
  free_of_setting : flat_map (λ fn. role_names fn.role) (functions (item_of setting)) ≡ (codes "x" ∷ codes "f" ∷ codes "x" ∷ [])
  free_of_setting = refl

  -- resource r { x: get() -> u8; x: static set(v: u8); }
  module _ where
    abbrev unpaired : Interface
    unpaired = i_of (TypeItem (resource_of (r_id (at 40 41)) (resource.Method (func (x_id (at 44 45)) (at 47 50) form.Getter (Some (written.Primitive (at 56 58) primitive.U8))) ∷ resource.Static (func_of (x_id (at 60 61)) (at 70 73) form.Setter (v_u8 (at 74 75) (at 77 79)) None) ∷ []) (lit< tt)) ∷ []) (lit< tt)

    abbrev fns : List SourceFunction
    fns = functions (item_of unpaired)

    names_of_unpaired : names fns ≡ (codes "[method][get]r.x" ∷ codes "[static][set]r.x" ∷ [])
    names_of_unpaired = refl

    -- whether a function has the name of the getter
    abbrev is_its_getter : Option SourceFunction → Bool
    is_its_getter (Some g) = bytes_eq g.name (codes "[static][get]r.x")
    is_its_getter None = false

    no_getter : (k : ℕ) (g : SourceFunction) → slice_get fns k ≡ Some g → bytes_eq g.name (codes "[static][get]r.x") ≡ true → ⊥
    no_getter zero g there is = let wrong : false ≡ true = ap is_its_getter there ∙ is in let f : ⊥ = cc in f
    no_getter (suc zero) g there is = let wrong : false ≡ true = ap is_its_getter there ∙ is in let f : ⊥ = cc in f
    no_getter (suc (suc k)) g there is = let f : ⊥ = cc in f

    unpaired_refused : IsBroken (file_of unpaired ∷ []) (fault_in 18 (at 60 61) (codes "setter `[static][set]r.x` has no corresponding getter `[static][get]r.x`"))
    unpaired_refused = Setter (item_of unpaired) (0, lit< tt, refl) (
      refl,
      Imported,
      (
        _,
        (1, lit< tt, refl),
        refl,
        λ g among same. (let there = at_contains fns g among in no_getter there.0 g there.1 (ap (λ n. bytes_eq n (codes "[static][get]r.x")) same)),
        refl,
      ),
    )

  -- resource r { constructor() -> result<own<r>>; }
  module _ where
    abbrev owning : Written
    owning = written.Result (at 61 67) (Ok' box (written.Own (at 68 71) (r_id (at 72 73))))

    abbrev owned : Interface
    owned = i_of (TypeItem (resource_of (r_id (at 40 41)) (resource.Constructor (no_comments ptr alloc) (unstated ptr alloc) (at 44 55) (vec ptr alloc [] (lit< tt)) (Some owning) ∷ []) (lit< tt)) ∷ []) (lit< tt)

    -- the result comes after r, over it
    seen : occurrences (map turned (record { item = item_of owned; order = 0 ∷ [] } ∷ []))
        ≡ (record { key = Def (InterfaceNamed (codes "i")) (codes "r"); span = at 40 41; given = Unknown } ∷ record { key = Whole (ResultForm true false) (one (Use (InterfaceNamed (codes "i")) (codes "r"))); span = at 61 67; given = Unknown } ∷ [])
    seen = refl

    gives_r : result_ok (scope_names (item_of owned)) owning ≡ Some (Some (written.Own (at 68 71) (r_id (at 72 73))))
    gives_r = refl

    written_as_r : IsWrittenAs (r_id (at 40 41)) (written.Own (at 68 71) (r_id (at 72 73)))
    written_as_r = (r_id (at 72 73), refl, refl)

  -- resource r { constructor() -> result<a>; } type a = r;
  module _ where
    abbrev in_a : Id
    in_a = id ptr alloc (codes "a") (at 68 69) refl

    abbrev other : Interface
    other = i_of (TypeItem (resource_of (r_id (at 40 41)) (resource.Constructor (no_comments ptr alloc) (unstated ptr alloc) (at 44 55) (vec ptr alloc [] (lit< tt)) (Some (written.Result (at 61 67) (Ok' box (written.Name in_a)))) ∷ []) (lit< tt)) ∷ TypeItem (record { docs = no_comments ptr alloc; attributes = unstated ptr alloc; name = id ptr alloc (codes "a") (at 79 80) refl; body = Plain (written.Name (r_id (at 83 84))) }) ∷ []) (lit< tt)

    -- whether a type is written with the name r
    abbrev is_word_r : Shape → Bool
    is_word_r (Word name) = bytes_eq name.name.now (codes "r")
    is_word_r _ = false

    not_r : (u : Written) → Some (written.Name in_a) ≡ Some u → IsWrittenAs (r_id (at 40 41)) u → ⊥
    not_r u here is =
        let same : written.Name in_a ≡ u = cc in
        let wrong : false ≡ true = ap (λ (t : Written). is_word_r (shape_of t)) same ∙ ap is_word_r is.1 ∙ ap (λ n. bytes_eq n (codes "r")) is.2 in
        let f : ⊥ = cc in
        f

    other_refused : IsBroken (file_of other ∷ []) (fault 42 (at 68 69))
    other_refused = in_scope other (fault 42 (at 68 69)) (Function 0 _ refl (ConstructorOfOther (r_id (at 40 41), refl, _, refl, Some (written.Name in_a), refl, not_r, refl)))

  -- f: func(x: f);
  abbrev itself : Interface
  itself = i_of (FuncItem (func_of (f_id (at 31 32)) (at 34 38) form.Plain (param (x_id (at 39 40)) (written.Name (f_id (at 42 43)))) None) ∷ []) (lit< tt)

  itself_refused : IsBroken (file_of itself ∷ []) (fault_in 28 (at 42 43) (codes "cannot use function `f` as a type"))
  itself_refused = in_scope itself _ (Function 0 _ refl (MissingInSignature (f_id (at 42 43)) (0, lit< tt, refl) refl
      (OfFunction (0, lit≤ tt, _, refl, f_id (at 31 32), form.Plain, refl, refl) refl)))

  -- type t = f; f: func();
  abbrev after_name : Interface
  after_name = i_of (TypeItem (record { docs = no_comments ptr alloc; attributes = unstated ptr alloc; name = t_id (at 36 37); body = Plain (written.Name (f_id (at 40 41))) }) ∷ FuncItem (func (f_id (at 43 44)) (at 46 50) form.Plain None) ∷ []) (lit< tt)

  after_name_refused : IsBroken (file_of after_name ∷ []) (record { rule = 15; span = at 40 41; says = Missing (codes "f") (codes "type") None })
  after_name_refused = in_scope after_name _ (MissingType (0, 0, f_id (at 40 41), (record { name = codes "t"; needs = f_id (at 40 41) ∷ [] }, refl, refl), refl, refl))

  -- resource r { m: func(self: u8); }
  abbrev two_selves : Interface
  two_selves = i_of (TypeItem (resource_of (r_id (at 40 41)) (resource.Method (func_of (m_id (at 44 45)) (at 47 51) form.Plain (param (id ptr alloc (codes "self") (at 52 56) refl) (written.Primitive (at 58 60) primitive.U8)) None) ∷ []) (lit< tt)) ∷ []) (lit< tt)

  two_selves_refused : IsBroken (file_of two_selves ∷ []) (fault_in 38 (at 52 56) (codes "param `self` is defined more than once"))
  two_selves_refused = in_scope two_selves _ (Function 0 _ refl (DuplicateParam (_, (0, 1, lit< tt, _, refl, refl, refl), refl)))

  -- x: set(v: u8) -> result<_, u8>; x: get() -> u8;
  module _ where
    abbrev no_ok : Written
    no_ok = written.Result (at 48 54) (Err' box (written.Primitive (at 58 60) primitive.U8))

    abbrev some_ok : Written
    some_ok = written.Result (at 48 54) (Ok' box (written.Primitive (at 55 57) primitive.U8))

    -- where the second x, `get` and its u8 are
    abbrev setter : Written → Span → Span → Span → Interface
    setter t name word ty = i_of (FuncItem (func_of (x_id (at 31 32)) (at 34 37) form.Setter (v_u8 (at 38 39) (at 41 43)) (Some t)) ∷ FuncItem (func (x_id name) word form.Getter (Some (written.Primitive ty primitive.U8))) ∷ []) (lit< tt)

    abbrev accepting : Interface
    accepting = setter no_ok (at 63 64) (at 66 69) (at 75 77)

    abbrev refusing : Interface
    refusing = setter some_ok (at 60 61) (at 63 66) (at 72 74)

    accepted : result_ok (scope_names (item_of accepting)) no_ok ≡ Some None
    accepted = refl

    -- x: set(v: u8) -> result<u8>; x: get() -> u8;
    setter_refused : IsBroken (file_of refusing ∷ []) (fault 40 (at 48 54))
    setter_refused = in_scope refusing (fault 40 (at 48 54)) (Function 0 _ refl (SetterWithResult (refl, some_ok, refl, λ (same : Some (Some (written.Primitive (at 55 57) primitive.U8)) ≡ Some None). (let f : ⊥ = cc in f), refl)))

  -- package foo:foo; interface a { f: func(); } interface b { use a.{f}; }
  module _ where
    abbrev a : Interface
    a = record { docs = no_comments ptr alloc; attributes = unstated ptr alloc; name = id ptr alloc (codes "a") (at 27 28) refl; items = vec ptr alloc (FuncItem (func (f_id (at 31 32)) (at 34 38) form.Plain None) ∷ []) (lit< tt) }

    abbrev used_f : UseName
    used_f = record { name = f_id (at 65 66); as_ = None }

    abbrev b : Interface
    b = record { docs = no_comments ptr alloc; attributes = unstated ptr alloc; name = id ptr alloc (codes "b") (at 54 55) refl; items = vec ptr alloc (UseItem (record { attributes = unstated ptr alloc; from = path.Id (id ptr alloc (codes "a") (at 62 63) refl); names = vec ptr alloc (used_f ∷ []) (lit< tt) }) ∷ []) (lit< tt) }

    abbrev both : PackageFile
    both = record { package_id = Some (header ptr alloc); decl_list = record { items = vec ptr alloc (InterfaceItem a ∷ InterfaceItem b ∷ []) (lit< tt) } }

    abbrev item_in_both : Interface → Item
    item_in_both i = record { top = top_names both; declared = TheInterface i }

    used_refused : IsBroken (both ∷ []) (fault_in 13 (at 65 66) (codes "cannot import function `f`"))
    used_refused = MissingName (item_in_both b) (1, lit< tt, refl) (InterfaceNamed (codes "a")) [] used_f (0, lit< tt, refl) (item_in_both a) refl refl refl (OfFunction (0, lit< tt, refl) refl)
