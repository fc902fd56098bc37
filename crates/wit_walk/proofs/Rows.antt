-- Small files that break two rules, and the first fault of each, computed.
use Rattle.std.proofs.Common.{◌≡◌, ◌<◌, ◌^◌, ℕ, suc, true, List, [], ◌∷◌, length, Option, Some, None, refl, lit<, arith}
use Rattle.wit_syntax.proofs.Common.{AstItem, Attribute, Box, Func, FuncForm, Global, Id, Imported, PackageFile, Param, Row, Span, Tuple, TypeBody, Vec, codes, fault, fault_in, is_label, item_word, missing_at, missing_type_at, «Type» as Written}
use denote.RawPtr.{Ptr}
use Rattle.wit_type_tree.specs.declared.leaves.Docs.{Docs as Comments}
use Rattle.wit_type_tree.specs.declared.leaves.Attribute.TheVariants as attribute
use Rattle.wit_type_tree.specs.declared.types.FuncForm.TheVariants as form
use Rattle.wit_type_tree.specs.declared.types.Primitive.TheVariants as primitive
use Rattle.wit_type_tree.specs.declared.types.«Type».TheVariants as written
use Rattle.wit_type_tree.specs.declared.types.TypeBody.TheVariants as body
use Rattle.wit_type_tree.specs.declared.types.TypeDef.{TypeDef}
use Rattle.wit_tree.specs.declared.tree.AstItem.TheVariants as ast
use Rattle.wit_tree.specs.declared.tree.ExternKind.TheVariants as extern
use Rattle.wit_tree.specs.declared.tree.InterfaceItem.TheVariants as interface_item
use Rattle.wit_tree.specs.declared.tree.PackageName.{PackageName as Header}
use Rattle.wit_tree.specs.declared.tree.UsePath.TheVariants as path
use Rattle.wit_tree.specs.declared.tree.WorldItem.TheVariants as world_item
use Rattle.wit_walk.specs.Orders.{Outcome, InOrder, AtMissing}
use Rattle.wit_walk.specs.Walk.{first_fault}

abbrev at : ℕ → ℕ → Span
at from to = record { start = from; end = to }

-- a table in which nothing needs what comes after it has this order
abbrev places : ℕ → List Row → List ℕ
places n [] = []
places n (r ∷ rs) = n ∷ places (suc n) rs

abbrev in_source : List Row → Outcome
in_source rs = InOrder (places 0 rs)

-- a table of two in which this name is missing, beside tables of one
abbrev missing_in_two : Id → List Row → Outcome
missing_in_two id (r ∷ s ∷ rs) = AtMissing id
missing_in_two id rs = in_source rs

-- wherever texts, boxes and vectors lie
module _ (ptr : Ptr) (alloc : Global) where
  abbrev id : (name : List ℕ) → Span → is_label name ≡ true → Id
  id name span h = record { name = record { ref_ptr = (0, 0); now = name }; span = span; label = h }

  abbrev vec : {X : Type 0} (xs : List X) → length xs < 2 ^ 63 → Vec X Global
  vec xs h = record { ptr = ptr; len = length xs; cap = length xs; alloc = alloc; items = xs; ok = (refl, omega arith); small = h }

  abbrev no_comments : Comments
  no_comments = record { docs = vec [] (lit< tt); span = at 0 0 }

  abbrev unstated : Vec Attribute Global
  unstated = vec [] (lit< tt)

  abbrev box : Box (Unit {0}) Global
  box = record { ptr = ptr; alloc = alloc; value = tt }

  abbrev header : Header
  header = record { docs = no_comments; span = at 8 15; namespace = id (codes "foo") (at 8 11) refl; name = id (codes "foo") (at 12 15) refl; version = None }

  abbrev file_of : Option Header → Vec AstItem Global → PackageFile
  file_of h items = record { package_id = h; decl_list = record { items = items } }

  abbrev definition : Id → TypeBody → TypeDef
  definition name it = record { docs = no_comments; attributes = unstated; name = name; body = it }

  abbrev func : Span → FuncForm → Vec Param Global → Option Written → Func
  func span form params result = record { span = span; form = form; params = params; result = result }

  -- interface a {} interface a {}
  row_1 : first_fault (file_of None (vec (ast.Interface (record { docs = no_comments; attributes = unstated; name = (id (codes "a") (at 10 11) refl); items = (vec [] (lit< tt)) }) ∷ ast.Interface (record { docs = no_comments; attributes = unstated; name = (id (codes "a") (at 25 26) refl); items = (vec [] (lit< tt)) }) ∷ []) (lit< tt)) ∷ []) (record { outcome = in_source; steps = 2 }) ≡ Some (fault 4 (at 0 0))
  row_1 = refl

  -- package foo:foo; interface a {} interface a {}
  row_2 : first_fault (file_of (Some header) (vec (ast.Interface (record { docs = no_comments; attributes = unstated; name = (id (codes "a") (at 27 28) refl); items = (vec [] (lit< tt)) }) ∷ ast.Interface (record { docs = no_comments; attributes = unstated; name = (id (codes "a") (at 42 43) refl); items = (vec [] (lit< tt)) }) ∷ []) (lit< tt)) ∷ []) (record { outcome = in_source; steps = 2 }) ≡ Some (fault_in 5 (at 42 43) (codes "duplicate item named `a`"))
  row_2 = refl

  -- package foo:foo; use x; use x;
  row_3 : first_fault (file_of (Some header) (vec (ast.Use (record { span = (at 17 20); attributes = unstated; item = path.Id (id (codes "x") (at 21 22) refl); as_ = None }) ∷ ast.Use (record { span = (at 24 27); attributes = unstated; item = path.Id (id (codes "x") (at 28 29) refl); as_ = None }) ∷ []) (lit< tt)) ∷ []) (record { outcome = in_source; steps = 2 }) ≡ Some (fault_in 6 (at 28 29) (codes "duplicate name `x` in this file"))
  row_3 = refl

  -- package foo:foo; use k; interface i { use j.{t}; }
  row_4 : first_fault (file_of (Some header) (vec (ast.Use (record { span = (at 17 20); attributes = unstated; item = path.Id (id (codes "k") (at 21 22) refl); as_ = None }) ∷ ast.Interface (record { docs = no_comments; attributes = unstated; name = (id (codes "i") (at 34 35) refl); items = (vec (interface_item.Use (record { attributes = unstated; from = path.Id (id (codes "j") (at 42 43) refl); names = (vec (record { name = (id (codes "t") (at 45 46) refl); as_ = None } ∷ []) (lit< tt)) }) ∷ []) (lit< tt)) }) ∷ []) (lit< tt)) ∷ []) (record { outcome = in_source; steps = 2 }) ≡ Some (missing_at 7 item_word (id (codes "j") (at 42 43) refl))
  row_4 = refl

  -- package foo:foo; interface i { type t = u; type t = u8; }
  row_5 : first_fault (file_of (Some header) (vec (ast.Interface (record { docs = no_comments; attributes = unstated; name = (id (codes "i") (at 27 28) refl); items = (vec (interface_item.TypeDef (definition (id (codes "t") (at 36 37) refl) (body.Plain (written.Name (id (codes "u") (at 40 41) refl)))) ∷ interface_item.TypeDef (definition (id (codes "t") (at 48 49) refl) (body.Plain (written.Primitive (at 52 54) primitive.U8))) ∷ []) (lit< tt)) }) ∷ []) (lit< tt)) ∷ []) (record { outcome = in_source; steps = 2 }) ≡ Some (fault_in 14 (at 48 49) (codes "name `t` is defined more than once"))
  row_5 = refl

  -- package foo:foo; interface i { record r {} type t = u; }
  row_6 : first_fault (file_of (Some header) (vec (ast.Interface (record { docs = no_comments; attributes = unstated; name = (id (codes "i") (at 27 28) refl); items = (vec (interface_item.TypeDef (definition (id (codes "r") (at 38 39) refl) (body.Record (at 38 39) (vec [] (lit< tt)))) ∷ interface_item.TypeDef (definition (id (codes "t") (at 48 49) refl) (body.Plain (written.Name (id (codes "u") (at 52 53) refl)))) ∷ []) (lit< tt)) }) ∷ []) (lit< tt)) ∷ []) (record { outcome = (missing_in_two (id (codes "u") (at 52 53) refl)); steps = 2 }) ≡ Some (missing_type_at (id (codes "u") (at 52 53) refl))
  row_6 = refl

  -- package foo:foo; interface i { record r {} type t = tuple<>; }
  row_7 : first_fault (file_of (Some header) (vec (ast.Interface (record { docs = no_comments; attributes = unstated; name = (id (codes "i") (at 27 28) refl); items = (vec (interface_item.TypeDef (definition (id (codes "r") (at 38 39) refl) (body.Record (at 38 39) (vec [] (lit< tt)))) ∷ interface_item.TypeDef (definition (id (codes "t") (at 48 49) refl) (body.Plain (Tuple (at 52 57) (vec [] (lit< tt))))) ∷ []) (lit< tt)) }) ∷ []) (lit< tt)) ∷ []) (record { outcome = in_source; steps = 2 }) ≡ Some (fault 19 (at 38 39))
  row_7 = refl

  -- package foo:foo; interface i { type t = list<map<f32, u8>>; record r { a: u8, a: u8 } }
  row_8 : first_fault (file_of (Some header) (vec (ast.Interface (record { docs = no_comments; attributes = unstated; name = (id (codes "i") (at 27 28) refl); items = (vec (interface_item.TypeDef (definition (id (codes "t") (at 36 37) refl) (body.Plain (written.List' (at 40 44) box (written.Map' (at 45 48) box (written.Primitive (at 49 52) primitive.F32) box (written.Primitive (at 54 56) primitive.U8))))) ∷ interface_item.TypeDef (definition (id (codes "r") (at 67 68) refl) (body.Record (at 67 68) (vec (record { docs = no_comments; name = (id (codes "a") (at 71 72) refl); ty = (written.Primitive (at 74 76) primitive.U8) } ∷ record { docs = no_comments; name = (id (codes "a") (at 78 79) refl); ty = (written.Primitive (at 81 83) primitive.U8) } ∷ []) (lit< tt)))) ∷ []) (lit< tt)) }) ∷ []) (lit< tt)) ∷ []) (record { outcome = in_source; steps = 2 }) ≡ Some (fault 26 (at 45 48))
  row_8 = refl

  -- package foo:foo; interface i { x: get(a: y); }
  row_9 : first_fault (file_of (Some header) (vec (ast.Interface (record { docs = no_comments; attributes = unstated; name = (id (codes "i") (at 27 28) refl); items = (vec (interface_item.Func (record { docs = no_comments; attributes = unstated; name = (id (codes "x") (at 31 32) refl); func = (func (at 34 37) form.Getter (vec (record { name = (id (codes "a") (at 38 39) refl); ty = (written.Name (id (codes "y") (at 41 42) refl)) } ∷ []) (lit< tt)) None) }) ∷ []) (lit< tt)) }) ∷ []) (lit< tt)) ∷ []) (record { outcome = in_source; steps = 2 }) ≡ Some (fault 36 (at 38 39))
  row_9 = refl

  -- package foo:foo; interface i { f: func(a: u8, a: y); }
  row_10 : first_fault (file_of (Some header) (vec (ast.Interface (record { docs = no_comments; attributes = unstated; name = (id (codes "i") (at 27 28) refl); items = (vec (interface_item.Func (record { docs = no_comments; attributes = unstated; name = (id (codes "f") (at 31 32) refl); func = (func (at 34 38) form.Plain (vec (record { name = (id (codes "a") (at 39 40) refl); ty = (written.Primitive (at 42 44) primitive.U8) } ∷ record { name = (id (codes "a") (at 46 47) refl); ty = (written.Name (id (codes "y") (at 49 50) refl)) } ∷ []) (lit< tt)) None) }) ∷ []) (lit< tt)) }) ∷ []) (lit< tt)) ∷ []) (record { outcome = in_source; steps = 2 }) ≡ Some (fault_in 38 (at 46 47) (codes "param `a` is defined more than once"))
  row_10 = refl

  -- package foo:foo; interface i { x: set(a: u8) -> u8; }
  row_11 : first_fault (file_of (Some header) (vec (ast.Interface (record { docs = no_comments; attributes = unstated; name = (id (codes "i") (at 27 28) refl); items = (vec (interface_item.Func (record { docs = no_comments; attributes = unstated; name = (id (codes "x") (at 31 32) refl); func = (func (at 34 37) form.Setter (vec (record { name = (id (codes "a") (at 38 39) refl); ty = (written.Primitive (at 41 43) primitive.U8) } ∷ []) (lit< tt)) (Some (written.Primitive (at 48 50) primitive.U8))) }) ∷ []) (lit< tt)) }) ∷ []) (lit< tt)) ∷ []) (record { outcome = in_source; steps = 2 }) ≡ Some (fault 40 (at 48 50))
  row_11 = refl

  -- package foo:foo; world w { type t = tuple<>; } interface i { record r {} }
  row_12 : first_fault (file_of (Some header) (vec (ast.World (record { docs = no_comments; attributes = unstated; name = (id (codes "w") (at 23 24) refl); items = (vec (world_item.TypeDef (definition (id (codes "t") (at 32 33) refl) (body.Plain (Tuple (at 36 41) (vec [] (lit< tt))))) ∷ []) (lit< tt)) }) ∷ ast.Interface (record { docs = no_comments; attributes = unstated; name = (id (codes "i") (at 57 58) refl); items = (vec (interface_item.TypeDef (definition (id (codes "r") (at 68 69) refl) (body.Record (at 68 69) (vec [] (lit< tt)))) ∷ []) (lit< tt)) }) ∷ []) (lit< tt)) ∷ []) (record { outcome = in_source; steps = 2 }) ≡ Some (fault 19 (at 68 69))
  row_12 = refl

  -- package foo:foo; world w { import f: func(); import f: func(); }
  row_13 : first_fault (file_of (Some header) (vec (ast.World (record { docs = no_comments; attributes = unstated; name = (id (codes "w") (at 23 24) refl); items = (vec (world_item.Extern (record { side = Imported; docs = no_comments; attributes = unstated; kind = extern.Func (id (codes "f") (at 34 35) refl) (func (at 37 41) form.Plain (vec [] (lit< tt)) None) }) ∷ world_item.Extern (record { side = Imported; docs = no_comments; attributes = unstated; kind = extern.Func (id (codes "f") (at 52 53) refl) (func (at 55 59) form.Plain (vec [] (lit< tt)) None) }) ∷ []) (lit< tt)) }) ∷ []) (lit< tt)) ∷ []) (record { outcome = in_source; steps = 2 }) ≡ Some (fault_in 44 (at 52 53) (codes "import `f` conflicts with prior func of same name"))
  row_13 = refl

  -- package foo:foo; @unstable(feature = a) @unstable(feature = a) interface i { record r {} }
  row_14 : first_fault (file_of (Some header) (vec (ast.Interface (record { docs = no_comments; attributes = (vec (attribute.Unstable (at 17 39) (id (codes "a") (at 37 38) refl) ∷ attribute.Unstable (at 40 62) (id (codes "a") (at 60 61) refl) ∷ []) (lit< tt)); name = (id (codes "i") (at 73 74) refl); items = (vec (interface_item.TypeDef (definition (id (codes "r") (at 84 85) refl) (body.Record (at 84 85) (vec [] (lit< tt)))) ∷ []) (lit< tt)) }) ∷ []) (lit< tt)) ∷ []) (record { outcome = in_source; steps = 2 }) ≡ Some (fault 32 (at 40 62))
  row_14 = refl
