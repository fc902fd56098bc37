-- Texts that break a rule, each with the line that is printed of it.
use Rattle.std.proofs.Common.{◌≡◌, ℕ, true, List, [], ◌∷◌, None, Some, refl, lit<, lit≤}
use Rattle.std.specs.Fmt.{digits}
use Rattle.wit_walk.proofs.Common.{AstItem}
use Rattle.wit_arena.proofs.Common.{Global, Id, Imported, InterfaceItem, Plain, Record, Resource, SourceFile, Span, TypeBody, Vec, codes, fault_in, function_as_type, is_label, name_twice, param_twice}
use denote.RawPtr.{Ptr}
use Rattle.wit_type_tree.specs.declared.types.FuncForm.TheVariants as form
use Rattle.wit_type_tree.specs.declared.types.Primitive.TheVariants as primitive
use Rattle.wit_type_tree.specs.declared.types.ResourceFunc.TheVariants as resource
use Rattle.wit_type_tree.specs.declared.types.TypeDef.{TypeDef as Definition}
use Rattle.wit_type_tree.specs.declared.types.«Type».TheVariants as written
use Rattle.wit_tree.specs.declared.tree.AstItem.TheVariants as ast
use Rattle.wit_tree.specs.declared.tree.ExternKind.TheVariants as extern
use Rattle.wit_tree.specs.declared.tree.InterfaceItem.TheVariants.{Func as FuncItem, TypeDef as TypeItem, Use as UseItem}
use Rattle.wit_tree.specs.declared.tree.UsePath.TheVariants as path
use Rattle.wit_tree.specs.declared.tree.WorldItem.TheVariants as world_item
use Rattle.wit_lex.specs.declared.source.Source.{Source}
use Rattle.wit_grammar.proofs.Opened.{all_rules, reading}
use Rattle.wit_tool.specs.Output.{IsOutput, OfSources}
use Rattle.wit_meaning_examples.proofs.Examples.{at, header, id, no_comments, unstated, vec}
use Rattle.wit_output_rows.proofs.Lines.{located, refused}
use Rattle.wit_output_rows.proofs.Values.{source}

-- wherever texts and vectors lie
module _ (ptr : Ptr) (alloc : Global) where
  abbrev name_at : (name : List ℕ) → Span → is_label name ≡ true → Id
  name_at name span label = id ptr alloc name span label

  abbrev definition : Id → TypeBody → Definition
  definition name body = record { docs = no_comments ptr alloc; attributes = unstated ptr alloc; name = name; body = body }

  abbrev interface : Id → Vec InterfaceItem Global → AstItem
  interface name items = ast.Interface (record { docs = no_comments ptr alloc; attributes = unstated ptr alloc; name = name; items = items })

  -- items after package foo:foo;
  abbrev file_of : Vec AstItem Global → SourceFile
  file_of items = record { file = record { package_id = Some (header ptr alloc); decl_list = record { items = items } }; nested = vec ptr alloc [] (lit< tt) }

  -- a definition beside a use
  abbrev twice_text : List ℕ
  twice_text = codes "package foo:foo; interface i { type t = u8; use x.{t}; } interface x { type t = u8; }"

  abbrev twice_source : Source
  twice_source = source ptr alloc (codes "stdin.wit") twice_text 0 refl refl (lit< tt) (lit< tt) (lit< tt)

  abbrev twice_tree : SourceFile
  twice_tree = file_of (vec ptr alloc ((interface (name_at (codes "i") (at 27 28) refl) (vec ptr alloc (TypeItem (definition (name_at (codes "t") (at 36 37) refl) (Plain (written.Primitive (at 40 42) primitive.U8))) ∷ UseItem (record { attributes = unstated ptr alloc; from = path.Id (name_at (codes "x") (at 48 49) refl); names = (vec ptr alloc (record { name = (name_at (codes "t") (at 51 52) refl); as_ = None } ∷ []) (lit< tt)) }) ∷ []) (lit< tt))) ∷ (interface (name_at (codes "x") (at 67 68) refl) (vec ptr alloc (TypeItem (definition (name_at (codes "t") (at 76 77) refl) (Plain (written.Primitive (at 80 82) primitive.U8))) ∷ []) (lit< tt))) ∷ []) (lit< tt))

  pub twice_output : IsOutput twice_text 1 (codes "error E14 stdin.wit \"t\": name `t` is defined more than once\n")
  unfolding digits all_rules reading
  twice_output = OfSources (lit≤ tt) (twice_source ∷ []) (record { are = refl }) (refused twice_source twice_tree (name_twice (name_at (codes "t") (at 36 37) refl)) (codes "t") (codes "error E14 stdin.wit \"t\": name `t` is defined more than once\n") (record { source = twice_text; offset = 0; place = 85 }, refl) refl (λ steps. refl) refl (located twice_source (at 36 37) refl (lit≤ tt) (lit≤ tt) (lit≤ tt) refl) refl)

  -- a method that is named as its resource
  abbrev method_text : List ℕ
  method_text = codes "package foo:foo; interface i { resource r { r: func(); } }"

  abbrev method_source : Source
  method_source = source ptr alloc (codes "stdin.wit") method_text 0 refl refl (lit< tt) (lit< tt) (lit< tt)

  abbrev method_tree : SourceFile
  method_tree = file_of (vec ptr alloc ((interface (name_at (codes "i") (at 27 28) refl) (vec ptr alloc (TypeItem (definition (name_at (codes "r") (at 40 41) refl) (Resource (vec ptr alloc (resource.Method (record { docs = no_comments ptr alloc; attributes = unstated ptr alloc; name = (name_at (codes "r") (at 44 45) refl); func = (record { span = (at 47 51); form = form.Plain; params = (vec ptr alloc ([]) (lit< tt)); result = None }) }) ∷ []) (lit< tt)))) ∷ []) (lit< tt))) ∷ []) (lit< tt))

  pub method_output : IsOutput method_text 1 (codes "error E17 stdin.wit \"r\": name `[method]r.r` conflicts with previous name `r`\n")
  unfolding digits all_rules reading
  method_output = OfSources (lit≤ tt) (method_source ∷ []) (record { are = refl }) (refused method_source method_tree (fault_in 17 (at 44 45) (codes "name `[method]r.r` conflicts with previous name `r`")) (codes "r") (codes "error E17 stdin.wit \"r\": name `[method]r.r` conflicts with previous name `r`\n") (record { source = method_text; offset = 0; place = 58 }, refl) refl (λ steps. refl) refl (located method_source (at 44 45) refl (lit≤ tt) (lit≤ tt) (lit≤ tt) refl) refl)

  -- fields of one folded name
  abbrev same_field_text : List ℕ
  same_field_text = codes "package foo:foo; interface i { record p { a: u8, A: u8 } }"

  abbrev same_field_source : Source
  same_field_source = source ptr alloc (codes "stdin.wit") same_field_text 0 refl refl (lit< tt) (lit< tt) (lit< tt)

  abbrev same_field_tree : SourceFile
  same_field_tree = file_of (vec ptr alloc ((interface (name_at (codes "i") (at 27 28) refl) (vec ptr alloc (TypeItem (definition (name_at (codes "p") (at 38 39) refl) (Record (at 38 39) (vec ptr alloc (record { docs = no_comments ptr alloc; name = (name_at (codes "a") (at 42 43) refl); ty = (written.Primitive (at 45 47) primitive.U8) } ∷ record { docs = no_comments ptr alloc; name = (name_at (codes "A") (at 49 50) refl); ty = (written.Primitive (at 52 54) primitive.U8) } ∷ []) (lit< tt)))) ∷ []) (lit< tt))) ∷ []) (lit< tt))

  pub same_field_output : IsOutput same_field_text 1 (codes "error E25 stdin.wit \"A\": field `A` conflicts with previous field `a`\n")
  unfolding digits all_rules reading
  same_field_output = OfSources (lit≤ tt) (same_field_source ∷ []) (record { are = refl }) (refused same_field_source same_field_tree (fault_in 25 (at 49 50) (codes "field `A` conflicts with previous field `a`")) (codes "A") (codes "error E25 stdin.wit \"A\": field `A` conflicts with previous field `a`\n") (record { source = same_field_text; offset = 0; place = 58 }, refl) refl (λ steps. refl) refl (located same_field_source (at 49 50) refl (lit≤ tt) (lit≤ tt) (lit≤ tt) refl) refl)

  -- a function as a type
  abbrev used_function_text : List ℕ
  used_function_text = codes "package foo:foo; interface i { f: func(x: f); }"

  abbrev used_function_source : Source
  used_function_source = source ptr alloc (codes "stdin.wit") used_function_text 0 refl refl (lit< tt) (lit< tt) (lit< tt)

  abbrev used_function_tree : SourceFile
  used_function_tree = file_of (vec ptr alloc ((interface (name_at (codes "i") (at 27 28) refl) (vec ptr alloc (FuncItem (record { docs = no_comments ptr alloc; attributes = unstated ptr alloc; name = (name_at (codes "f") (at 31 32) refl); func = (record { span = (at 34 38); form = form.Plain; params = (vec ptr alloc (record { name = (name_at (codes "x") (at 39 40) refl); ty = written.Name (name_at (codes "f") (at 42 43) refl) } ∷ []) (lit< tt)); result = None }) }) ∷ []) (lit< tt))) ∷ []) (lit< tt))

  pub used_function_output : IsOutput used_function_text 1 (codes "error E28 stdin.wit \"f\": cannot use function `f` as a type\n")
  unfolding digits all_rules reading
  used_function_output = OfSources (lit≤ tt) (used_function_source ∷ []) (record { are = refl }) (refused used_function_source used_function_tree (function_as_type (name_at (codes "f") (at 42 43) refl)) (codes "f") (codes "error E28 stdin.wit \"f\": cannot use function `f` as a type\n") (record { source = used_function_text; offset = 0; place = 47 }, refl) refl (λ steps. refl) refl (located used_function_source (at 42 43) refl (lit≤ tt) (lit≤ tt) (lit≤ tt) refl) refl)

  -- a parameter named self
  abbrev self_text : List ℕ
  self_text = codes "package foo:foo; interface i { resource r { m: func(self: u8); } }"

  abbrev self_source : Source
  self_source = source ptr alloc (codes "stdin.wit") self_text 0 refl refl (lit< tt) (lit< tt) (lit< tt)

  abbrev self_tree : SourceFile
  self_tree = file_of (vec ptr alloc ((interface (name_at (codes "i") (at 27 28) refl) (vec ptr alloc (TypeItem (definition (name_at (codes "r") (at 40 41) refl) (Resource (vec ptr alloc (resource.Method (record { docs = no_comments ptr alloc; attributes = unstated ptr alloc; name = (name_at (codes "m") (at 44 45) refl); func = (record { span = (at 47 51); form = form.Plain; params = (vec ptr alloc (record { name = (name_at (codes "self") (at 52 56) refl); ty = (written.Primitive (at 58 60) primitive.U8) } ∷ []) (lit< tt)); result = None }) }) ∷ []) (lit< tt)))) ∷ []) (lit< tt))) ∷ []) (lit< tt))

  pub self_output : IsOutput self_text 1 (codes "error E38 stdin.wit \"self\": param `self` is defined more than once\n")
  unfolding digits all_rules reading
  self_output = OfSources (lit≤ tt) (self_source ∷ []) (record { are = refl }) (refused self_source self_tree (param_twice (codes "self") (at 52 56)) (codes "self") (codes "error E38 stdin.wit \"self\": param `self` is defined more than once\n") (record { source = self_text; offset = 0; place = 66 }, refl) refl (λ steps. refl) refl (located self_source (at 52 56) refl (lit≤ tt) (lit≤ tt) (lit≤ tt) refl) refl)

  -- one import twice
  abbrev crossed_text : List ℕ
  crossed_text = codes "package foo:foo; world w { import f: func(); import f: func(); }"

  abbrev crossed_source : Source
  crossed_source = source ptr alloc (codes "stdin.wit") crossed_text 0 refl refl (lit< tt) (lit< tt) (lit< tt)

  abbrev crossed_tree : SourceFile
  crossed_tree = file_of (vec ptr alloc ((ast.World (record { docs = no_comments ptr alloc; attributes = unstated ptr alloc; name = (name_at (codes "w") (at 23 24) refl); items = (vec ptr alloc (world_item.Extern (record { side = Imported; docs = no_comments ptr alloc; attributes = unstated ptr alloc; kind = extern.Func (name_at (codes "f") (at 34 35) refl) (record { span = (at 37 41); form = form.Plain; params = (vec ptr alloc ([]) (lit< tt)); result = None }) }) ∷ world_item.Extern (record { side = Imported; docs = no_comments ptr alloc; attributes = unstated ptr alloc; kind = extern.Func (name_at (codes "f") (at 52 53) refl) (record { span = (at 55 59); form = form.Plain; params = (vec ptr alloc ([]) (lit< tt)); result = None }) }) ∷ []) (lit< tt)) })) ∷ []) (lit< tt))

  pub crossed_output : IsOutput crossed_text 1 (codes "error E44 stdin.wit \"f\": import `f` conflicts with prior func of same name\n")
  unfolding digits all_rules reading
  crossed_output = OfSources (lit≤ tt) (crossed_source ∷ []) (record { are = refl }) (refused crossed_source crossed_tree (fault_in 44 (at 52 53) (codes "import `f` conflicts with prior func of same name")) (codes "f") (codes "error E44 stdin.wit \"f\": import `f` conflicts with prior func of same name\n") (record { source = crossed_text; offset = 0; place = 64 }, refl) refl (λ steps. refl) refl (located crossed_source (at 52 53) refl (lit≤ tt) (lit≤ tt) (lit≤ tt) refl) refl)
