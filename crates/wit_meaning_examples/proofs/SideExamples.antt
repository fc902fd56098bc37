-- Worked rows about functions that a world imports and exports.
use Rattle.std.proofs.Common.{◌≡◌, ℕ, zero, suc, List, [], ◌∷◌, map, Some, None, refl, sym, ap, ◌∙◌, subst, arith, lit<, Contains}
use Rattle.wit_arena.proofs.Common.{AllDiffer, Attribute, Body, BrokenMetadata, BrokenTypes, ConstructorOfOther, ConstructorWithoutResult, CrossedTwice, CyclicType, Defined, DefinedTwice, DuplicateParam, Exported, Extern, Fault, FoldedTwice, Func, Function as Made, GetterGiven, GetterWithoutResult, Global, Id, Imported, InterfaceMetadata, IsBroken, IsBrokenFunction, IsBrokenMetadata, IsBrokenScope, IsBrokenSides, IsCrossedTwice, IsFoldedTwice, IsOrder, Item, MissingInSignature, MissingType, PackageFile, Plain, SetterGiven, SetterWithResult, SideFunction, SideItem, Sides, SourceFunction, Span, TheWorld, Unknown, UnresolvedPackage, WorldSide, at_contains, called_key, codes, fault_in, flat_map, function_item, functions, functions_of, interface_attributes, items_on, no_crossed, no_docs, no_fold, role_names, scope_names, side_called, side_function, side_items, slice_get, top_names, unbroken_metadata}
use Rattle.wit_syntax.proofs.Common.{Function, World as WrittenWorld}
use Rattle.wit_syntax.specs.Broken.{Metadata}
use denote.RawPtr.{Ptr}
use Rattle.wit_type_tree.specs.declared.types.FuncForm.TheVariants as form
use Rattle.wit_type_tree.specs.declared.types.Primitive.TheVariants as primitive
use Rattle.wit_type_tree.specs.declared.types.«Type».TheVariants as written
use Rattle.wit_tree.specs.declared.tree.ExternKind.TheVariants as extern
use Rattle.wit_tree.specs.declared.tree.WorldItem.TheVariants as world_item
use Rattle.wit_tree.specs.declared.tree.AstItem.TheVariants as ast
use Rattle.wit_types.specs.declared.types.TypeOwner.TheVariants as owner
use Rattle.wit_functions.specs.declared.function.FunctionKind.TheVariants as function_kind
use Rattle.wit_meaning_examples.proofs.Examples.{at, id, vec, no_comments, unstated, header}
use Rattle.wit_meaning_examples.proofs.SignatureExamples.{one_order}
use Rattle.wit_arena.proofs.MadeOn.{made_on}

-- a scope without names has one order
pub no_rows : IsOrder [] []
no_rows = record {
  complete = λ i k id edge. absurd (let row = edge.1 in let f : ⊥ = cc in f);
  sorted = record {
    long = refl;
    within = λ i lt. absurd (let f : ⊥ = omega arith in f);
    each = λ p lt. absurd (let f : ⊥ = omega arith in f);
    once = λ i j lt small. absurd (let f : ⊥ = omega arith in f);
    after = λ i p lt leads. absurd (let f : ⊥ = omega arith in f);
  };
  least = λ other first i lt same. absurd (let f : ⊥ = omega arith in f);
}

pub one_differs : {X : Type 0} (x : X) → AllDiffer (x ∷ [])
one_differs x = record { differ = differ }
  where
    differ : (i j : ℕ) (y : _) → slice_get (x ∷ []) i ≡ Some y → slice_get (x ∷ []) j ≡ Some y → i ≡ j
    differ zero zero y at_i at_j = refl
    differ zero (suc j) y at_i at_j = absurd (let f : ⊥ = cc in f)
    differ (suc i) j y at_i at_j = absurd (let f : ⊥ = cc in f)

-- nothing is among none
pub none_among : {X : Type 0} (x : X) → Contains [] x → ⊥
none_among x h = let it = at_contains [] x h in let f : ⊥ = (let there = it.1 in cc) in f

-- what is the same has the same attributes
pub attributes_of : (x y : SideItem) → Some x ≡ Some y → interface_attributes x ≡ [] → interface_attributes y ≡ []
attributes_of x y same none =
    let one : x ≡ y = cc in
    ap interface_attributes (sym one) ∙ none

module _ (ptr : Ptr) (alloc : Global) where
  -- a function without parameters that a world imports or exports, where its name and `func` are
  abbrev plain_func : Span → Func
  plain_func word = record { span = word; form = form.Plain; params = vec ptr alloc [] (lit< tt); result = None }

  abbrev extern_part : WorldSide → Id → Span → Extern
  extern_part side name word = record { side = side; docs = no_comments ptr alloc; attributes = unstated ptr alloc; kind = extern.Func name (plain_func word) }

  abbrev f_at : Span → Id
  f_at span = id ptr alloc (codes "f") span refl

  -- package foo:foo; world w { import f: func(); .. }
  abbrev w : Extern → WrittenWorld
  w second = record { docs = no_comments ptr alloc; attributes = unstated ptr alloc; name = id ptr alloc (codes "w") (at 23 24) refl; items = vec ptr alloc (world_item.Extern (extern_part Imported (f_at (at 34 35)) (at 37 41)) ∷ world_item.Extern second ∷ []) (lit< tt) }

  abbrev file_of : WrittenWorld → PackageFile
  file_of world = record { package_id = Some (header ptr alloc); decl_list = record { items = vec ptr alloc (ast.World world ∷ []) (lit< tt) } }

  abbrev item_of : WrittenWorld → Item
  item_of world = record { top = top_names (file_of world); declared = TheWorld world }

  -- that function, as it is written
  abbrev plain : WorldSide → Span → Span → SourceFunction
  plain side name word = side_function side (no_comments ptr alloc) [] (f_at name) (plain_func word)

  -- import f: func(); import F: func();
  module _ where
    abbrev folding : WrittenWorld
    folding = w (extern_part Imported (id ptr alloc (codes "F") (at 52 53) refl) (at 55 59))

    one_key : map called_key (side_called Imported [] (items_on Imported (side_items (item_of folding))) []) ≡ (codes "f" ∷ codes "f" ∷ [])
    one_key = refl

    folding_refused : IsBroken (file_of folding ∷ []) (fault_in 17 (at 52 53) (codes "name `F` conflicts with previous name `f`"))
    folding_refused = Sides (item_of folding) (0, lit< tt, refl) (FoldedTwice (
      Imported,
      [],
      no_rows,
      (
        codes "name `F` conflicts with previous name `f`",
        (record { name = codes "F"; span = at 52 53; sort = codes "func" }, (0, 1, lit< tt, record { name = codes "f"; span = at 34 35; sort = codes "func" }, refl, refl, refl), refl),
      ),
    ))

  -- import f: func(); import f: func();
  module _ where
    abbrev repeating : WrittenWorld
    repeating = w (extern_part Imported (f_at (at 52 53)) (at 55 59))

    repeating_refused : IsBroken (file_of repeating ∷ []) (fault_in 44 (at 52 53) (codes "import `f` conflicts with prior func of same name"))
    repeating_refused = Sides (item_of repeating) (0, lit< tt, refl) (CrossedTwice (
      Imported,
      [],
      no_rows,
      1,
      SideFunction (plain Imported (at 52 53) (at 55 59)),
      refl,
      (Imported, f_at (at 52 53), form.Plain, refl),
      record { name = codes "f"; span = at 52 53; sort = codes "func" },
      refl,
      record { name = codes "f"; span = at 34 35; sort = codes "func" },
      (0, lit< tt, refl),
      refl,
      codes "import `f` conflicts with prior func of same name",
      refl,
    ))

  -- import f: func(); export f: func();
  module _ where
    abbrev passing : WrittenWorld
    passing = w (extern_part Exported (f_at (at 52 53)) (at 55 59))

    abbrev fns : List SourceFunction
    fns = functions (item_of passing)

    abbrev items : List SideItem
    items = side_items (item_of passing)

    free : flat_map (λ fn. role_names fn.role) (functions (item_of passing)) ≡ (codes "f" ∷ codes "f" ∷ [])
    free = refl

    -- one is on each side
    keys_of : (side : WorldSide) → AllDiffer (map called_key (side_called side [] (items_on side items) []))
    keys_of Imported = one_differs (codes "f")
    keys_of Exported = one_differs (codes "f")

    unstated_items : (k : ℕ) (x : SideItem) → slice_get items k ≡ Some x → interface_attributes x ≡ []
    unstated_items zero x there = attributes_of (SideFunction (plain Imported (at 34 35) (at 37 41))) x there refl
    unstated_items (suc zero) x there = attributes_of (SideFunction (plain Exported (at 52 53) (at 55 59))) x there refl
    unstated_items (suc (suc k)) x there = absurd (let f : ⊥ = cc in f)

    sides_pass : (f : Fault) → IsBrokenSides (item_of passing) f → ⊥
    sides_pass f (FoldedTwice h) = no_fold [] items [] f no_rows keys_of h
    sides_pass f (CrossedTwice h) = no_crossed [] items [] f no_rows keys_of h
    sides_pass f (InterfaceMetadata x among h) = (let it = at_contains items x among in unbroken_metadata f (subst (λ (l : List Attribute). IsBrokenMetadata l f) (unstated_items it.0 x it.1) h))

    -- a function without parameters and result breaks no rule of functions
    none_in : (side : WorldSide) (name word : Span) (k : ℕ) (f : Fault) → IsBrokenFunction [] fns k (plain side name word) f → ⊥
    none_in side name word k f (BrokenMetadata h) = unbroken_metadata f h
    none_in side name word k f (BrokenTypes h) = none_among h.0 h.1
    none_in side name word k f (MissingInSignature id among missing as_stated) = none_among id among
    none_in side name word k f (GetterGiven h) = let wrong = h.0 in let g : ⊥ = cc in g
    none_in side name word k f (SetterGiven h) = let wrong = h.0 in let g : ⊥ = cc in g
    none_in side name word k f (DuplicateParam h) = let wrong = h.1.4 in let g : ⊥ = cc in g
    none_in side name word k f (GetterWithoutResult h) = let wrong = h.0 in let g : ⊥ = cc in g
    none_in side name word k f (SetterWithResult h) = let wrong = h.0 in let g : ⊥ = cc in g
    none_in side name word k f (ConstructorWithoutResult h) = let wrong = h.1 in let g : ⊥ = cc in g
    none_in side name word k f (ConstructorOfOther h) = let wrong = h.1 in let g : ⊥ = cc in g

    none_at : (k : ℕ) (fn : SourceFunction) → slice_get fns k ≡ Some fn → (f : Fault) → IsBrokenFunction [] fns k fn f → ⊥
    none_at zero fn at_k f h = none_in Imported (at 34 35) (at 37 41) 0 f (subst (λ (x : SourceFunction). IsBrokenFunction [] fns 0 x f) (let same : fn ≡ plain Imported (at 34 35) (at 37 41) = cc in same) h)
    none_at (suc zero) fn at_k f h = none_in Exported (at 52 53) (at 55 59) 1 f (subst (λ (x : SourceFunction). IsBrokenFunction [] fns 1 x f) (let same : fn ≡ plain Exported (at 52 53) (at 55 59) = cc in same) h)
    none_at (suc (suc k)) fn at_k f h = absurd (let g : ⊥ = cc in g)

    -- the scope breaks no rule
    none_broken : (f : Fault) → IsBrokenScope (scope_names (item_of passing)) fns f → ⊥
    none_broken f (DefinedTwice h) = let wrong = h.1.4 in let g : ⊥ = cc in g
    none_broken f (MissingType h) = let wrong = h.3.1 in let g : ⊥ = cc in g
    none_broken f (CyclicType h) = let wrong = h.4.1 in let g : ⊥ = cc in g
    none_broken f (Metadata d among h) = none_among (Defined d) among
    none_broken f (Body d among h) = none_among (Defined d) among
    none_broken f (Function k fn at_k h) = none_at k fn at_k f h

    -- the functions of the package, by where they are written
    abbrev made : Span → Made
    made span = record { name = codes "f"; kind = function_kind.Freestanding; params = []; result = None; docs = no_docs; stability = Unknown; span = span; external_id = None }

    abbrev all_made : List Made
    all_made = made (at 34 35) ∷ made (at 52 53) ∷ []

    imported : made_on Imported fns all_made ≡ (made (at 34 35) ∷ [])
    imported = refl

    exported : made_on Exported fns all_made ≡ (made (at 52 53) ∷ [])
    exported = refl

    abbrev whole : UnresolvedPackage
    whole = record {
      docs = no_docs;
      name = record { namespace = codes "foo"; name = codes "foo"; version = None };
      worlds = record { name = codes "w"; imports = map function_item (made_on Imported fns all_made); exports = map function_item (made_on Exported fns all_made); «package» = None; docs = no_docs; stability = Unknown; includes = []; span = at 23 24 } ∷ [];
      interfaces = [];
      types = [];
      foreign_deps = [];
      name_span = at 8 15;
      unknown_type_spans = [];
      foreign_dep_spans = [];
      required_resource_types = [];
    }

    -- the world has both, and says them apart
    both : functions_of whole (owner.World 0) ≡ (((Imported, codes "f"), made (at 34 35)) ∷ ((Exported, codes "f"), made (at 52 53)) ∷ [])
    both = refl

  -- package foo:foo; world w { type f = u8; .. }
  module _ where
    abbrev pair_with : Extern → WrittenWorld
    pair_with second = record { docs = no_comments ptr alloc; attributes = unstated ptr alloc; name = id ptr alloc (codes "w") (at 23 24) refl; items = vec ptr alloc (world_item.TypeDef (record { docs = no_comments ptr alloc; attributes = unstated ptr alloc; name = f_at (at 32 33); body = Plain (written.Primitive (at 36 38) primitive.U8) }) ∷ world_item.Extern second ∷ []) (lit< tt) }

    -- import f: func();
    abbrev clashing : WrittenWorld
    clashing = pair_with (extern_part Imported (f_at (at 47 48)) (at 50 54))

    clashing_refused : IsBroken (file_of clashing ∷ []) (fault_in 44 (at 47 48) (codes "import `f` conflicts with prior type of same name"))
    clashing_refused = Sides (item_of clashing) (0, lit< tt, refl) (CrossedTwice (
      Imported,
      0 ∷ [],
      one_order (codes "f"),
      0,
      SideFunction (plain Imported (at 47 48) (at 50 54)),
      refl,
      (Imported, f_at (at 47 48), form.Plain, refl),
      record { name = codes "f"; span = at 47 48; sort = codes "func" },
      refl,
      record { name = codes "f"; span = at 32 33; sort = codes "type" },
      (0, lit< tt, refl),
      refl,
      codes "import `f` conflicts with prior type of same name",
      refl,
    ))

    -- export f: func();
    abbrev apart : WrittenWorld
    apart = pair_with (extern_part Exported (f_at (at 47 48)) (at 50 54))

    keys_apart : (side : WorldSide) → AllDiffer (map called_key (side_called side (scope_names (item_of apart)) (items_on side (side_items (item_of apart))) (0 ∷ [])))
    keys_apart Imported = one_differs (codes "f")
    keys_apart Exported = one_differs (codes "f")

    apart_folded : (f : Fault) → IsFoldedTwice (scope_names (item_of apart)) (side_items (item_of apart)) f → ⊥
    apart_folded f h = no_fold (scope_names (item_of apart)) (side_items (item_of apart)) (0 ∷ []) f (one_order (codes "f")) keys_apart h

    apart_crossed : (f : Fault) → IsCrossedTwice (scope_names (item_of apart)) (side_items (item_of apart)) f → ⊥
    apart_crossed f h = no_crossed (scope_names (item_of apart)) (side_items (item_of apart)) (0 ∷ []) f (one_order (codes "f")) keys_apart h
