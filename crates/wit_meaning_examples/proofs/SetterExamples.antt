-- Setters of worlds, computed by the definitions: placed where nothing is included, and alone on their side.
use Rattle.std.proofs.Common.{◌≡◌, ℕ, zero, suc, true, false, List, [], ◌∷◌, map, Some, None, refl, ap, ◌∙◌, lit<}
use Rattle.wit_arena.proofs.Common.{Exported, Extern, Function, Global, Imported, Include, IsBroken, Item, NamedFunc, PackageFile, Setter, SourceFunction, TheWorld, Unknown, WorldItem, WorldKey, WorldSide, at_contains, bytes_eq, codes, fault_in, function_item, functions, no_docs, on_side, option_map, settled, slice_get, top_names}
use Rattle.wit_syntax.proofs.Common.{World as WrittenWorld}
use denote.RawPtr.{Ptr}
use Rattle.wit_tree.specs.declared.tree.ExternKind.TheVariants as extern
use Rattle.wit_type_tree.specs.declared.types.FuncForm.TheVariants as form
use Rattle.wit_tree.specs.declared.tree.AstItem.TheVariants as ast
use Rattle.wit_tree.specs.declared.tree.WorldItem.TheVariants as world_item
use Rattle.wit_type_tree.specs.declared.types.Primitive.TheVariants as primitive
use Rattle.wit_type_tree.specs.declared.types.«Type».TheVariants as written
use Rattle.wit_types.specs.declared.types.«Type».TheVariants as type
use Rattle.wit_functions.specs.declared.function.FunctionKind.TheVariants as kind
use Rattle.wit_meaning_examples.proofs.Examples.{at, id, vec, no_comments, unstated, header}
use Rattle.wit_meaning_examples.proofs.SignatureExamples.{x_id, func, func_of, v_u8}

-- import x: set(v: u8); import f: func(); import x: get() -> u8;
abbrev set_x : Function
set_x = record { name = codes "[set]x"; kind = kind.Setter; params = record { name = codes "v"; ty = type.U8; span = at 41 42 } ∷ []; result = None; docs = no_docs; stability = Unknown; span = at 34 35; external_id = None }

abbrev plain_f : Function
plain_f = record { name = codes "f"; kind = kind.Freestanding; params = []; result = None; docs = no_docs; stability = Unknown; span = at 56 57; external_id = None }

abbrev get_x : Function
get_x = record { name = codes "[get]x"; kind = kind.Getter; params = []; result = Some type.U8; docs = no_docs; stability = Unknown; span = at 74 75; external_id = None }

abbrev as_written : List (WorldKey × WorldItem)
as_written = map function_item (set_x ∷ plain_f ∷ get_x ∷ [])

-- where nothing is included, the setter comes after its getter; where a world is, it stays
placed_alone : settled [] as_written ≡ map function_item (plain_f ∷ get_x ∷ set_x ∷ [])
placed_alone = refl

left_with_include : (i : Include) → settled (i ∷ []) as_written ≡ as_written
left_with_include i = refl

module _ (ptr : Ptr) (alloc : Global) where
  abbrev across : WorldSide → NamedFunc → Extern
  across side f = record { side = side; docs = no_comments ptr alloc; attributes = unstated ptr alloc; kind = extern.Func f.name f.func }

  -- package foo:foo; world w { import x: get() -> u8; export x: set(v: u8); }
  abbrev w : WrittenWorld
  w = record { docs = no_comments ptr alloc; attributes = unstated ptr alloc; name = id ptr alloc (codes "w") (at 23 24) refl; items = vec ptr alloc (world_item.Extern (across Imported (func ptr alloc (x_id ptr alloc (at 34 35)) (at 37 40) form.Getter (Some (written.Primitive (at 46 48) primitive.U8)))) ∷ world_item.Extern (across Exported (func_of ptr alloc (x_id ptr alloc (at 57 58)) (at 60 63) form.Setter (v_u8 ptr alloc (at 64 65) (at 67 69)) None)) ∷ []) (lit< tt) }

  abbrev file : PackageFile
  file = record { package_id = Some (header ptr alloc); decl_list = record { items = vec ptr alloc (ast.World w ∷ []) (lit< tt) } }

  abbrev item : Item
  item = record { top = top_names file; declared = TheWorld w }

  -- the getter is imported, and none is exported
  no_getter : (k : ℕ) (g : SourceFunction) → slice_get (on_side Exported (functions item)) k ≡ Some g → g.name ≡ codes "[get]x" → ⊥
  no_getter zero g there same =
      let wrong : Some false ≡ Some true = ap (option_map (λ (h : SourceFunction). bytes_eq h.name (codes "[get]x"))) there ∙ ap (λ (n : List ℕ). Some (bytes_eq n (codes "[get]x"))) same in
      let f : ⊥ = cc in
      f
  no_getter (suc k) g there same = absurd (let f : ⊥ = cc in f)

  alone_refused : IsBroken (file ∷ []) (fault_in 18 (at 57 58) (codes "setter `[set]x` has no corresponding getter `[get]x`"))
  alone_refused = Setter item (0, lit< tt, refl) (
    refl,
    Exported,
    (
      _,
      (0, lit< tt, refl),
      refl,
      λ g among same. (let it = at_contains (on_side Exported (functions item)) g among in no_getter it.0 g it.1 same),
      refl,
    ),
  )
