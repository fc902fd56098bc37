-- A world with two interfaces that are written in it, computed by the definitions.
use Rattle.std.proofs.Common.{◌≡◌, ℕ, List, [], ◌∷◌, map, Some, None, refl, lit<}
use Rattle.wit_arena.proofs.Common.{Address, AliasForm, AreSideItems, Defined, Exported, Extern, ExternKind, Func, Function, Global, Head, Id, Imported, InlineAt, Interface, InterfaceItem, InterfaceNamed, Item, Leaf, Named, PackageFile, Plain, Span, TheInline, TheWorld, TypeDef, TypeOwner, Unknown, UnresolvedPackage, UseName, Used, Word, WorldItem, WorldKey, WorldSide, address, codes, function_item, inline_entry, inline_items, item_rows, names_of, no_docs, owner_of, package_tree, scope_names, side_items, source_tree, top_names, uses, «Type» as Written}
use Rattle.wit_syntax.proofs.Common.{Interface as WrittenInterface, Use, World as WrittenWorld}
use denote.RawPtr.{Ptr}
use Rattle.wit_tree.specs.declared.tree.ExternKind.TheVariants as extern
use Rattle.wit_type_tree.specs.declared.types.FuncForm.TheVariants as form
use Rattle.wit_type_tree.specs.declared.types.Primitive.TheVariants as primitive
use Rattle.wit_type_tree.specs.declared.types.«Type».TheVariants as written
use Rattle.wit_type_tree.specs.declared.types.TypeDef.{TypeDef as Definition}
use Rattle.wit_tree.specs.declared.tree.UsePath.TheVariants as path
use Rattle.wit_tree.specs.declared.tree.InterfaceItem.TheVariants as interface_item
use Rattle.wit_tree.specs.declared.tree.WorldItem.TheVariants as world_item
use Rattle.wit_tree.specs.declared.tree.AstItem.TheVariants as ast
use Rattle.wit_types.specs.declared.types.«Type».{«Type» as Ty}
use Rattle.wit_types.specs.declared.types.«Type».TheVariants as type
use Rattle.wit_types.specs.declared.types.TypeDefKind.TheVariants as kind
use Rattle.wit_types.specs.declared.types.TypeOwner.TheVariants as owner
use Rattle.wit_functions.specs.declared.function.FunctionKind.TheVariants as function_kind
use Rattle.wit_meaning_examples.proofs.Examples.{at, id, vec, no_comments, unstated, header}

-- package foo:foo; interface i { type t = u8; }
-- world w { import f: func(); import a: interface { use i.{t}; type s = t; } export a: interface {} }
module _ (ptr : Ptr) (alloc : Global) where
  abbrev definition : Id → Written → Definition
  definition name ty = record { docs = no_comments ptr alloc; attributes = unstated ptr alloc; name = name; body = Plain ty }

  abbrev i : WrittenInterface
  i = record { docs = no_comments ptr alloc; attributes = unstated ptr alloc; name = id ptr alloc (codes "i") (at 27 28) refl; items = vec ptr alloc (interface_item.TypeDef (definition (id ptr alloc (codes "t") (at 36 37) refl) (written.Primitive (at 40 42) primitive.U8)) ∷ []) (lit< tt) }

  abbrev extern_of : WorldSide → ExternKind → Extern
  extern_of side kind = record { side = side; docs = no_comments ptr alloc; attributes = unstated ptr alloc; kind = kind }

  abbrev no_params : Func
  no_params = record { span = at 66 70; form = form.Plain; params = vec ptr alloc [] (lit< tt); result = None }

  abbrev used_t : UseName
  used_t = record { name = id ptr alloc (codes "t") (at 103 104) refl; as_ = None }

  abbrev use_i : Use
  use_i = record { attributes = unstated ptr alloc; from = path.Id (id ptr alloc (codes "i") (at 100 101) refl); names = vec ptr alloc (used_t ∷ []) (lit< tt) }

  abbrev s : Definition
  s = definition (id ptr alloc (codes "s") (at 112 113) refl) (written.Name (id ptr alloc (codes "t") (at 116 117) refl))

  abbrev items : List InterfaceItem
  items = interface_item.Use use_i ∷ interface_item.TypeDef s ∷ []

  abbrev in_name : Id
  in_name = id ptr alloc (codes "a") (at 81 82) refl

  abbrev out_name : Id
  out_name = id ptr alloc (codes "a") (at 128 129) refl

  abbrev in_a : Extern
  in_a = extern_of Imported (extern.Interface in_name (vec ptr alloc items (lit< tt)))

  abbrev out_a : Extern
  out_a = extern_of Exported (extern.Interface out_name (vec ptr alloc [] (lit< tt)))

  abbrev w : WrittenWorld
  w = record { docs = no_comments ptr alloc; attributes = unstated ptr alloc; name = id ptr alloc (codes "w") (at 52 53) refl; items = vec ptr alloc (world_item.Extern (extern_of Imported (extern.Func (id ptr alloc (codes "f") (at 63 64) refl) no_params)) ∷ world_item.Extern in_a ∷ world_item.Extern out_a ∷ []) (lit< tt) }

  abbrev file : PackageFile
  file = record { package_id = Some (header ptr alloc); decl_list = record { items = vec ptr alloc (ast.Interface i ∷ ast.World w ∷ []) (lit< tt) } }

  abbrev files : List PackageFile
  files = file ∷ []

  abbrev w_item : Item
  w_item = record { top = top_names file; declared = TheWorld w }

  -- both are items of their own, each the first interface of its side
  abbrev in_item : Item
  in_item = record { top = top_names file; declared = TheInline (codes "w") 0 in_a in_name items }

  abbrev out_item : Item
  out_item = record { top = top_names file; declared = TheInline (codes "w") 0 out_a out_name [] }

  written_in_w : inline_items w_item ≡ (in_item ∷ out_item ∷ [])
  written_in_w = refl

  abbrev in_address : Address
  in_address = InlineAt (codes "w") Imported 0

  abbrev out_address : Address
  out_address = InlineAt (codes "w") Exported 0

  addressed : map address (inline_items w_item) ≡ (in_address ∷ out_address ∷ [])
  addressed = refl

  -- the use in it is one of w's, which needs no item for it
  used_in_w : uses w_item ≡ (use_i ∷ [])
  used_in_w = refl

  rows : item_rows files ≡ (record { name = codes "i"; needs = [] } ∷ record { name = codes "w"; needs = [] } ∷ [])
  rows = refl

  names_of_a : scope_names in_item ≡ (Used (InterfaceNamed (codes "i")) [] used_t ∷ Defined s ∷ [])
  names_of_a = refl

  -- the arenas: what is written in w comes after i
  abbrev entry : List ℕ → Ty → TypeOwner → Span → TypeDef
  entry name ty whose span = record { name = Some name; kind = kind.Type_ ty; owner = whose; docs = no_docs; stability = Unknown; span = span; external_id = None }

  abbrev types : List TypeDef
  types = entry (codes "t") type.U8 (owner.Interface 0) (at 36 37) ∷ entry (codes "t") (type.Id 0) (owner.Interface 1) (at 103 104) ∷ entry (codes "s") (type.Id 1) (owner.Interface 1) (at 112 113) ∷ []

  abbrev i_entry : Interface
  i_entry = record { name = Some (codes "i"); types = (codes "t", 0) ∷ []; functions = []; docs = no_docs; stability = Unknown; «package» = None; span = (at 27 28); clone_of = None }

  abbrev in_interface : Interface
  in_interface = record { name = None; types = (codes "t", 1) ∷ (codes "s", 2) ∷ []; functions = []; docs = no_docs; stability = Unknown; «package» = None; span = (at 81 82); clone_of = None }

  abbrev out_interface : Interface
  out_interface = record { name = None; types = []; functions = []; docs = no_docs; stability = Unknown; «package» = None; span = (at 128 129); clone_of = None }

  abbrev f : Function
  f = record { name = codes "f"; kind = function_kind.Freestanding; params = []; result = None; docs = no_docs; stability = Unknown; span = (at 63 64); external_id = None }

  abbrev imports : List (WorldKey × WorldItem)
  imports = function_item f ∷ inline_entry in_a in_name 1 ∷ []

  abbrev exports : List (WorldKey × WorldItem)
  exports = inline_entry out_a out_name 2 ∷ []

  abbrev interfaces : List Address
  interfaces = InterfaceNamed (codes "i") ∷ in_address ∷ out_address ∷ []

  imported : AreSideItems interfaces w_item.top Imported (side_items w_item) (f ∷ []) (map address (inline_items w_item)) imports
  imported = (inline_entry in_a in_name 1 ∷ [], refl, (1, [], refl, refl, (2, [], refl, refl, refl)))

  exported : AreSideItems interfaces w_item.top Exported (side_items w_item) (f ∷ []) (map address (inline_items w_item)) exports
  exported = (exports, refl, (1, exports, refl, refl, (2, [], refl, refl, refl)))

  abbrev whole : UnresolvedPackage
  whole = record {
    docs = no_docs;
    name = record { namespace = codes "foo"; name = codes "foo"; version = None };
    worlds = record { name = codes "w"; imports = imports; exports = exports; «package» = None; docs = no_docs; stability = Unknown; includes = []; span = (at 52 53) } ∷ [];
    interfaces = i_entry ∷ in_interface ∷ out_interface ∷ [];
    types = types;
    foreign_deps = [];
    name_span = at 8 15;
    unknown_type_spans = [];
    foreign_dep_spans = [];
    required_resource_types = [];
  }

  -- the package says them by where they are in w
  in_w : owner_of whole (owner.Interface 1) ≡ Some in_address
  in_w = refl

  out_of_w : owner_of whole (owner.Interface 2) ≡ Some out_address
  out_of_w = refl

  names_in_package : names_of whole (owner.Interface 1) ≡ ((codes "t", 1) ∷ (codes "s", 2) ∷ [])
  names_in_package = refl

  abbrev inner : List ℕ → Span → Head
  inner name span = record { owner = Some in_address; name = name; span = span; docs = no_docs; stability = Unknown; external_id = None }

  -- s is u8 under three names, in the files and in the package
  tree_in_files : source_tree files 4 (in_address, Word s.name)
      ≡ Named (inner (codes "s") (at 112 113)) AliasForm (Named (inner (codes "t") (at 103 104)) AliasForm (Named (record { owner = Some (InterfaceNamed (codes "i")); name = codes "t"; span = (at 36 37); docs = no_docs; stability = Unknown; external_id = None }) AliasForm (Leaf type.U8 ∷ []) ∷ []) ∷ [])
  tree_in_files = refl

  tree_in_package : package_tree whole 4 (type.Id 2) ≡ source_tree files 4 (in_address, Word s.name)
  tree_in_package = refl
