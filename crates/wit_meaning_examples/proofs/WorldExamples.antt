-- A world with a use, a definition and an include, computed by the definitions.
use Rattle.std.proofs.Common.{◌≡◌, ℕ, List, [], ◌∷◌, map, Some, None, refl, lit<}
use Rattle.wit_arena.proofs.Common.{Address, AliasForm, Def, Defined, Global, Head, Include, Interface, InterfaceNamed, Item, Leaf, Named, Occurrence, Ordered, PackageFile, Plain, Span, TheInterface, TheWorld, TypeDef, TypeOwner, Unknown, UnresolvedPackage, UseName, Used, Word, World, WorldInclude, WorldItem, WorldKey, WorldNamed, all_items, codes, in_order, include_in, interfaces_of, item_rows, names_of, no_docs, occurrences, ordered_names, package_tree, scope_names, source_tree, top_names, turned, type_imports, worlds_of}
use Rattle.wit_syntax.proofs.Common.{Interface as WrittenInterface, World as WrittenWorld}
use denote.RawPtr.{Ptr}
use Rattle.wit_type_tree.specs.declared.types.Primitive.TheVariants as primitive
use Rattle.wit_type_tree.specs.declared.types.«Type».TheVariants as written
use Rattle.wit_type_tree.specs.declared.types.TypeDef.{TypeDef as Definition}
use Rattle.wit_tree.specs.declared.tree.UsePath.TheVariants as path
use Rattle.wit_tree.specs.declared.tree.InterfaceItem.TheVariants as interface_item
use Rattle.wit_tree.specs.declared.tree.WorldItem.TheVariants as world_item
use Rattle.wit_tree.specs.declared.tree.AstItem.TheVariants as ast
use Rattle.wit_types.specs.declared.types.«Type».{«Type» as Ty}
use Rattle.wit_types.specs.declared.types.«Type».TheVariants as type
use Rattle.wit_types.specs.declared.types.TypeDefKind.TheVariants as kind
use Rattle.wit_types.specs.declared.types.TypeOwner.TheVariants as owner
use Rattle.wit_meaning_examples.proofs.Examples.{at, id, vec, no_comments, unstated, header}
use Rattle.wit_meaning_examples.proofs.OrderedWorlds.{addresses}

-- package foo:foo; interface x { type t = u8; } world v { include w; } world w { use x.{t}; type s = t; }
module _ (ptr : Ptr) (alloc : Global) where
  abbrev t : Definition
  t = record { docs = no_comments ptr alloc; attributes = unstated ptr alloc; name = id ptr alloc (codes "t") (at 36 37) refl; body = Plain (written.Primitive (at 40 42) primitive.U8) }

  abbrev x : WrittenInterface
  x = record { docs = no_comments ptr alloc; attributes = unstated ptr alloc; name = id ptr alloc (codes "x") (at 27 28) refl; items = vec ptr alloc (interface_item.TypeDef t ∷ []) (lit< tt) }

  abbrev include_w : Include
  include_w = record { attributes = unstated ptr alloc; from = path.Id (id ptr alloc (codes "w") (at 64 65) refl); names = vec ptr alloc [] (lit< tt) }

  abbrev v : WrittenWorld
  v = record { docs = no_comments ptr alloc; attributes = unstated ptr alloc; name = id ptr alloc (codes "v") (at 52 53) refl; items = vec ptr alloc (world_item.Include include_w ∷ []) (lit< tt) }

  abbrev used_t : UseName
  used_t = record { name = id ptr alloc (codes "t") (at 86 87) refl; as_ = None }

  abbrev s : Definition
  s = record { docs = no_comments ptr alloc; attributes = unstated ptr alloc; name = id ptr alloc (codes "s") (at 95 96) refl; body = Plain (written.Name (id ptr alloc (codes "t") (at 99 100) refl)) }

  abbrev w : WrittenWorld
  w = record { docs = no_comments ptr alloc; attributes = unstated ptr alloc; name = id ptr alloc (codes "w") (at 75 76) refl; items = vec ptr alloc (world_item.Use (record { attributes = unstated ptr alloc; from = path.Id (id ptr alloc (codes "x") (at 83 84) refl); names = vec ptr alloc (used_t ∷ []) (lit< tt) }) ∷ world_item.TypeDef s ∷ []) (lit< tt) }

  abbrev file : PackageFile
  file = record { package_id = Some (header ptr alloc); decl_list = record { items = vec ptr alloc (ast.Interface x ∷ ast.World v ∷ ast.World w ∷ []) (lit< tt) } }

  abbrev files : List PackageFile
  files = file ∷ []

  abbrev x_item : Item
  x_item = record { top = top_names file; declared = TheInterface x }

  abbrev v_item : Item
  v_item = record { top = top_names file; declared = TheWorld v }

  abbrev w_item : Item
  w_item = record { top = top_names file; declared = TheWorld w }

  -- v needs w, which it includes; a world needs no interface that it uses from
  rows : item_rows files ≡ (record { name = codes "x"; needs = [] } ∷ record { name = codes "v"; needs = w.name ∷ [] } ∷ record { name = codes "w"; needs = [] } ∷ [])
  rows = refl

  -- w comes before v
  interfaces_in_order : interfaces_of (in_order (all_items files) (0 ∷ 2 ∷ 1 ∷ [])) ≡ (x_item ∷ [])
  interfaces_in_order = refl

  worlds_in_order : worlds_of (in_order (all_items files) (0 ∷ 2 ∷ 1 ∷ [])) ≡ (w_item ∷ v_item ∷ [])
  worlds_in_order = refl

  names_of_w : scope_names w_item ≡ (Used (InterfaceNamed (codes "x")) [] used_t ∷ Defined s ∷ [])
  names_of_w = refl

  abbrev ordered_w : Ordered
  ordered_w = record { item = w_item; order = 0 ∷ 1 ∷ [] }

  abbrev name_seen : Address → List ℕ → Span → Occurrence
  name_seen scope name span = record { key = Def scope name; span = span; given = Unknown }

  -- x's t occurs before w's, which occurs before s
  seen_in_turn : occurrences (map turned (record { item = x_item; order = 0 ∷ [] } ∷ ordered_w ∷ record { item = v_item; order = [] } ∷ []))
      ≡ (name_seen (InterfaceNamed (codes "x")) (codes "t") (at 36 37) ∷ name_seen (WorldNamed (codes "w")) (codes "t") (at 86 87) ∷ name_seen (WorldNamed (codes "w")) (codes "s") (at 95 96) ∷ [])
  seen_in_turn = refl

  -- the arenas: s is another word for w's t, which is one for x's
  abbrev entry : List ℕ → Ty → TypeOwner → Span → TypeDef
  entry name ty whose span = record { name = Some name; kind = kind.Type_ ty; owner = whose; docs = no_docs; stability = Unknown; span = span; external_id = None }

  abbrev types : List TypeDef
  types = entry (codes "t") type.U8 (owner.Interface 0) (at 36 37) ∷ entry (codes "t") (type.Id 0) (owner.World 0) (at 86 87) ∷ entry (codes "s") (type.Id 1) (owner.World 0) (at 95 96) ∷ []

  abbrev x_entry : Interface
  x_entry = record { name = Some (codes "x"); types = (codes "t", 0) ∷ []; functions = []; docs = no_docs; stability = Unknown; «package» = None; span = (at 27 28); clone_of = None }

  abbrev world : List ℕ → List (WorldKey × WorldItem) → List WorldInclude → Span → World
  world name imports includes span = record { name = name; imports = imports; exports = []; «package» = None; docs = no_docs; stability = Unknown; includes = includes; span = span }

  abbrev included : WorldInclude
  included = record { stability = Unknown; id = 0; names = []; span = (at 64 65) }

  abbrev worlds : List World
  worlds = world (codes "w") (type_imports (ordered_names ordered_w) ((codes "t", 1) ∷ (codes "s", 2) ∷ [])) [] (at 75 76) ∷ world (codes "v") [] (included ∷ []) (at 52 53) ∷ []

  abbrev whole : UnresolvedPackage
  whole = record { docs = no_docs; name = record { namespace = codes "foo"; name = codes "foo"; version = None }; worlds = worlds; interfaces = x_entry ∷ []; types = types; foreign_deps = []; name_span = at 8 15; unknown_type_spans = []; foreign_dep_spans = []; required_resource_types = [] }

  -- w has its types under their names
  names_in_package : names_of whole (owner.World 0) ≡ ((codes "t", 1) ∷ (codes "s", 2) ∷ [])
  names_in_package = refl

  abbrev world_head : List ℕ → Span → Head
  world_head name span = record { owner = Some (WorldNamed (codes "w")); name = name; span = span; docs = no_docs; stability = Unknown; external_id = None }

  -- s is u8 under three names, in the files and in the package
  tree_in_files : source_tree files 4 (WorldNamed (codes "w"), Word s.name)
      ≡ Named (world_head (codes "s") (at 95 96)) AliasForm (Named (world_head (codes "t") (at 86 87)) AliasForm (Named (record { owner = Some (InterfaceNamed (codes "x")); name = codes "t"; span = (at 36 37); docs = no_docs; stability = Unknown; external_id = None }) AliasForm (Leaf type.U8 ∷ []) ∷ []) ∷ [])
  tree_in_files = refl

  tree_in_package : package_tree whole 4 (type.Id 2) ≡ source_tree files 4 (WorldNamed (codes "w"), Word s.name)
  tree_in_package = refl

  -- v includes the world at w's place
  v_includes_w : include_in (addresses (ordered_w ∷ record { item = v_item; order = [] } ∷ [])) v_item.top include_w ≡ included
  v_includes_w = refl
