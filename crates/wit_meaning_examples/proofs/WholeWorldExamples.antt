-- A world with all that can be in one, computed by the definitions: a `use`, an interface that is written there, paths on both sides, a function, and an include.
use Rattle.std.proofs.Common.{◌≡◌, ℕ, List, [], ◌∷◌, map, Some, None, refl, lit<}
use Rattle.wit_arena.proofs.Common.{Address, AreSideItems, Collects, Def, Defined, Exported, Extern, ExternKind, Func, Function, Global, Id, Imported, Include, InlineAt, InterfaceItem, InterfaceNamed, IsOccurrence, IsOrder, Item, Occurrence, Ordered, PackageFile, Param, Plain, Shape, Span, TheInline, TheInterface, TheWorld, TypeDef, TypeOwner, Unknown, UnresolvedPackage, UseName, Used, Word, World, WorldInclude, WorldItem, WorldKey, WorldNamed, WorldSide, all_items, all_occurrences, codes, declarations, flat_map, function_item, function_types, functions, in_order, include_in, inline_entry, inline_items, interfaces_of, item_rows, names_of, no_docs, owner_of, package_tree, rows_of, scope_names, side_items, signature, source_tree, take, top_names, worlds_of}
use Rattle.wit_syntax.proofs.Common.{Interface as WrittenInterface, Use, World as WrittenWorld, WorldItem as WorldPart}
use denote.RawPtr.{Ptr}
use Rattle.wit_tree.specs.declared.tree.ExternKind.TheVariants as extern
use Rattle.wit_type_tree.specs.declared.types.TypeDef.{TypeDef as Definition}
use Rattle.wit_type_tree.specs.declared.types.FuncForm.TheVariants as form
use Rattle.wit_type_tree.specs.declared.types.Primitive.TheVariants as primitive
use Rattle.wit_type_tree.specs.declared.types.«Type».TheVariants as written
use Rattle.wit_tree.specs.declared.tree.UsePath.TheVariants as path
use Rattle.wit_tree.specs.declared.tree.InterfaceItem.TheVariants as interface_item
use Rattle.wit_tree.specs.declared.tree.WorldItem.TheVariants as world_item
use Rattle.wit_tree.specs.declared.tree.AstItem.TheVariants as ast
use Rattle.wit_types.specs.declared.types.«Type».{«Type» as Ty}
use Rattle.wit_types.specs.declared.types.«Type».TheVariants as type
use Rattle.wit_types.specs.declared.types.TypeDefKind.TheVariants as kind
use Rattle.wit_types.specs.declared.types.TypeOwner.TheVariants as owner
use Rattle.wit_functions.specs.declared.function.FunctionKind.TheVariants as function_kind
use Rattle.wit_model.specs.declared.world.WorldItem.TheVariants as item
use Rattle.wit_model.specs.declared.world.WorldKey.TheVariants as key
use Rattle.wit_meaning_examples.proofs.Examples.{at, id, vec, no_comments, unstated, header}
use Rattle.wit_meaning_examples.proofs.SideExamples.{no_rows}
use Rattle.wit_meaning_examples.proofs.SignatureExamples.{one_order}
use Rattle.wit_meaning_examples.proofs.SmallOrders.{middle_order, turned_end}
use Rattle.wit_meaning_examples.proofs.FirstSeen.{collects_each, none_seen, seen_named}
use Rattle.wit_meaning_examples.proofs.OrderedWorlds.{OrderedWorld, all_turns, interface_addresses, world_addresses}

-- the scopes
abbrev in_a : Address
in_a = InterfaceNamed (codes "a")

abbrev in_w : Address
in_w = WorldNamed (codes "w")

abbrev in_b : Address
in_b = InlineAt (codes "w") Imported 0

-- package foo:foo; interface a { type t = u8; }
-- world w { use a.{t}; import b: interface { use a.{t}; f: func(x: t); }
-- import a; export a; export g: func() -> t; include v with { x as y } }
-- world v { import x: func(); }
module _ (ptr : Ptr) (alloc : Global) where
  abbrev a_at : Span → Id
  a_at span = id ptr alloc (codes "a") span refl

  abbrev t_at : Span → Id
  t_at span = id ptr alloc (codes "t") span refl

  abbrev x_at : Span → Id
  x_at span = id ptr alloc (codes "x") span refl

  abbrev t : Definition
  t = record { docs = no_comments ptr alloc; attributes = unstated ptr alloc; name = t_at (at 36 37); body = Plain (written.Primitive (at 40 42) primitive.U8) }

  abbrev a : WrittenInterface
  a = record { docs = no_comments ptr alloc; attributes = unstated ptr alloc; name = a_at (at 27 28); items = vec ptr alloc (interface_item.TypeDef t ∷ []) (lit< tt) }

  abbrev used : Span → UseName
  used span = record { name = t_at span; as_ = None }

  abbrev use_t : Span → Span → Use
  use_t a t = record { attributes = unstated ptr alloc; from = path.Id (a_at a); names = vec ptr alloc (used t ∷ []) (lit< tt) }

  abbrev extern_of : WorldSide → ExternKind → Extern
  extern_of side kind = record { side = side; docs = no_comments ptr alloc; attributes = unstated ptr alloc; kind = kind }

  abbrev b_name : Id
  b_name = id ptr alloc (codes "b") (at 74 75) refl

  abbrev b_items : List InterfaceItem
  b_items = interface_item.Use (use_t (at 93 94) (at 96 97))
      ∷ interface_item.Func (record {
        docs = no_comments ptr alloc;
        attributes = unstated ptr alloc;
        name = id ptr alloc (codes "f") (at 100 101) refl;
        func = record { span = at 103 107; form = form.Plain; params = vec ptr alloc (record { name = x_at (at 108 109); ty = written.Name (t_at (at 111 112)) } ∷ []) (lit< tt); result = None };
      }) ∷ []

  abbrev b : Extern
  b = extern_of Imported (extern.Interface b_name (vec ptr alloc b_items (lit< tt)))

  abbrev g_func : Func
  g_func = record { span = at 147 151; form = form.Plain; params = vec ptr alloc [] (lit< tt); result = Some (written.Name (t_at (at 157 158))) }

  abbrev include_v : Include
  include_v = record { attributes = unstated ptr alloc; from = path.Id (id ptr alloc (codes "v") (at 168 169) refl); names = vec ptr alloc (record { name = x_at (at 177 178); as_ = id ptr alloc (codes "y") (at 182 183) refl } ∷ []) (lit< tt) }

  abbrev w_parts : List WorldPart
  w_parts = world_item.Use (use_t (at 60 61) (at 63 64))
      ∷ world_item.Extern b
      ∷ world_item.Extern (extern_of Imported (extern.Path (path.Id (a_at (at 124 125)))))
      ∷ world_item.Extern (extern_of Exported (extern.Path (path.Id (a_at (at 134 135)))))
      ∷ world_item.Extern (extern_of Exported (extern.Func (id ptr alloc (codes "g") (at 144 145) refl) g_func))
      ∷ world_item.Include include_v ∷ []

  abbrev w : WrittenWorld
  w = record { docs = no_comments ptr alloc; attributes = unstated ptr alloc; name = id ptr alloc (codes "w") (at 52 53) refl; items = vec ptr alloc w_parts (lit< tt) }

  abbrev v : WrittenWorld
  v = record { docs = no_comments ptr alloc; attributes = unstated ptr alloc; name = id ptr alloc (codes "v") (at 194 195) refl; items = vec ptr alloc (world_item.Extern (extern_of Imported (extern.Func (x_at (at 205 206)) (record { span = at 208 212; form = form.Plain; params = vec ptr alloc [] (lit< tt); result = None }))) ∷ []) (lit< tt) }

  abbrev file : PackageFile
  file = record { package_id = Some (header ptr alloc); decl_list = record { items = vec ptr alloc (ast.Interface a ∷ ast.World w ∷ ast.World v ∷ []) (lit< tt) } }

  abbrev files : List PackageFile
  files = file ∷ []

  abbrev a_item : Item
  a_item = record { top = top_names file; declared = TheInterface a }

  abbrev w_item : Item
  w_item = record { top = top_names file; declared = TheWorld w }

  abbrev v_item : Item
  v_item = record { top = top_names file; declared = TheWorld v }

  abbrev b_item : Item
  b_item = record { top = top_names file; declared = TheInline (codes "w") 0 b b_name b_items }

  -- w needs v alone, so v comes before it
  order_of_items : IsOrder (item_rows files) turned_end
  order_of_items = middle_order (codes "a") (codes "w") (codes "v") v.name refl

  interfaces_in_order : interfaces_of (in_order (all_items files) turned_end) ≡ (a_item ∷ [])
  interfaces_in_order = refl

  worlds_in_order : worlds_of (in_order (all_items files) turned_end) ≡ (v_item ∷ w_item ∷ [])
  worlds_in_order = refl

  written_in_w : inline_items w_item ≡ (b_item ∷ [])
  written_in_w = refl

  -- each of the three scopes has a t
  names_of_w : scope_names w_item ≡ (Used in_a [] (used (at 63 64)) ∷ [])
  names_of_w = refl

  names_of_b : scope_names b_item ≡ (Used in_a [] (used (at 96 97)) ∷ [])
  names_of_b = refl

  orders : IsOrder (rows_of (scope_names a_item)) (0 ∷ []) × IsOrder (rows_of (scope_names w_item)) (0 ∷ []) × IsOrder (rows_of (scope_names b_item)) (0 ∷ []) × IsOrder (rows_of (scope_names v_item)) []
  orders = (one_order (codes "t"), one_order (codes "t"), one_order (codes "t"), no_rows)

  abbrev declared : List Ordered
  declared = record { item = a_item; order = 0 ∷ [] } ∷ []

  abbrev inside : List Ordered
  inside = record { item = b_item; order = 0 ∷ [] } ∷ []

  abbrev worlds : List OrderedWorld
  worlds = record { own = record { item = v_item; order = [] }; inside = [] } ∷ record { own = record { item = w_item; order = 0 ∷ [] }; inside = inside } ∷ []

  -- a's t occurs first, then w's, and then b's
  abbrev t_seen : Address → Span → Occurrence
  t_seen s span = record { key = Def s (codes "t"); span = span; given = Unknown }

  abbrev seen : List Occurrence
  seen = t_seen in_a (at 36 37) ∷ t_seen in_w (at 63 64) ∷ t_seen in_b (at 96 97) ∷ []

  seen_in_turn : all_occurrences files (all_turns declared worlds) ≡ seen
  seen_in_turn = refl

  seen_once : Collects [] (all_occurrences files (all_turns declared worlds)) seen
  seen_once = collects_each [] seen refl

  abbrev interface_places : List Address
  interface_places = in_a ∷ in_b ∷ []

  abbrev world_places : List Address
  world_places = WorldNamed (codes "v") ∷ in_w ∷ []

  interfaces_at : interface_addresses files (record { item = a_item; order = 0 ∷ [] } ∷ inside) ≡ interface_places
  interfaces_at = refl

  worlds_at : world_addresses files worlds ≡ world_places
  worlds_at = refl

  -- the arena of types is that list
  abbrev t_entry : Ty → TypeOwner → Span → TypeDef
  t_entry ty whose span = record { name = Some (codes "t"); kind = kind.Type_ ty; owner = whose; docs = no_docs; stability = Unknown; span = span; external_id = None }

  abbrev types : List TypeDef
  types = t_entry type.U8 (owner.Interface 0) (at 36 37) ∷ t_entry (type.Id 0) (owner.World 1) (at 63 64) ∷ t_entry (type.Id 0) (owner.Interface 1) (at 96 97) ∷ []

  abbrev so_far : ℕ → Type 0
  so_far n = IsOccurrence (declarations files interface_places world_places) (take n seen) (take n types)

  arena : so_far 3
  arena =
      let one : so_far 1 = seen_named in_a 0 (Defined t) (kind.Type_ type.U8) (none_seen _) refl refl refl (refl, tt) in
      let two : so_far 2 = seen_named in_w 0 (Used in_a [] (used (at 63 64))) (kind.Type_ (type.Id 0)) one refl refl refl ((0, refl, refl), tt) in
      seen_named in_b 0 (Used in_a [] (used (at 96 97))) (kind.Type_ (type.Id 0)) two refl refl refl ((0, refl, refl), tt)

  -- the functions, over these types
  abbrev made : List ℕ → List Param → Span → Function
  made name params span = record { name = name; kind = function_kind.Freestanding; params = params; result = None; docs = no_docs; stability = Unknown; span = span; external_id = None }

  abbrev made_f : Function
  made_f = made (codes "f") (record { name = codes "x"; ty = type.Id 2; span = at 108 109 } ∷ []) (at 100 101)

  abbrev made_g : Function
  made_g = record { name = codes "g"; kind = function_kind.Freestanding; params = []; result = Some (type.Id 1); docs = no_docs; stability = Unknown; span = at 144 145; external_id = None }

  abbrev made_x : Function
  made_x = made (codes "x") [] (at 205 206)

  -- w imports its type, b under that name, and a by its place; it exports a, and g
  abbrev imports : List (WorldKey × WorldItem)
  imports = inline_entry b b_name 1 ∷ (key.Interface 0, item.Interface 0 Unknown None no_docs (at 124 125)) ∷ []

  abbrev exports : List (WorldKey × WorldItem)
  exports = (key.Interface 0, item.Interface 0 Unknown None no_docs (at 134 135)) ∷ function_item made_g ∷ []

  imported : AreSideItems interface_places w_item.top Imported (side_items w_item) (made_g ∷ []) (in_b ∷ []) imports
  imported = (1, _ ∷ [], refl, refl, (0, [], refl, refl, (0, [], refl, refl, ([], refl, refl))))

  exported : AreSideItems interface_places w_item.top Exported (side_items w_item) (made_g ∷ []) (in_b ∷ []) exports
  exported = (1, exports, refl, refl, (0, exports, refl, refl, (0, function_item made_g ∷ [], refl, refl, ([], refl, refl))))

  -- it includes v, where x goes by y
  abbrev included : WorldInclude
  included = record { stability = Unknown; id = 0; names = record { name = codes "x"; as_ = codes "y" } ∷ []; span = at 168 169 }

  w_includes_v : include_in world_places w_item.top include_v ≡ included
  w_includes_v = refl

  abbrev world : List ℕ → List (WorldKey × WorldItem) → List (WorldKey × WorldItem) → List WorldInclude → Span → World
  world name imports exports includes span = record { name = name; imports = imports; exports = exports; «package» = None; docs = no_docs; stability = Unknown; includes = includes; span = span }

  abbrev whole : UnresolvedPackage
  whole = record {
    docs = no_docs;
    name = record { namespace = codes "foo"; name = codes "foo"; version = None };
    worlds = world (codes "v") (function_item made_x ∷ []) [] [] (at 194 195) ∷ world (codes "w") ((key.Name (codes "t"), item.Type_ 1 (at 63 64)) ∷ imports) exports (included ∷ []) (at 52 53) ∷ [];
    interfaces = record { name = Some (codes "a"); types = (codes "t", 0) ∷ []; functions = []; docs = no_docs; stability = Unknown; «package» = None; span = at 27 28; clone_of = None }
        ∷ record { name = None; types = (codes "t", 2) ∷ []; functions = (codes "f", made_f) ∷ []; docs = no_docs; stability = Unknown; «package» = None; span = at 74 75; clone_of = None } ∷ [];
    types = types;
    foreign_deps = [];
    name_span = at 8 15;
    unknown_type_spans = [];
    foreign_dep_spans = [];
    required_resource_types = [];
  }

  owners : map (owner_of whole) (owner.Interface 0 ∷ owner.World 1 ∷ owner.Interface 1 ∷ []) ≡ (Some in_a ∷ Some in_w ∷ Some in_b ∷ [])
  owners = refl

  names_in_w : names_of whole (owner.World 1) ≡ ((codes "t", 1) ∷ [])
  names_in_w = refl

  -- each t, and each type of a function, is in the package the tree that is written
  trees_of_names : map (λ (s : Address). source_tree files 3 (s, Word (t_at (at 0 1)))) (in_a ∷ in_w ∷ in_b ∷ []) ≡ map (package_tree whole 3) (type.Id 0 ∷ type.Id 1 ∷ type.Id 2 ∷ [])
  trees_of_names = refl

  trees_of_f : map (λ (x : Shape). source_tree files 3 (in_b, x)) (flat_map signature (functions b_item)) ≡ map (package_tree whole 3) (function_types made_f)
  trees_of_f = refl

  trees_of_g : map (λ (x : Shape). source_tree files 3 (in_w, x)) (flat_map signature (functions w_item)) ≡ map (package_tree whole 3) (function_types made_g)
  trees_of_g = refl
