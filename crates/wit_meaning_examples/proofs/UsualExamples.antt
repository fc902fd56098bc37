-- A package as it is usually written, computed by the definitions: a version, docs, a stability, a name of another package, a method, and a world.
use Rattle.std.proofs.Common.{◌≡◌, ℕ, false, true, List, [], ◌∷◌, map, Some, None, refl, ap, lit<}
use Rattle.wit_arena.proofs.Common.{Address, AreSideItems, Borrow, BorrowForm, Both', Box, Collects, Def, Defined, End, Exported, Extern, ExternKind, ForeignName, ForeignNamed, Function, Global, Id, Imported, Interface, InterfaceNamed, IsOccurrence, IsOrder, Item, Key, ListForm, Metadata, More, NamedFunc, NamesOthers, Neither, Occurrence, Of, PackageFile, PackageName, Prim, Release, Resource, ResultForm, Shape, Span, Stable, TheInterface, TheWorld, Turned, TypeDef, Unknown, UnresolvedPackage, Use, UseName, Used, Version, Whole, Word, WorldItem, WorldKey, WorldNamed, WorldSide, all_items, all_occurrences, codes, declarations, declared_metadata, flat_map, foreign_items, foreign_uses, function_item, function_types, functions, in_order, item_rows, metadata, named, no_docs, one, owner_of, package_of, package_tree, rows_of, scope_names, side_items, signature, source_tree, take, top_names, turn_handles, unnamed, «Type» as Written}
use Rattle.wit_syntax.proofs.Common.{Interface as WrittenInterface, Use as WrittenUse, World as WrittenWorld, joined}
use denote.RawPtr.{Ptr}
use Rattle.wit_type_tree.specs.declared.leaves.Attribute.TheVariants as attribute
use Rattle.wit_type_tree.specs.declared.leaves.Docs.{Docs as Comments}
use Rattle.wit_tree.specs.declared.tree.ExternKind.TheVariants as extern
use Rattle.wit_type_tree.specs.declared.types.FuncForm.TheVariants as form
use Rattle.wit_type_tree.specs.declared.types.ResourceFunc.TheVariants as resource
use Rattle.wit_type_tree.specs.declared.types.Primitive.TheVariants as primitive
use Rattle.wit_type_tree.specs.declared.types.«Type».TheVariants as written
use Rattle.wit_type_tree.specs.declared.types.TypeDef.{TypeDef as Definition}
use Rattle.wit_tree.specs.declared.tree.UsePath.TheVariants as path
use Rattle.wit_tree.specs.declared.tree.InterfaceItem.TheVariants as interface_item
use Rattle.wit_tree.specs.declared.tree.WorldItem.TheVariants as world_item
use Rattle.wit_tree.specs.declared.tree.AstItem.TheVariants as ast
use Rattle.wit_tree.specs.declared.tree.PackageName.{PackageName as Header}
use Rattle.wit_types.specs.declared.types.«Type».TheVariants as type
use Rattle.wit_types.specs.declared.types.TypeDefKind.TheVariants as kind
use Rattle.wit_types.specs.declared.types.TypeOwner.TheVariants as owner
use Rattle.wit_model.specs.declared.ast_item.AstItem.TheVariants as entry
use Rattle.wit_functions.specs.declared.function.FunctionKind.TheVariants as function_kind
use Rattle.wit_model.specs.declared.world.WorldItem.TheVariants as item
use Rattle.wit_model.specs.declared.world.WorldKey.TheVariants as key
use Rattle.wit_meaning_examples.proofs.Examples.{at, id, vec, no_comments, unstated}
use Rattle.wit_meaning_examples.proofs.MetadataExamples.{trimmed}
use Rattle.wit_meaning_examples.proofs.SmallOrders.{straight, apart_order}
use Rattle.wit_meaning_examples.proofs.FirstSeen.{collects_each, none_seen, seen_named, seen_unnamed}
use Rattle.wit_meaning_examples.proofs.OrderedWorlds.{all_turns, interface_addresses}

abbrev version : Version
version = record { major = 0; minor = 2; patch = 0; pre = record { identifier = None }; build = record { identifier = None } }

abbrev release : Release
release = record { major = 0; minor = 2; patch = 0; pre = []; build = [] }

abbrev nothing : Metadata
nothing = metadata no_docs []

-- error of wasi:io
abbrev io : PackageName
io = record { namespace = codes "wasi"; name = codes "io"; version = Some release }

abbrev pub io_error : Address
io_error = ForeignNamed io (codes "error")

abbrev in_streams : Address
in_streams = InterfaceNamed (codes "streams")

abbrev in_w : Address
in_w = WorldNamed (codes "w")

module _ (ptr : Ptr) (alloc : Global) where
  abbrev box : Box (Unit {0}) Global
  box = record { ptr = ptr; alloc = alloc; value = tt }

  abbrev wasi : Span → Span → (name : Id) → Header
  wasi whole namespace name = record { docs = no_comments ptr alloc; span = whole; namespace = id ptr alloc (codes "wasi") namespace refl; name = name; version = Some version }

  -- package wasi:demo@0.2.0;
  abbrev demo : Header
  demo = wasi (at 8 23) (at 8 12) (id ptr alloc (codes "demo") (at 13 17) refl)

  -- use wasi:io/error@0.2.0.{error};
  abbrev visited : Header
  visited = wasi (at 89 96) (at 89 93) (id ptr alloc (codes "io") (at 94 96) refl)

  abbrev error_at : Span → Id
  error_at span = id ptr alloc (codes "error") span refl

  abbrev pub used_error : UseName
  used_error = record { name = error_at (at 110 115); as_ = None }

  abbrev use_error : WrittenUse
  use_error = record { attributes = unstated ptr alloc; from = path.Package visited (error_at (at 97 102)); names = vec ptr alloc (used_error ∷ []) (lit< tt) }

  -- read: func(len: u64) -> result<list<u8>, error>;
  abbrev result_type : Written
  result_type = written.Result (at 165 171) (Both' box (written.List' (at 172 176) box (written.Primitive (at 177 179) primitive.U8)) box (written.Name (error_at (at 182 187))))

  abbrev read : NamedFunc
  read = record {
    docs = no_comments ptr alloc;
    attributes = unstated ptr alloc;
    name = id ptr alloc (codes "read") (at 141 145) refl;
    func = record { span = at 147 151; form = form.Plain; params = vec ptr alloc (record { name = id ptr alloc (codes "len") (at 152 155) refl; ty = written.Primitive (at 157 160) primitive.U64 } ∷ []) (lit< tt); result = Some result_type };
  }

  abbrev pub input : Definition
  input = record { docs = no_comments ptr alloc; attributes = unstated ptr alloc; name = id ptr alloc (codes "input") (at 129 134) refl; body = Resource (vec ptr alloc (resource.Method read ∷ []) (lit< tt)) }

  -- /// Streams.
  abbrev comments : Comments
  comments = record { docs = vec ptr alloc (record { ref_ptr = (0, 0); now = codes "/// Streams." } ∷ []) (lit< tt); span = at 26 38 }

  -- @since(version = 0.2.0) interface streams { .. }
  abbrev pub streams : WrittenInterface
  streams = record { docs = comments; attributes = vec ptr alloc (attribute.Since (at 39 62) version ∷ []) (lit< tt); name = id ptr alloc (codes "streams") (at 73 80) refl; items = vec ptr alloc (interface_item.Use use_error ∷ interface_item.TypeDef input ∷ []) (lit< tt) }

  abbrev extern_of : WorldSide → ExternKind → Extern
  extern_of side kind = record { side = side; docs = no_comments ptr alloc; attributes = unstated ptr alloc; kind = kind }

  -- world w { import streams; export run: func() -> result; }
  abbrev import_streams : Extern
  import_streams = extern_of Imported (extern.Path (path.Id (id ptr alloc (codes "streams") (at 215 222) refl)))

  abbrev export_run : Extern
  export_run = extern_of Exported (extern.Func (id ptr alloc (codes "run") (at 233 236) refl) (record { span = at 238 242; form = form.Plain; params = vec ptr alloc [] (lit< tt); result = Some (written.Result (at 248 254) Neither) }))

  abbrev w : WrittenWorld
  w = record { docs = no_comments ptr alloc; attributes = unstated ptr alloc; name = id ptr alloc (codes "w") (at 202 203) refl; items = vec ptr alloc (world_item.Extern import_streams ∷ world_item.Extern export_run ∷ []) (lit< tt) }

  abbrev pub file : PackageFile
  file = record { package_id = Some demo; decl_list = record { items = vec ptr alloc (ast.Interface streams ∷ ast.World w ∷ []) (lit< tt) } }

  abbrev pub files : List PackageFile
  files = file ∷ []

  abbrev pub streams_item : Item
  streams_item = record { top = top_names file; declared = TheInterface streams }

  abbrev pub w_item : Item
  w_item = record { top = top_names file; declared = TheWorld w }

  -- what is used from wasi:io, where it is visited
  in_use : foreign_uses files ≡ (record { from = io_error; attributes = []; id = error_at (at 110 115) } ∷ [])
  in_use = refl

  visits : foreign_items files ≡ (record { attributes = []; of = visited; id = error_at (at 97 102); wants_world = false } ∷ [])
  visits = refl

  -- no item needs another one: neither the use of another package's interface nor the import makes an edge
  order_of_items : IsOrder (item_rows files) straight
  order_of_items = apart_order (codes "streams") (codes "w")

  items_in_order : in_order (all_items files) straight ≡ (streams_item ∷ w_item ∷ [])
  items_in_order = refl

  names_of_streams : scope_names streams_item ≡ (Used io_error [] used_error ∷ Defined input ∷ [])
  names_of_streams = refl

  -- the method is no part of the resource's body, and needs nothing
  order_of_names : IsOrder (rows_of (scope_names streams_item)) straight
  order_of_names = apart_order (codes "error") (codes "input")

  abbrev turns : List Turned
  turns = all_turns (record { item = streams_item; order = straight } ∷ []) (record { own = record { item = w_item; order = [] }; inside = [] } ∷ [])

  -- the types in the order in which they occur, each for the first time
  abbrev seen_at : Key → Span → Occurrence
  seen_at key span = record { key = key; span = span; given = Unknown }

  abbrev pub seen : List Occurrence
  seen = seen_at (Def io_error (codes "error")) (at 110 115)
      ∷ seen_at (Def in_streams (codes "error")) (at 110 115)
      ∷ seen_at (Def in_streams (codes "input")) (at 129 134)
      ∷ seen_at (Whole BorrowForm (one (Use in_streams (codes "input")))) (at 147 151)
      ∷ seen_at (Whole ListForm (one (Prim primitive.U8))) (at 172 176)
      ∷ seen_at (Whole (ResultForm true true) (More (Of ListForm (one (Prim primitive.U8))) (one (Use in_streams (codes "error"))))) (at 165 171)
      ∷ seen_at (Whole (ResultForm false false) End) (at 248 254) ∷ []

  seen_once : Collects [] (all_occurrences files turns) seen
  seen_once = collects_each [] seen refl

  no_handles : flat_map turn_handles turns ≡ []
  no_handles = refl

  -- the arenas: what is written of streams comes after wasi:io's error
  abbrev pub types : List TypeDef
  types = named (owner.Interface 0) (codes "error") kind.Unknown nothing (at 110 115)
      ∷ named (owner.Interface 1) (codes "error") (kind.Type_ (type.Id 0)) nothing (at 110 115)
      ∷ named (owner.Interface 1) (codes "input") kind.Resource nothing (at 129 134)
      ∷ unnamed (kind.Handle (Borrow 2)) Unknown (at 147 151)
      ∷ unnamed (kind.List type.U8) Unknown (at 172 176)
      ∷ unnamed (kind.Result (record { ok = Some (type.Id 4); err = Some (type.Id 1) })) Unknown (at 165 171)
      ∷ unnamed (kind.Result (record { ok = None; err = None })) Unknown (at 248 254) ∷ []

  abbrev made_read : Function
  made_read = record { name = codes "[method]input.read"; kind = function_kind.Method 2; params = record { name = codes "self"; ty = type.Id 3; span = at 147 151 } ∷ record { name = codes "len"; ty = type.U64; span = at 152 155 } ∷ []; result = Some (type.Id 5); docs = no_docs; stability = Unknown; span = at 141 145; external_id = None }

  abbrev made_run : Function
  made_run = record { name = codes "run"; kind = function_kind.Freestanding; params = []; result = Some (type.Id 6); docs = no_docs; stability = Unknown; span = at 233 236; external_id = None }

  abbrev interfaces : List Address
  interfaces = io_error ∷ in_streams ∷ []

  addresses : interface_addresses files (record { item = streams_item; order = straight } ∷ []) ≡ interfaces
  addresses = refl

  abbrev so_far : ℕ → Type 0
  so_far n = IsOccurrence (declarations files interfaces (in_w ∷ [])) (take n seen) (take n types)

  arena : so_far 7
  arena =
      let one : so_far 1 = seen_named io_error 0 (ForeignName [] used_error.name) kind.Unknown (none_seen _) refl refl refl tt in
      let two : so_far 2 = seen_named in_streams 0 (Used io_error [] used_error) (kind.Type_ (type.Id 0)) one refl refl refl ((0, refl, refl), tt) in
      let three : so_far 3 = seen_named in_streams 1 (Defined input) kind.Resource two refl refl refl tt in
      let four : so_far 4 = seen_unnamed BorrowForm (More (Use in_streams (codes "input")) End) (kind.Handle (Borrow 2)) Unknown (at 147 151) three refl refl ((2, refl, refl), tt) in
      let five : so_far 5 = seen_unnamed ListForm (More (Prim primitive.U8) End) (kind.List type.U8) Unknown (at 172 176) four refl refl (refl, tt) in
      let six : so_far 6 = seen_unnamed (ResultForm true true) (More (Of ListForm (More (Prim primitive.U8) End)) (More (Use in_streams (codes "error")) End)) (kind.Result (record { ok = Some (type.Id 4); err = Some (type.Id 1) })) Unknown (at 165 171) five refl refl ((4, refl, refl), ((1, refl, refl), tt)) in
      seen_unnamed (ResultForm false false) End (kind.Result (record { ok = None; err = None })) Unknown (at 248 254) six refl refl tt

  -- what is stated of streams
  abbrev pub as_stated : Metadata
  as_stated = record { docs = record { contents = Some (codes "Streams.") }; stability = Stable release None; external_id = None }

  pub stated_of_streams : declared_metadata streams_item.declared ≡ as_stated
  stated_of_streams = ap (λ (text : List ℕ). metadata (record { contents = Some (joined (text ∷ [])) }) streams.attributes.items) trimmed

  -- w has streams at its place, and run
  abbrev imports : List (WorldKey × WorldItem)
  imports = (key.Interface 1, item.Interface 1 Unknown None no_docs (at 215 222)) ∷ []

  abbrev exports : List (WorldKey × WorldItem)
  exports = function_item made_run ∷ []

  imported : AreSideItems interfaces w_item.top Imported (side_items w_item) (made_run ∷ []) [] imports
  imported = (1, [], refl, refl, ([], refl, refl))

  exported : AreSideItems interfaces w_item.top Exported (side_items w_item) (made_run ∷ []) [] exports
  exported = (1, exports, refl, refl, ([], refl, refl))

  abbrev pub io_interface : Interface
  io_interface = record { name = None; types = (codes "error", 0) ∷ []; functions = []; docs = no_docs; stability = Unknown; «package» = None; span = at 97 102; clone_of = None }

  -- streams, where this is stated of it
  abbrev pub streams_interface : Metadata → Interface
  streams_interface n = record { name = Some (codes "streams"); types = (codes "error", 1) ∷ (codes "input", 2) ∷ []; functions = (made_read.name, made_read) ∷ []; docs = n.docs; stability = n.stability; «package» = None; span = at 73 80; clone_of = None }

  abbrev pub whole : UnresolvedPackage
  whole = record {
    docs = no_docs;
    name = package_of demo;
    worlds = record { name = codes "w"; imports = imports; exports = exports; «package» = None; docs = no_docs; stability = Unknown; includes = []; span = at 202 203 } ∷ [];
    interfaces = io_interface ∷ streams_interface as_stated ∷ [];
    types = types;
    foreign_deps = (io, (codes "error", (entry.Interface 0, Unknown ∷ [])) ∷ []) ∷ [];
    name_span = at 8 23;
    unknown_type_spans = at 110 115 ∷ [];
    foreign_dep_spans = at 89 96 ∷ [];
    required_resource_types = [];
  }

  others : NamesOthers files whole
  others = (refl, refl, refl)

  owners : map (owner_of whole) (owner.Interface 0 ∷ owner.Interface 1 ∷ owner.World 0 ∷ []) ≡ (Some io_error ∷ Some in_streams ∷ Some in_w ∷ [])
  owners = refl

  -- every name and every function is, in the package, the tree that is written
  trees_of_names : map (λ (x : Id). source_tree files 3 (in_streams, Word x)) (used_error.name ∷ input.name ∷ []) ≡ map (package_tree whole 3) (type.Id 1 ∷ type.Id 2 ∷ [])
  trees_of_names = refl

  trees_of_read : map (λ (x : Shape). source_tree files 4 (in_streams, x)) (flat_map signature (functions streams_item)) ≡ map (package_tree whole 4) (function_types made_read)
  trees_of_read = refl

  trees_of_run : map (λ (x : Shape). source_tree files 4 (in_w, x)) (flat_map signature (functions w_item)) ≡ map (package_tree whole 4) (function_types made_run)
  trees_of_run = refl
