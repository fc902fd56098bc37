-- Paths that lead to an item of another package: an include of an interface, a `use` of a world, and a path that has the package's own name.
use Rattle.std.proofs.Common.{◌≡◌, ℕ, true, false, List, [], ◌∷◌, map, Some, None, refl, lit<}
use Rattle.wit_arena.proofs.Common.{Address, AliasForm, Collects, Def, Foreign, ForeignName, ForeignNamed, ForeignVisit, Global, Head, Id, InterfaceIncluded, InterfaceNamed, IsBroken, IsOccurrence, IsOrder, Item, Named, NamesOthers, Occurrence, Ordered, PackageFile, PackageName, Span, TheInterface, TheWorld, ToplevelUse, Tree, TypeDef, TypeDefKind, Unknown, UnknownForm, UnresolvedPackage, UseName, UsePath, Used, Word, WorldUsed, all_occurrences, codes, declarations, fault_in, foreign_items, foreign_uses, foreign_visits, is_world_at, item_rows, leads, no_docs, owner_of, package_tree, path_scope, rows_of, scope_names, source_tree, top_names, turned}
use Rattle.wit_syntax.proofs.Common.{Interface as WrittenInterface, Use as WrittenUse, World as WrittenWorld, WorldItem}
use Rattle.wit_syntax.specs.Broken.{Use}
use denote.RawPtr.{Ptr}
use Rattle.wit_tree.specs.declared.tree.UsePath.TheVariants as path
use Rattle.wit_tree.specs.declared.tree.InterfaceItem.TheVariants as interface_item
use Rattle.wit_tree.specs.declared.tree.WorldItem.TheVariants as world_item
use Rattle.wit_tree.specs.declared.tree.AstItem.TheVariants as ast
use Rattle.wit_tree.specs.declared.tree.PackageName.{PackageName as Written}
use Rattle.wit_types.specs.declared.types.«Type».TheVariants as type
use Rattle.wit_types.specs.declared.types.TypeDefKind.TheVariants as kind
use Rattle.wit_types.specs.declared.types.TypeOwner.TheVariants as owner
use Rattle.wit_model.specs.declared.ast_item.AstItem.TheVariants as entry
use Rattle.wit_meaning_examples.proofs.Examples.{at, id, vec, no_comments, unstated, header}
use Rattle.wit_meaning_examples.proofs.SignatureExamples.{one_order}
use Rattle.wit_meaning_examples.proofs.FirstSeen.{collects_each, none_seen, seen_named}
use Rattle.wit_meaning_examples.proofs.OrderedWorlds.{interface_addresses}

module _ (ptr : Ptr) (alloc : Global) where
  -- a package in a path, and the c after it
  abbrev ab_at : Span → Span → Span → Written
  ab_at whole a b = record { docs = no_comments ptr alloc; span = whole; namespace = id ptr alloc (codes "a") a refl; name = id ptr alloc (codes "b") b refl; version = None }

  abbrev c_at : Span → Id
  c_at span = id ptr alloc (codes "c") span refl

  abbrev t_at : Span → UseName
  t_at span = record { name = id ptr alloc (codes "t") span refl; as_ = None }

  abbrev ab : PackageName
  ab = record { namespace = codes "a"; name = codes "b"; version = None }

  abbrev including : UsePath → WorldItem
  including from = world_item.Include (record { attributes = unstated ptr alloc; from = from; names = vec ptr alloc [] (lit< tt) })

  -- package foo:foo; use a:b/c; world w { include c; }
  module _ where
    abbrev visited : Written
    visited = ab_at (at 21 24) (at 21 22) (at 23 24)

    abbrev on_top : ToplevelUse
    on_top = record { attributes = unstated ptr alloc; span = at 17 20; item = path.Package visited (c_at (at 25 26)); as_ = None }

    abbrev included : UsePath
    included = path.Id (c_at (at 46 47))

    abbrev w : WrittenWorld
    w = record { docs = no_comments ptr alloc; attributes = unstated ptr alloc; name = id ptr alloc (codes "w") (at 34 35) refl; items = vec ptr alloc (including included ∷ []) (lit< tt) }

    abbrev file : PackageFile
    file = record { package_id = Some (header ptr alloc); decl_list = record { items = vec ptr alloc (ast.Use on_top ∷ ast.World w ∷ []) (lit< tt) } }

    abbrev item : Item
    item = record { top = top_names file; declared = TheWorld w }

    -- c is a:b's, as the `use` at the top says, where it is there
    leads_there : leads item.top included ≡ Foreign ab (c_at (at 25 26))
    leads_there = refl

    -- that `use` visits it first, so it is an interface; the include is no visit, and makes no edge
    visits : foreign_visits (file ∷ []) ≡ (record { attributes = []; of = visited; id = c_at (at 25 26); wants_world = false } ∷ [])
    visits = refl

    no_world : is_world_at (file ∷ []) (leads item.top included) ≡ Some false
    no_world = refl

    no_edge : item_rows (file ∷ []) ≡ (record { name = codes "w"; needs = [] } ∷ [])
    no_edge = refl

    included_refused : IsBroken (file ∷ []) (fault_in 11 (at 46 47) (codes "name `c` is defined as an interface, not a world"))
    included_refused = InterfaceIncluded item (0, lit< tt, refl) included (0, lit< tt, refl) refl refl

  -- package foo:foo; world w { include a:b/c; use a:b/c.{t}; }
  module _ where
    abbrev included_ab : Written
    included_ab = ab_at (at 35 38) (at 35 36) (at 37 38)

    abbrev used_ab : Written
    used_ab = ab_at (at 46 49) (at 46 47) (at 48 49)

    abbrev used_path : UsePath
    used_path = path.Package used_ab (c_at (at 50 51))

    abbrev use_t : WrittenUse
    use_t = record { attributes = unstated ptr alloc; from = used_path; names = vec ptr alloc (t_at (at 53 54) ∷ []) (lit< tt) }

    abbrev both : WrittenWorld
    both = record { docs = no_comments ptr alloc; attributes = unstated ptr alloc; name = id ptr alloc (codes "w") (at 23 24) refl; items = vec ptr alloc (including (path.Package included_ab (c_at (at 39 40))) ∷ world_item.Use use_t ∷ []) (lit< tt) }

    abbrev both_file : PackageFile
    both_file = record { package_id = Some (header ptr alloc); decl_list = record { items = vec ptr alloc (ast.World both ∷ []) (lit< tt) } }

    abbrev both_item : Item
    both_item = record { top = top_names both_file; declared = TheWorld both }

    -- the include visits c first, so it is a world, also for the `use`
    first_visits : foreign_items (both_file ∷ []) ≡ (record { attributes = []; of = included_ab; id = c_at (at 39 40); wants_world = true } ∷ [])
    first_visits = refl

    is_world : is_world_at (both_file ∷ []) (leads both_item.top used_path) ≡ Some true
    is_world = refl

    used_refused : IsBroken (both_file ∷ []) (fault_in 10 (at 50 51) (codes "name `c` is defined as a world, not an interface"))
    used_refused = Use both_item (0, lit< tt, refl) (WorldUsed used_path (0, lit< tt, refl) refl refl)

  -- package foo:foo; interface i { use foo:foo/i.{t}; }
  module _ where
    abbrev own : Written
    own = record { docs = no_comments ptr alloc; span = at 35 42; namespace = id ptr alloc (codes "foo") (at 35 38) refl; name = id ptr alloc (codes "foo") (at 39 42) refl; version = None }

    abbrev i_visited : Id
    i_visited = id ptr alloc (codes "i") (at 43 44) refl

    abbrev pub t_used : UseName
    t_used = t_at (at 46 47)

    abbrev pub use_own : WrittenUse
    use_own = record { attributes = unstated ptr alloc; from = path.Package own i_visited; names = vec ptr alloc (t_used ∷ []) (lit< tt) }

    abbrev i : WrittenInterface
    i = record { docs = no_comments ptr alloc; attributes = unstated ptr alloc; name = id ptr alloc (codes "i") (at 27 28) refl; items = vec ptr alloc (interface_item.Use use_own ∷ []) (lit< tt) }

    abbrev pub own_file : PackageFile
    own_file = record { package_id = Some (header ptr alloc); decl_list = record { items = vec ptr alloc (ast.Interface i ∷ []) (lit< tt) } }

    abbrev files : List PackageFile
    files = own_file ∷ []

    abbrev pub i_item : Item
    i_item = record { top = top_names own_file; declared = TheInterface i }

    -- that i is an item of another package, whatever that is called
    abbrev foo : PackageName
    foo = record { namespace = codes "foo"; name = codes "foo"; version = None }

    abbrev pub other : Address
    other = ForeignNamed foo (codes "i")

    abbrev here : Address
    here = InterfaceNamed (codes "i")

    abbrev pub visit : ForeignVisit
    visit = record { attributes = []; of = own; id = i_visited; wants_world = false }

    scope_of_path : path_scope i_item.top use_own.from ≡ other
    scope_of_path = refl

    visits_of_i : foreign_items files ≡ (visit ∷ [])
    visits_of_i = refl

    in_use : foreign_uses files ≡ (record { from = other; attributes = []; id = t_used.name } ∷ [])
    in_use = refl

    names : scope_names i_item ≡ (Used other [] t_used ∷ [])
    names = refl

    -- so i needs nothing, and does not depend on itself
    order_of_items : IsOrder (item_rows files) (0 ∷ [])
    order_of_items = one_order (codes "i")

    order_of_names : IsOrder (rows_of (scope_names i_item)) (0 ∷ [])
    order_of_names = one_order (codes "t")

    abbrev in_turn : Ordered
    in_turn = record { item = i_item; order = 0 ∷ [] }

    addresses : interface_addresses files (in_turn ∷ []) ≡ (other ∷ here ∷ [])
    addresses = refl

    -- both types are first occurrences: the other package's, and i's
    abbrev t_seen : Address → Occurrence
    t_seen s = record { key = Def s (codes "t"); span = at 46 47; given = Unknown }

    abbrev seen : List Occurrence
    seen = t_seen other ∷ t_seen here ∷ []

    seen_once : Collects [] (all_occurrences files (turned in_turn ∷ [])) seen
    seen_once = collects_each [] seen refl

    -- the package: the other i, and then its own
    abbrev t_entry : ℕ → TypeDefKind → TypeDef
    t_entry place kind = record { name = Some (codes "t"); kind = kind; owner = owner.Interface place; docs = no_docs; stability = Unknown; span = at 46 47; external_id = None }

    abbrev types : List TypeDef
    types = t_entry 0 kind.Unknown ∷ t_entry 1 (kind.Type_ (type.Id 0)) ∷ []

    arena : IsOccurrence (declarations files (other ∷ here ∷ []) []) seen types
    arena =
        let first : IsOccurrence (declarations files (other ∷ here ∷ []) []) (t_seen other ∷ []) (t_entry 0 kind.Unknown ∷ []) = seen_named other 0 (ForeignName [] t_used.name) kind.Unknown (none_seen _) refl refl refl tt in
        seen_named here 0 (Used other [] t_used) (kind.Type_ (type.Id 0)) first refl refl refl ((0, refl, refl), tt)

    abbrev whole : UnresolvedPackage
    whole = record {
      docs = no_docs;
      name = foo;
      worlds = [];
      interfaces = record { name = None; types = (codes "t", 0) ∷ []; functions = []; docs = no_docs; stability = Unknown; «package» = None; span = at 43 44; clone_of = None }
          ∷ record { name = Some (codes "i"); types = (codes "t", 1) ∷ []; functions = []; docs = no_docs; stability = Unknown; «package» = None; span = at 27 28; clone_of = None } ∷ [];
      types = types;
      foreign_deps = (foo, (codes "i", (entry.Interface 0, Unknown ∷ [])) ∷ []) ∷ [];
      name_span = at 8 15;
      unknown_type_spans = at 46 47 ∷ [];
      foreign_dep_spans = at 35 42 ∷ [];
      required_resource_types = [];
    }

    named : NamesOthers files whole
    named = (refl, refl, refl)

    owners : map (owner_of whole) (owner.Interface 0 ∷ owner.Interface 1 ∷ []) ≡ (Some other ∷ Some here ∷ [])
    owners = refl

    -- i's t is another word for the other i's t, of which nothing is known
    abbrev t_head : Address → Head
    t_head s = record { owner = Some s; name = codes "t"; span = at 46 47; docs = no_docs; stability = Unknown; external_id = None }

    abbrev t_tree : Tree 3
    t_tree = Named (t_head here) AliasForm (Named (t_head other) UnknownForm [] ∷ [])

    tree_in_files : source_tree files 3 (here, Word t_used.name) ≡ t_tree
    tree_in_files = refl

    tree_in_package : package_tree whole 3 (type.Id 1) ≡ t_tree
    tree_in_package = refl
