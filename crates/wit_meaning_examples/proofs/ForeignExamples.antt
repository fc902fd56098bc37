-- A worked row with an item of another package, computed by the definitions.
use Rattle.std.proofs.Common.{◌≡◌, ℕ, false, List, [], ◌∷◌, map, Some, None, refl, lit<}
use Rattle.wit_arena.proofs.Common.{Address, AliasForm, Def, ForeignNamed, Global, Head, Id, Interface, InterfaceNamed, Item, Named, NamesOthers, Occurrence, PackageFile, PackageName, TheInterface, ToplevelUse, Tree, TypeDef, TypeDefKind, Unknown, UnknownForm, UnresolvedPackage, UseName, Word, all_occurrences, codes, foreign_items, foreign_type, foreign_uses, item_rows, no_docs, owner_of, package_tree, source_tree, top_names, turned}
use Rattle.wit_syntax.proofs.Common.{Interface as WrittenInterface}
use denote.RawPtr.{Ptr}
use Rattle.wit_tree.specs.declared.tree.UsePath.TheVariants as path
use Rattle.wit_tree.specs.declared.tree.InterfaceItem.TheVariants.{Use as UseItem}
use Rattle.wit_tree.specs.declared.tree.AstItem.TheVariants.{Interface as InterfaceItem, Use as ToplevelItem}
use Rattle.wit_tree.specs.declared.tree.PackageName.{PackageName as Written}
use Rattle.wit_types.specs.declared.types.«Type».TheVariants as type
use Rattle.wit_types.specs.declared.types.TypeDefKind.TheVariants as kind
use Rattle.wit_types.specs.declared.types.TypeOwner.TheVariants as owner
use Rattle.wit_model.specs.declared.ast_item.AstItem.TheVariants as entry
use Rattle.wit_meaning_examples.proofs.Examples.{at, id, vec, no_comments, unstated, header}

-- package foo:foo; use a:b/c as d; interface i { use d.{t}; }
module _ (ptr : Ptr) (alloc : Global) where
  abbrev other : Written
  other = record { docs = no_comments ptr alloc; span = at 21 24; namespace = id ptr alloc (codes "a") (at 21 22) refl; name = id ptr alloc (codes "b") (at 23 24) refl; version = None }

  abbrev c_id : Id
  c_id = id ptr alloc (codes "c") (at 25 26) refl

  abbrev alias : ToplevelUse
  alias = record { attributes = unstated ptr alloc; span = at 17 20; item = path.Package other c_id; as_ = Some (id ptr alloc (codes "d") (at 30 31) refl) }

  abbrev t_id : Id
  t_id = id ptr alloc (codes "t") (at 54 55) refl

  abbrev used_t : UseName
  used_t = record { name = t_id; as_ = None }

  abbrev i : WrittenInterface
  i = record { docs = no_comments ptr alloc; attributes = unstated ptr alloc; name = id ptr alloc (codes "i") (at 43 44) refl; items = vec ptr alloc (UseItem (record { attributes = unstated ptr alloc; from = path.Id (id ptr alloc (codes "d") (at 51 52) refl); names = vec ptr alloc (used_t ∷ []) (lit< tt) }) ∷ []) (lit< tt) }

  abbrev file : PackageFile
  file = record { package_id = Some (header ptr alloc); decl_list = record { items = vec ptr alloc (ToplevelItem alias ∷ InterfaceItem i ∷ []) (lit< tt) } }

  abbrev files : List PackageFile
  files = file ∷ []

  abbrev item : Item
  item = record { top = top_names file; declared = TheInterface i }

  -- a:b, and the scope of its c
  abbrev ab : PackageName
  ab = record { namespace = codes "a"; name = codes "b"; version = None }

  abbrev c_of_ab : Address
  c_of_ab = ForeignNamed ab (codes "c")

  -- t is taken from c of a:b, which the `use` at the top of the file visits first
  in_use : foreign_uses files ≡ (record { from = c_of_ab; id = t_id; attributes = [] } ∷ [])
  in_use = refl

  visits : foreign_items files ≡ (record { attributes = []; of = other; id = c_id; wants_world = false } ∷ [])
  visits = refl

  -- its path makes no edge
  no_edge : item_rows files ≡ (record { name = codes "i"; needs = [] } ∷ [])
  no_edge = refl

  -- c's t occurs before i's
  abbrev t_seen : Address → Occurrence
  t_seen s = record { key = Def s (codes "t"); span = at 54 55; given = Unknown }

  occurrences_of_files : all_occurrences files (turned (record { item = item; order = 0 ∷ [] }) ∷ []) ≡ (t_seen c_of_ab ∷ t_seen (InterfaceNamed (codes "i")) ∷ [])
  occurrences_of_files = refl

  -- the package: c of a:b as an interface without a name, and then i
  abbrev interface : Interface
  interface = record { name = Some (codes "i"); types = (codes "t", 1) ∷ []; functions = []; docs = no_docs; stability = Unknown; «package» = None; span = at 43 44; clone_of = None }

  abbrev c_entry : Interface
  c_entry = record { name = None; types = (codes "t", 0) ∷ []; functions = []; docs = no_docs; stability = Unknown; «package» = None; span = at 25 26; clone_of = None }

  abbrev t_entry : ℕ → TypeDefKind → TypeDef
  t_entry place kind = record { name = Some (codes "t"); kind = kind; owner = owner.Interface place; docs = no_docs; stability = Unknown; span = at 54 55; external_id = None }

  abbrev whole : UnresolvedPackage
  whole = record {
    docs = no_docs;
    name = record { namespace = codes "foo"; name = codes "foo"; version = None };
    worlds = [];
    interfaces = c_entry ∷ interface ∷ [];
    types = t_entry 0 kind.Unknown ∷ t_entry 1 (kind.Type_ (type.Id 0)) ∷ [];
    foreign_deps = (ab, (codes "c", (entry.Interface 0, Unknown ∷ [])) ∷ []) ∷ [];
    name_span = at 8 15;
    unknown_type_spans = at 54 55 ∷ [];
    foreign_dep_spans = at 21 24 ∷ [];
    required_resource_types = [];
  }

  named : NamesOthers files whole
  named = (refl, refl, refl)

  -- what is taken is the first entry, and the interface without a name is c's
  first_type : map (foreign_type files) (foreign_uses files) ≡ (t_entry 0 kind.Unknown ∷ [])
  first_type = refl

  owner_of_c : owner_of whole (owner.Interface 0) ≡ Some c_of_ab
  owner_of_c = refl

  -- i's t is another word for c's t, of which nothing is known
  abbrev t_head : Address → Head
  t_head s = record { owner = Some s; name = codes "t"; span = at 54 55; docs = no_docs; stability = Unknown; external_id = None }

  abbrev t_tree : Tree 3
  t_tree = Named (t_head (InterfaceNamed (codes "i"))) AliasForm (Named (t_head c_of_ab) UnknownForm [] ∷ [])

  source : source_tree files 3 (InterfaceNamed (codes "i"), Word t_id) ≡ t_tree
  source = refl

  arenas : package_tree whole 3 (type.Id 1) ≡ t_tree
  arenas = refl
