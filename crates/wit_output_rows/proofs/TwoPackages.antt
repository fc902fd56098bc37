-- A package with another one that is nested in its file, and their listings.
use Rattle.std.proofs.Common.{◌≡◌, ℕ, List, [], ◌∷◌, Option, Some, None, refl, ap, lit<, lit≤}
use Rattle.std.specs.Fmt.{digits}
use Rattle.wit_walk.proofs.Common.{AstItem, Interface as WrittenInterface}
use Rattle.wit_arena.proofs.Common.{Fault, Global, Id, Item, Makes, NestedPackage, PackageFile, SourceFile, TheInterface, Unknown, UnresolvedPackage, Vec, codes, no_docs, option_or, package_of, required_none, rows_of, same_key, same_key_determines, scope_names, top_names}
use denote.RawPtr.{Ptr}
use Rattle.wit_tree.specs.declared.tree.AstItem.TheVariants as ast
use Rattle.wit_tree.specs.declared.tree.PackageName.{PackageName as Header}
use Rattle.wit_lex.specs.declared.source.Source.{Source}
use Rattle.wit_grammar.specs.Laws.{IsReadAs}
use Rattle.wit_grammar.specs.Seen.{see_file}
use Rattle.wit_grammar.proofs.Opened.{all_rules, reading}
use Rattle.wit_grammar.proofs.Whole.{read_is_spelled}
use Rattle.wit_listing.specs.Listing.{listing_text}
use Rattle.wit_groups.specs.Nested.{file_of}
use Rattle.wit_groups.specs.PushFaults.{source_fault}
use Rattle.wit_groups.proofs.Pushes.{a_walk}
use Rattle.wit_groups.specs.SourceFaults.{AreFaultless, SequenceComesTo, Tree}
use Rattle.wit_tool.specs.Output.{IsOutput, OfSources, Listing}
use Rattle.wit_meaning_examples.proofs.Examples.{at, id, vec, no_comments, unstated}
use Rattle.wit_output_rows.proofs.Making.{items_sorted, items_in_order, names_sorted, names_by_address, names_in, place_among}
use Rattle.wit_output_rows.proofs.Sorting.{sorted_order}
use Rattle.wit_output_rows.proofs.Values.{source}
use Rattle.wit_output_rows.proofs.Walks.{one_by_path, walks_to, joined_none, no_earlier}

-- wherever texts and vectors lie
module _ (ptr : Ptr) (alloc : Global) where
  abbrev text : List ℕ
  text = codes "package a:b; package c:d { interface i {} } interface j {}"

  abbrev own_source : Source
  own_source = source ptr alloc (codes "stdin.wit") text 0 refl refl (lit< tt) (lit< tt) (lit< tt)

  abbrev a_b : Header
  a_b = record { docs = no_comments ptr alloc; span = at 8 11; namespace = id ptr alloc (codes "a") (at 8 9) refl; name = id ptr alloc (codes "b") (at 10 11) refl; version = None }

  abbrev c_d : Header
  c_d = record { docs = no_comments ptr alloc; span = at 21 24; namespace = id ptr alloc (codes "c") (at 21 22) refl; name = id ptr alloc (codes "d") (at 23 24) refl; version = None }

  abbrev i_name : Id
  i_name = id ptr alloc (codes "i") (at 37 38) refl

  abbrev j_name : Id
  j_name = id ptr alloc (codes "j") (at 54 55) refl

  abbrev empty : Id → WrittenInterface
  empty name = record { docs = no_comments ptr alloc; attributes = unstated ptr alloc; name = name; items = vec ptr alloc [] (lit< tt) }

  abbrev declares : Id → Vec AstItem Global
  declares name = vec ptr alloc (ast.Interface (empty name) ∷ []) (lit< tt)

  abbrev nested : NestedPackage
  nested = record { name = c_d; decl_list = record { items = declares i_name }; nested = vec ptr alloc [] (lit< tt) }

  abbrev own_file : PackageFile
  own_file = record { package_id = Some a_b; decl_list = record { items = declares j_name } }

  abbrev tree : SourceFile
  tree = record { file = own_file; nested = vec ptr alloc (nested ∷ []) (lit< tt) }

  is_read : IsReadAs text 0 (see_file tree)
  unfolding all_rules reading
  is_read = (record { source = text; offset = 0; place = 58 }, refl)

  -- neither file has a fault
  own_free : a_walk.0 (own_file ∷ []) ≡ None
  own_free = walks_to a_walk.0 a_walk.1 (own_file ∷ []) None (λ steps. refl)

  nested_free : a_walk.0 (file_of nested ∷ []) ≡ None
  nested_free = walks_to a_walk.0 a_walk.1 (file_of nested ∷ []) None (λ steps. refl)

  source_free : source_fault a_walk.0 [] tree ≡ None
  source_free = ap (λ (o : Option Fault). option_or (option_or o None) None) nested_free

  faultless : AreFaultless (own_source ∷ []) (Tree tree ∷ [])
  faultless = record {
    ordered = own_source ∷ [];
    by_path = one_by_path own_source;
    walk = a_walk.0;
    walks = a_walk.1;
    is = (
      read_is_spelled text 0 (see_file tree) is_read,
      no_earlier (source_fault a_walk.0 [] tree) None (SequenceComesTo a_walk.0 (tree ∷ []) [] []) source_free (joined_none a_walk.0 (tree ∷ []) own_free refl),
    );
  }

  -- the package of this name with an empty interface
  abbrev made : Header → Id → UnresolvedPackage
  made header name = record {
    docs = no_docs;
    name = package_of header;
    worlds = [];
    interfaces = record { name = Some name.name.now; types = []; functions = []; docs = no_docs; stability = Unknown; «package» = None; span = name.span; clone_of = None } ∷ [];
    types = [];
    foreign_deps = [];
    name_span = header.span;
    unknown_type_spans = [];
    foreign_dep_spans = [];
    required_resource_types = [];
  }

  abbrev item_in : PackageFile → Id → Item
  item_in file name = record { top = top_names file; declared = TheInterface (empty name) }

  own_made : Makes (own_file ∷ []) (made a_b j_name)
  own_made = record {
    name = refl;
    name_span = refl;
    docs = refl;
    deps = refl;
    dep_spans = refl;
    unknown = refl;
    items = items_sorted (own_file ∷ []);
    in_order = items_in_order (own_file ∷ []) refl;
    order = names_sorted (own_file ∷ []);
    by_address = names_by_address (own_file ∷ []);
    names_in_order = names_in (own_file ∷ []) (names_sorted (own_file ∷ [])) (sorted_order (rows_of (scope_names (item_in own_file j_name))) refl, tt);
    same = same_key;
    gives = same_key_determines;
    seen = [];
    first = refl;
    id = place_among [];
    places = λ k. refl;
    count = refl;
    types = λ n m e at there. absurd (let f : ⊥ = cc in f);
    interfaces = refl;
    worlds = refl;
    required = required_none (own_file ∷ []) [];
  }

  nested_made : Makes (file_of nested ∷ []) (made c_d i_name)
  nested_made = record {
    name = refl;
    name_span = refl;
    docs = refl;
    deps = refl;
    dep_spans = refl;
    unknown = refl;
    items = items_sorted (file_of nested ∷ []);
    in_order = items_in_order (file_of nested ∷ []) refl;
    order = names_sorted (file_of nested ∷ []);
    by_address = names_by_address (file_of nested ∷ []);
    names_in_order = names_in (file_of nested ∷ []) (names_sorted (file_of nested ∷ [])) (sorted_order (rows_of (scope_names (item_in (file_of nested) i_name))) refl, tt);
    same = same_key;
    gives = same_key_determines;
    seen = [];
    first = refl;
    id = place_among [];
    places = λ k. refl;
    count = refl;
    types = λ n m e at there. absurd (let f : ⊥ = cc in f);
    interfaces = refl;
    worlds = refl;
    required = required_none (file_of nested ∷ []) [];
  }

  abbrev listing : List ℕ
  listing = codes "package a:b\ntypes 0\ninterfaces 1\ni0 j\nworlds 0\nforeign 0\npackage c:d\ntypes 0\ninterfaces 1\ni0 i\nworlds 0\nforeign 0\n"

  listed : listing ≡ listing_text (made a_b j_name) (made c_d i_name ∷ [])
  unfolding digits
  listed = refl

  pub two_packages_output : IsOutput text 0 listing
  two_packages_output = OfSources (lit≤ tt) (own_source ∷ []) (record { are = refl }) (Listing (Tree tree ∷ []) faultless (made a_b j_name) (made c_d i_name ∷ []) (record { whole = own_made; each = (nested_made, tt) }) refl listed)
