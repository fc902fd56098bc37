-- A package with a handle of another package's type, and its listing.
use Rattle.std.proofs.Common.{◌≡◌, ℕ, zero, suc, List, [], ◌∷◌, None, Some, refl, lit<, lit≤}
use Rattle.std.specs.Fmt.{digits}
use Rattle.wit_arena.proofs.Common.{Borrow, ForeignName, Function, Global, Interface, IsEntryOf, Makes, Occurrence, SourceFile, TypeDef, Unknown, UnresolvedPackage, Used, codes, contains_at, interface_scopes, no_docs, owner_at, rows_of, same_key, same_key_determines, scope, scope_names, slice_get, take, world_scopes}
use denote.RawPtr.{Ptr}
use Rattle.wit_lex.specs.declared.source.Source.{Source}
use Rattle.wit_grammar.specs.Laws.{IsReadAs}
use Rattle.wit_grammar.specs.Seen.{see_file}
use Rattle.wit_grammar.proofs.Opened.{all_rules, reading}
use Rattle.wit_grammar.proofs.Whole.{read_is_spelled}
use Rattle.wit_types.specs.declared.types.«Type».TheVariants as type
use Rattle.wit_types.specs.declared.types.TypeDefKind.TheVariants as kind
use Rattle.wit_functions.specs.declared.function.FunctionKind.TheVariants.{Freestanding}
use Rattle.wit_model.specs.declared.ast_item.AstItem.TheVariants as entry
use Rattle.wit_listing.specs.Listing.{listing_text}
use Rattle.wit_groups.specs.SourceFaults.{AreFaultless, Tree}
use Rattle.wit_groups.proofs.Pushes.{a_walk}
use Rattle.wit_tool.specs.Output.{IsOutput, OfSources, Listing}
use Rattle.wit_meaning_examples.proofs.Examples.{at, vec}
use Rattle.wit_meaning_examples.proofs.HandleExamples.{borrow_seen, file_of, in_c, in_i, item_of, name_seen, used_r, user, user_files, user_required, user_types}
use Rattle.wit_output_rows.proofs.Making.{items_sorted, items_in_order, names_sorted, names_by_address, names_in, place_among, AtPlace, by_places}
use Rattle.wit_output_rows.proofs.Sorting.{sorted_order}
use Rattle.wit_output_rows.proofs.Values.{source}
use Rattle.wit_output_rows.proofs.Walks.{one_by_path, walks_in_two, joined_none}

-- wherever texts and vectors lie
module _ (ptr : Ptr) (alloc : Global) where
  abbrev text : List ℕ
  text = codes "package foo:foo; interface i { use a:b/c.{r}; f: func(x: borrow<r>); }"

  abbrev own_source : Source
  own_source = source ptr alloc (codes "stdin.wit") text 0 refl refl (lit< tt) (lit< tt) (lit< tt)

  abbrev tree : SourceFile
  tree = record { file = file_of ptr alloc (user ptr alloc); nested = vec ptr alloc [] (lit< tt) }

  is_read : IsReadAs text 0 (see_file tree)
  unfolding all_rules reading
  is_read = (record { source = text; offset = 0; place = 70 }, refl)

  faultless : AreFaultless (own_source ∷ []) (Tree tree ∷ [])
  faultless = record {
    ordered = own_source ∷ [];
    by_path = one_by_path own_source;
    walk = a_walk.0;
    walks = a_walk.1;
    is = (read_is_spelled text 0 (see_file tree) is_read, joined_none a_walk.0 (tree ∷ []) (walks_in_two a_walk.0 a_walk.1 (user_files ptr alloc) None (λ k. refl)) refl);
  }

  -- c's r occurs first, then i's, and then the handle
  abbrev seen : List Occurrence
  seen = name_seen (in_c ptr alloc) (codes "r") (at 42 43) ∷ name_seen in_i (codes "r") (at 42 43) ∷ borrow_seen (codes "r") (at 57 63) ∷ []

  abbrev IsEntryHere : ℕ → Occurrence → TypeDef → Type 0
  IsEntryHere n m e = IsEntryOf (scope (user_files ptr alloc)) (owner_at (interface_scopes (user_files ptr alloc) (items_sorted (user_files ptr alloc))) (world_scopes (user_files ptr alloc) (items_sorted (user_files ptr alloc)))) (place_among seen) (take n (user_types ptr alloc)) m.key m.span m.given e

  entries : (n : ℕ) (m : Occurrence) (e : TypeDef) → slice_get seen n ≡ Some m → slice_get (user_types ptr alloc) n ≡ Some e → IsEntryHere n m e
  entries = by_places IsEntryHere seen (user_types ptr alloc) each
    where
      each : (n : ℕ) → AtPlace IsEntryHere n (slice_get seen n) (slice_get (user_types ptr alloc) n)
      each zero = (ForeignName [] (used_r ptr alloc).name, kind.Unknown, contains_at (scope (user_files ptr alloc) (in_c ptr alloc)) 0 (ForeignName [] (used_r ptr alloc).name) refl, refl, refl, refl)
      each (suc zero) = (Used (in_c ptr alloc) [] (used_r ptr alloc), kind.Type_ (type.Id 0), contains_at (scope_names (item_of ptr alloc (user ptr alloc))) 0 (Used (in_c ptr alloc) [] (used_r ptr alloc)) refl, refl, refl, refl)
      each (suc (suc zero)) = (kind.Handle (Borrow 1), refl, refl)
      each (suc (suc (suc n))) = tt

  abbrev made_f : Function
  made_f = record { name = codes "f"; kind = Freestanding; params = record { name = codes "x"; ty = type.Id 2; span = at 54 55 } ∷ []; result = None; docs = no_docs; stability = Unknown; span = at 46 47; external_id = None }

  abbrev interfaces : List Interface
  interfaces = record { name = None; types = (codes "r", 0) ∷ []; functions = []; docs = no_docs; stability = Unknown; «package» = None; span = at 39 40; clone_of = None }
      ∷ record { name = Some (codes "i"); types = (codes "r", 1) ∷ []; functions = (codes "f", made_f) ∷ []; docs = no_docs; stability = Unknown; «package» = None; span = at 27 28; clone_of = None } ∷ []

  abbrev made : UnresolvedPackage
  made = record {
    docs = no_docs;
    name = record { namespace = codes "foo"; name = codes "foo"; version = None };
    worlds = [];
    interfaces = interfaces;
    types = user_types ptr alloc;
    foreign_deps = (record { namespace = codes "a"; name = codes "b"; version = None }, (codes "c", (entry.Interface 0, Unknown ∷ [])) ∷ []) ∷ [];
    name_span = at 8 15;
    unknown_type_spans = at 42 43 ∷ [];
    foreign_dep_spans = at 35 38 ∷ [];
    required_resource_types = (0, at 64 65) ∷ [];
  }

  package_made : Makes (user_files ptr alloc) made
  package_made = record {
    name = refl;
    name_span = refl;
    docs = refl;
    deps = refl;
    dep_spans = refl;
    unknown = refl;
    items = items_sorted (user_files ptr alloc);
    in_order = items_in_order (user_files ptr alloc) refl;
    order = names_sorted (user_files ptr alloc);
    by_address = names_by_address (user_files ptr alloc);
    names_in_order = names_in (user_files ptr alloc) (names_sorted (user_files ptr alloc)) (sorted_order (rows_of (scope_names (item_of ptr alloc (user ptr alloc)))) refl, tt);
    same = same_key;
    gives = same_key_determines;
    seen = seen;
    first = refl;
    id = place_among seen;
    places = λ k. refl;
    count = refl;
    types = entries;
    interfaces = refl;
    worlds = refl;
    required = user_required ptr alloc;
  }

  abbrev listing : List ℕ
  listing = codes "package foo:foo\ntypes 3\n#0 i0.r = unknown\n#1 i1.r = alias #0\n#2 - = borrow #1\ninterfaces 2\ni0 -\n  r = type #0\ni1 i\n  r = type #1\n  f = func(x:#2)\nworlds 0\nforeign 1\na:b c i0 1\n"

  listed : listing ≡ listing_text made []
  unfolding digits
  listed = refl

  pub borrowed_output : IsOutput text 0 listing
  borrowed_output = OfSources (lit≤ tt) (own_source ∷ []) (record { are = refl }) (Listing (Tree tree ∷ []) faultless made [] (record { whole = package_made; each = tt }) refl listed)
