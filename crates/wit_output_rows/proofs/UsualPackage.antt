-- A package as it is usually written, and its listing.
use Rattle.std.proofs.Common.{◌≡◌, ℕ, zero, suc, List, [], ◌∷◌, ◌++◌, Some, None, refl, sym, ap, lit<, lit≤}
use Rattle.std.specs.Fmt.{digits}
use Rattle.wit_arena.proofs.Common.{Borrow, Defined, ForeignName, Global, IsEntryOf, Makes, Metadata, Occurrence, SourceFile, TypeDef, Used, codes, contains_at, foreign_interface, foreign_interfaces, interface_scopes, keys, map, own_interface, own_interfaces, owner_at, required_none, rows_of, same_key, same_key_determines, scope, scope_names, slice_get, take, world_scopes}
use denote.RawPtr.{Ptr}
use Rattle.wit_lex.specs.declared.source.Source.{Source}
use Rattle.wit_grammar.proofs.Examples.{this_tree}
use Rattle.wit_types.specs.declared.types.«Type».TheVariants as type
use Rattle.wit_types.specs.declared.types.TypeDefKind.TheVariants as kind
use Rattle.wit_listing.specs.Listing.{listing_text}
use Rattle.wit_groups.proofs.Pushes.{a_walk}
use Rattle.wit_groups.specs.SourceFaults.{AreFaultless, Tree}
use Rattle.wit_tool.specs.Output.{IsOutput, OfSources, Listing}
use Rattle.wit_meaning_examples.proofs.Examples.{vec}
use Rattle.wit_meaning_examples.proofs.UsualExamples.{io_error, used_error, input, files, file, streams_item, w_item, seen, types, whole, io_interface, streams_interface, stated_of_streams}
use Rattle.wit_output_rows.proofs.Making.{items_sorted, items_in_order, names_sorted, names_by_address, names_in, place_among, AtPlace, by_places}
use Rattle.wit_output_rows.proofs.Sorting.{sorted_order}
use Rattle.wit_output_rows.proofs.Values.{source}
use Rattle.wit_output_rows.proofs.Walks.{one_by_path, walks_to, joined_none}

abbrev text : List ℕ
text =
    codes "package wasi:demo@0.2.0;\n\n/// Streams.\n@since(version = 0.2.0)\ninterface streams {\n  use wasi:io/error@0.2.0.{error};\n"
    ++ codes "  resource input {\n    read: func(len: u64) -> result<list<u8>, error>;\n  }\n}\n"
    ++ codes "world w {\n  import streams;\n  export run: func() -> result;\n}\n"

abbrev listing : List ℕ
listing =
    codes "package wasi:demo@0.2.0\ntypes 7\n#0 i0.error = unknown\n#1 i1.error = alias #0\n#2 i1.input = resource\n#3 - = borrow #2\n#4 - = list u8\n"
    ++ codes "#5 - = result #4 #1\n#6 - = result _ _\ninterfaces 2\ni0 -\n  error = type #0\ni1 streams since 0.2.0\n  error = type #1\n  input = type #2\n"
    ++ codes "  [method]input.read = func(self:#3, len:u64) -> #5\nworlds 1\nw0 w\n  import interface-1 = interface i1\n  export run = func() -> #6\n"
    ++ codes "foreign 1\nwasi:io@0.2.0 error i0 1\n"

-- wherever texts and vectors lie
module _ (ptr : Ptr) (alloc : Global) where
  abbrev own_source : Source
  own_source = source ptr alloc (codes "stdin.wit") text 0 refl refl (lit< tt) (lit< tt) (lit< tt)

  abbrev tree : SourceFile
  tree = record { file = file ptr alloc; nested = vec ptr alloc [] (lit< tt) }

  faultless : AreFaultless (own_source ∷ []) (Tree tree ∷ [])
  faultless = record {
    ordered = own_source ∷ [];
    by_path = one_by_path own_source;
    walk = a_walk.0;
    walks = a_walk.1;
    is = (this_tree, joined_none a_walk.0 (tree ∷ []) (walks_to a_walk.0 a_walk.1 (files ptr alloc) None (λ steps. refl)) refl);
  }

  abbrev IsEntryHere : ℕ → Occurrence → TypeDef → Type 0
  IsEntryHere n m e = IsEntryOf (scope (files ptr alloc)) (owner_at (interface_scopes (files ptr alloc) (items_sorted (files ptr alloc))) (world_scopes (files ptr alloc) (items_sorted (files ptr alloc)))) (place_among (seen ptr alloc)) (take n (types ptr alloc)) m.key m.span m.given e

  entries : (n : ℕ) (m : Occurrence) (e : TypeDef) → slice_get (seen ptr alloc) n ≡ Some m → slice_get (types ptr alloc) n ≡ Some e → IsEntryHere n m e
  entries = by_places IsEntryHere (seen ptr alloc) (types ptr alloc) each
    where
      each : (n : ℕ) → AtPlace IsEntryHere n (slice_get (seen ptr alloc) n) (slice_get (types ptr alloc) n)
      each zero = (ForeignName [] (used_error ptr alloc).name, kind.Unknown, contains_at (scope (files ptr alloc) io_error) 0 (ForeignName [] (used_error ptr alloc).name) refl, refl, refl, refl)
      each (suc zero) = (Used io_error [] (used_error ptr alloc), kind.Type_ (type.Id 0), contains_at (scope_names (streams_item ptr alloc)) 0 (Used io_error [] (used_error ptr alloc)) refl, refl, refl, refl)
      each (suc (suc zero)) = (Defined (input ptr alloc), kind.Resource, contains_at (scope_names (streams_item ptr alloc)) 1 (Defined (input ptr alloc)) refl, refl, refl, refl)
      each (suc (suc (suc zero))) = (kind.Handle (Borrow 2), refl, refl)
      each (suc (suc (suc (suc zero)))) = (kind.List type.U8, refl, refl)
      each (suc (suc (suc (suc (suc zero))))) = (kind.Result (record { ok = Some (type.Id 4); err = Some (type.Id 1) }), refl, refl)
      each (suc (suc (suc (suc (suc (suc zero)))))) = (kind.Result (record { ok = None; err = None }), refl, refl)
      each (suc (suc (suc (suc (suc (suc (suc n))))))) = tt

  -- white space goes from docs by a definition that is not opened
  interfaces_made : (whole ptr alloc).interfaces ≡ map (foreign_interface (files ptr alloc) (place_among (seen ptr alloc))) (foreign_interfaces (files ptr alloc)) ++ map (own_interface (place_among (seen ptr alloc)) (names_sorted (files ptr alloc))) (own_interfaces (items_sorted (files ptr alloc)))
  interfaces_made = ap (λ (n : Metadata). io_interface ptr alloc ∷ streams_interface ptr alloc n ∷ []) (sym (stated_of_streams ptr alloc))

  package_made : Makes (files ptr alloc) (whole ptr alloc)
  package_made = record {
    name = refl;
    name_span = refl;
    docs = refl;
    deps = refl;
    dep_spans = refl;
    unknown = refl;
    items = items_sorted (files ptr alloc);
    in_order = items_in_order (files ptr alloc) refl;
    order = names_sorted (files ptr alloc);
    by_address = names_by_address (files ptr alloc);
    names_in_order = names_in (files ptr alloc) (names_sorted (files ptr alloc)) (sorted_order (rows_of (scope_names (streams_item ptr alloc))) refl, (sorted_order (rows_of (scope_names (w_item ptr alloc))) refl, tt));
    same = same_key;
    gives = same_key_determines;
    seen = seen ptr alloc;
    first = refl;
    id = place_among (seen ptr alloc);
    places = λ k. refl;
    count = refl;
    types = entries;
    interfaces = interfaces_made;
    worlds = refl;
    required = required_none (files ptr alloc) (keys (seen ptr alloc));
  }

  listed : listing ≡ listing_text (whole ptr alloc) []
  unfolding digits
  listed = refl

  pub usual_output : IsOutput text 0 listing
  usual_output = OfSources (lit≤ tt) (own_source ∷ []) (record { are = refl }) (Listing (Tree tree ∷ []) faultless (whole ptr alloc) [] (record { whole = package_made; each = tt }) refl listed)
