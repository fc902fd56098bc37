-- A package whose interfaces and names come in other orders than they are written in, and its listing.
use Rattle.std.proofs.Common.{◌≡◌, ℕ, zero, suc, List, [], ◌∷◌, None, Some, refl, lit<, lit≤}
use Rattle.std.specs.Fmt.{digits}
use Rattle.wit_arena.proofs.Common.{Defined, Global, InterfaceNamed, IsEntryOf, Makes, Occurrence, SourceFile, TypeDef, UnresolvedPackage, Used, codes, contains_at, interface_scopes, keys, owner_at, required_none, rows_of, same_key, same_key_determines, scope, scope_names, slice_get, take, world_scopes}
use denote.RawPtr.{Ptr}
use Rattle.wit_lex.specs.declared.source.Source.{Source}
use Rattle.wit_grammar.specs.Laws.{IsReadAs}
use Rattle.wit_grammar.specs.Seen.{see_file}
use Rattle.wit_grammar.proofs.Opened.{all_rules, reading}
use Rattle.wit_grammar.proofs.Whole.{read_is_spelled}
use Rattle.wit_types.specs.declared.types.«Type».TheVariants as type
use Rattle.wit_types.specs.declared.types.TypeDefKind.TheVariants as kind
use Rattle.wit_listing.specs.Listing.{listing_text}
use Rattle.wit_groups.specs.SourceFaults.{AreFaultless, Tree}
use Rattle.wit_groups.proofs.Pushes.{a_walk}
use Rattle.wit_tool.specs.Output.{IsOutput, OfSources, Listing}
use Rattle.wit_meaning_examples.proofs.Examples.{a, at, b, name_seen, package_with, t, used_file, used_files, used_interfaces, used_t, used_types, user_item, vec, x_item}
use Rattle.wit_output_rows.proofs.Making.{items_sorted, items_in_order, names_sorted, names_by_address, names_in, place_among, AtPlace, by_places}
use Rattle.wit_output_rows.proofs.Sorting.{sorted_order}
use Rattle.wit_output_rows.proofs.Values.{source}
use Rattle.wit_output_rows.proofs.Walks.{one_by_path, walks_to, joined_none}

-- wherever texts and vectors lie
module _ (ptr : Ptr) (alloc : Global) where
  abbrev text : List ℕ
  text = codes "package foo:foo; interface i { type a = t; type b = u8; use x.{t}; } interface x { type t = u32; }"

  abbrev own_source : Source
  own_source = source ptr alloc (codes "stdin.wit") text 0 refl refl (lit< tt) (lit< tt) (lit< tt)

  abbrev tree : SourceFile
  tree = record { file = used_file ptr alloc; nested = vec ptr alloc [] (lit< tt) }

  is_read : IsReadAs text 0 (see_file tree)
  unfolding all_rules reading
  is_read = (record { source = text; offset = 0; place = 98 }, refl)

  faultless : AreFaultless (own_source ∷ []) (Tree tree ∷ [])
  faultless = record {
    ordered = own_source ∷ [];
    by_path = one_by_path own_source;
    walk = a_walk.0;
    walks = a_walk.1;
    is = (read_is_spelled text 0 (see_file tree) is_read, joined_none a_walk.0 (tree ∷ []) (walks_to a_walk.0 a_walk.1 (used_files ptr alloc) None (λ steps. refl)) refl);
  }

  abbrev made : UnresolvedPackage
  made = package_with ptr alloc (used_interfaces ptr alloc) (used_types ptr alloc)

  -- x's t occurs before i's, which occurs before b and a
  abbrev seen : List Occurrence
  seen = name_seen ptr alloc (codes "x") (codes "t") (at 88 89) ∷ name_seen ptr alloc (codes "i") (codes "t") (at 63 64) ∷ name_seen ptr alloc (codes "i") (codes "b") (at 48 49) ∷ name_seen ptr alloc (codes "i") (codes "a") (at 36 37) ∷ []

  abbrev IsEntryHere : ℕ → Occurrence → TypeDef → Type 0
  IsEntryHere n m e = IsEntryOf (scope (used_files ptr alloc)) (owner_at (interface_scopes (used_files ptr alloc) (items_sorted (used_files ptr alloc))) (world_scopes (used_files ptr alloc) (items_sorted (used_files ptr alloc)))) (place_among seen) (take n (used_types ptr alloc)) m.key m.span m.given e

  entries : (n : ℕ) (m : Occurrence) (e : TypeDef) → slice_get seen n ≡ Some m → slice_get (used_types ptr alloc) n ≡ Some e → IsEntryHere n m e
  entries = by_places IsEntryHere seen (used_types ptr alloc) each
    where
      each : (n : ℕ) → AtPlace IsEntryHere n (slice_get seen n) (slice_get (used_types ptr alloc) n)
      each zero = (Defined (t ptr alloc), kind.Type_ type.U32, contains_at (scope_names (x_item ptr alloc)) 0 (Defined (t ptr alloc)) refl, refl, refl, refl)
      each (suc zero) = (Used (InterfaceNamed (codes "x")) [] (used_t ptr alloc), kind.Type_ (type.Id 0), contains_at (scope_names (user_item ptr alloc)) 2 (Used (InterfaceNamed (codes "x")) [] (used_t ptr alloc)) refl, refl, refl, refl)
      each (suc (suc zero)) = (Defined (b ptr alloc), kind.Type_ type.U8, contains_at (scope_names (user_item ptr alloc)) 1 (Defined (b ptr alloc)) refl, refl, refl, refl)
      each (suc (suc (suc zero))) = (Defined (a ptr alloc), kind.Type_ (type.Id 1), contains_at (scope_names (user_item ptr alloc)) 0 (Defined (a ptr alloc)) refl, refl, refl, refl)
      each (suc (suc (suc (suc n)))) = tt

  package_made : Makes (used_files ptr alloc) made
  package_made = record {
    name = refl;
    name_span = refl;
    docs = refl;
    deps = refl;
    dep_spans = refl;
    unknown = refl;
    items = items_sorted (used_files ptr alloc);
    in_order = items_in_order (used_files ptr alloc) refl;
    order = names_sorted (used_files ptr alloc);
    by_address = names_by_address (used_files ptr alloc);
    names_in_order = names_in (used_files ptr alloc) (names_sorted (used_files ptr alloc)) (sorted_order (rows_of (scope_names (user_item ptr alloc))) refl, (sorted_order (rows_of (scope_names (x_item ptr alloc))) refl, tt));
    same = same_key;
    gives = same_key_determines;
    seen = seen;
    first = refl;
    id = place_among seen;
    places = λ k. refl;
    count = refl;
    types = entries;
    interfaces = refl;
    worlds = refl;
    required = required_none (used_files ptr alloc) (keys seen);
  }

  abbrev listing : List ℕ
  listing = codes "package foo:foo\ntypes 4\n#0 i0.t = alias u32\n#1 i1.t = alias #0\n#2 i1.b = alias u8\n#3 i1.a = alias #1\ninterfaces 2\ni0 x\n  t = type #0\ni1 i\n  t = type #1\n  b = type #2\n  a = type #3\nworlds 0\nforeign 0\n"

  listed : listing ≡ listing_text made []
  unfolding digits
  listed = refl

  pub ordered_output : IsOutput text 0 listing
  ordered_output = OfSources (lit≤ tt) (own_source ∷ []) (record { are = refl }) (Listing (Tree tree ∷ []) faultless made [] (record { whole = package_made; each = tt }) refl listed)
