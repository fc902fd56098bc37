-- A package with two fields of one type, and its listing.
use Rattle.std.proofs.Common.{◌≡◌, ℕ, zero, suc, List, [], ◌∷◌, Some, None, refl, lit<, lit≤}
use Rattle.std.specs.Fmt.{digits}
use Rattle.wit_arena.proofs.Common.{Defined, Global, IsEntryOf, Makes, Occurrence, SourceFile, TypeDef, UnresolvedPackage, codes, contains_at, interface_scopes, keys, owner_at, required_none, rows_of, same_key, same_key_determines, scope, scope_names, slice_get, take, world_scopes}
use denote.RawPtr.{Ptr}
use Rattle.wit_lex.specs.declared.source.Source.{Source}
use Rattle.wit_grammar.specs.Laws.{IsReadAs}
use Rattle.wit_grammar.specs.Seen.{see_file}
use Rattle.wit_grammar.proofs.Opened.{all_rules, reading}
use Rattle.wit_grammar.proofs.Whole.{read_is_spelled}
use Rattle.wit_types.specs.declared.types.«Type».TheVariants as type
use Rattle.wit_types.specs.declared.types.TypeDefKind.TheVariants as kind
use Rattle.wit_listing.specs.Listing.{listing_text}
use Rattle.wit_groups.specs.SourceFaults.{AreFaultless, Tree}
use Rattle.wit_groups.proofs.Pushes.{a_walk}
use Rattle.wit_tool.specs.Output.{IsOutput, OfSources, Listing}
use Rattle.wit_meaning_examples.proofs.Examples.{at, vec, file, files, item, p, list_seen, p_seen, list_entry, p_entry, i_entry, package_with}
use Rattle.wit_output_rows.proofs.Making.{items_sorted, items_in_order, names_sorted, names_by_address, names_in, place_among, AtPlace, by_places}
use Rattle.wit_output_rows.proofs.Sorting.{sorted_order}
use Rattle.wit_output_rows.proofs.Values.{source}
use Rattle.wit_output_rows.proofs.Walks.{one_by_path, walks_to, joined_none}

-- wherever texts and vectors lie
module _ (ptr : Ptr) (alloc : Global) where
  -- two fields of one type
  abbrev fields_text : List ℕ
  fields_text = codes "package foo:foo; interface i { record p { a: list<u8>, b: list<u8> } }"

  abbrev fields_source : Source
  fields_source = source ptr alloc (codes "stdin.wit") fields_text 0 refl refl (lit< tt) (lit< tt) (lit< tt)

  abbrev fields_tree : SourceFile
  fields_tree = record { file = file ptr alloc; nested = vec ptr alloc [] (lit< tt) }

  fields_read : IsReadAs fields_text 0 (see_file fields_tree)
  unfolding all_rules reading
  fields_read = (record { source = fields_text; offset = 0; place = 70 }, refl)

  fields_faultless : AreFaultless (fields_source ∷ []) (Tree fields_tree ∷ [])
  fields_faultless = record {
    ordered = fields_source ∷ [];
    by_path = one_by_path fields_source;
    walk = a_walk.0;
    walks = a_walk.1;
    is = (read_is_spelled fields_text 0 (see_file fields_tree) fields_read, joined_none a_walk.0 (fields_tree ∷ []) (walks_to a_walk.0 a_walk.1 (files ptr alloc) None (λ steps. refl)) refl);
  }

  abbrev fields_types : List TypeDef
  fields_types = list_entry ptr alloc ∷ p_entry ptr alloc ∷ []

  abbrev fields_package : UnresolvedPackage
  fields_package = package_with ptr alloc (i_entry ptr alloc ∷ []) fields_types

  -- the second list is the first one again
  abbrev fields_seen : List Occurrence
  fields_seen = list_seen ptr alloc (at 45 49) ∷ p_seen ptr alloc ∷ []

  abbrev IsFieldsEntry : ℕ → Occurrence → TypeDef → Type 0
  IsFieldsEntry n m e = IsEntryOf (scope (files ptr alloc)) (owner_at (interface_scopes (files ptr alloc) (items_sorted (files ptr alloc))) (world_scopes (files ptr alloc) (items_sorted (files ptr alloc)))) (place_among fields_seen) (take n fields_types) m.key m.span m.given e

  fields_entries : (n : ℕ) (m : Occurrence) (e : TypeDef) → slice_get fields_seen n ≡ Some m → slice_get fields_types n ≡ Some e → IsFieldsEntry n m e
  fields_entries = by_places IsFieldsEntry fields_seen fields_types each
    where
      each : (n : ℕ) → AtPlace IsFieldsEntry n (slice_get fields_seen n) (slice_get fields_types n)
      each zero = (kind.List type.U8, refl, refl)
      each (suc zero) = (Defined (p ptr alloc), (p_entry ptr alloc).kind, contains_at (scope_names (item ptr alloc)) 0 (Defined (p ptr alloc)) refl, refl, refl, refl)
      each (suc (suc n)) = tt

  fields_made : Makes (files ptr alloc) fields_package
  fields_made = record {
    name = refl;
    name_span = refl;
    docs = refl;
    deps = refl;
    dep_spans = refl;
    unknown = refl;
    items = items_sorted (files ptr alloc);
    in_order = items_in_order (files ptr alloc) refl;
    order = names_sorted (files ptr alloc);
    by_address = names_by_address (files ptr alloc);
    names_in_order = names_in (files ptr alloc) (names_sorted (files ptr alloc)) (sorted_order (rows_of (scope_names (item ptr alloc))) refl, tt);
    same = same_key;
    gives = same_key_determines;
    seen = fields_seen;
    first = refl;
    id = place_among fields_seen;
    places = λ k. refl;
    count = refl;
    types = fields_entries;
    interfaces = refl;
    worlds = refl;
    required = required_none (files ptr alloc) (keys fields_seen);
  }

  abbrev fields_listing : List ℕ
  fields_listing = codes "package foo:foo\ntypes 2\n#0 - = list u8\n#1 i0.p = record a:#0 b:#0\ninterfaces 1\ni0 i\n  p = type #1\nworlds 0\nforeign 0\n"

  fields_listed : fields_listing ≡ listing_text fields_package []
  unfolding digits
  fields_listed = refl

  pub fields_output : IsOutput fields_text 0 fields_listing
  fields_output = OfSources (lit≤ tt) (fields_source ∷ []) (record { are = refl }) (Listing (Tree fields_tree ∷ []) fields_faultless fields_package [] (record { whole = fields_made; each = tt }) refl fields_listed)
