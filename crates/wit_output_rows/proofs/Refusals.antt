-- Texts that are refused, each with the line that is printed of it.
use Rattle.std.proofs.Common.{ℕ, List, [], ◌∷◌, Option, Some, None, refl, lit<, lit≤}
use Rattle.std.specs.Fmt.{digits}
use Rattle.wit_walk.proofs.Common.{AstItem}
use Rattle.wit_arena.proofs.Common.{Fault, Global, Id, InterfaceItem, Plain, SourceFile, Span, Vec, Version, codes, fault, fault_in, mismatch, missing_type_at, package_of}
use denote.RawPtr.{Ptr}
use Rattle.wit_type_tree.specs.declared.types.«Type».TheVariants as written
use Rattle.wit_tree.specs.declared.tree.AstItem.TheVariants as ast
use Rattle.wit_tree.specs.declared.tree.InterfaceItem.TheVariants.{TypeDef as TypeItem}
use Rattle.wit_tree.specs.declared.tree.PackageName.{PackageName as Header}
use Rattle.wit_lex.specs.declared.fault.ReadFault.TheVariants.{Comment, Token}
use Rattle.wit_lex.specs.declared.source.Source.{Source}
use Rattle.wit_grammar.specs.Laws.{IsReadAs, StopsAt}
use Rattle.wit_grammar.specs.Seen.{see_file}
use Rattle.wit_grammar.proofs.Opened.{all_rules, reading}
use Rattle.wit_grammar.proofs.Whole.{read_is_spelled}
use Rattle.wit_groups.specs.SourceFaults.{IsFirstOfSources, Stop, Tree, stop_fault}
use Rattle.wit_groups.proofs.Pushes.{a_walk}
use Rattle.wit_tool.specs.FaultLine.{IsFaultLine}
use Rattle.wit_tool.specs.Output.{IsOutput, OfSources, Line}
use Rattle.wit_meaning_examples.proofs.Examples.{at, id, vec, no_comments, unstated, header}
use Rattle.wit_output_rows.proofs.Lines.{located, only_first, place, placed, stopped_first}
use Rattle.wit_output_rows.proofs.Values.{source}
use Rattle.wit_output_rows.proofs.Walks.{none_by_path, two_by_path, walks_to, joined_fault}

-- no text
abbrev no_header : Fault
no_header = fault 4 (at 0 0)

abbrev headerless_line : List ℕ
headerless_line = codes "error E4 - \"\": no `package` header was found in any WIT file for this package\n"

-- a fault without a place
headerless : (sources : List Source) → IsFaultLine sources no_header headerless_line
unfolding digits
headerless sources = (None, (λ placed i s present lies. (let f : ⊥ = cc in f)), refl)

nothing_first : IsFirstOfSources [] [] no_header
nothing_first = record { ordered = []; by_path = none_by_path; walk = a_walk.0; walks = a_walk.1; is = joined_fault a_walk.0 [] no_header (walks_to a_walk.0 a_walk.1 [] (Some no_header) (λ steps. refl)) }

pub nothing_output : IsOutput [] 1 headerless_line
nothing_output = OfSources (lit≤ tt) [] (record { are = refl }) (Line [] no_header nothing_first refl (headerless []))

-- wherever texts and vectors lie
module _ (ptr : Ptr) (alloc : Global) where
  abbrev file_of : Option Header → Vec AstItem Global → SourceFile
  file_of named items = record { file = record { package_id = named; decl_list = record { items = items } }; nested = vec ptr alloc [] (lit< tt) }

  -- an interface in a file
  abbrev file_with : Option Header → Id → Vec InterfaceItem Global → SourceFile
  file_with named name items = file_of named (vec ptr alloc (ast.Interface (record { docs = no_comments ptr alloc; attributes = unstated ptr alloc; name = name; items = items }) ∷ []) (lit< tt))

  -- a type that is another word for a name
  abbrev alias : Span → Id → Vec InterfaceItem Global
  alias span name = vec ptr alloc (TypeItem (record { docs = no_comments ptr alloc; attributes = unstated ptr alloc; name = id ptr alloc (codes "t") span refl; body = Plain (written.Name name) }) ∷ []) (lit< tt)

  -- an interface without a header
  abbrev alone : List ℕ
  alone = codes "interface i {}"

  abbrev alone_source : Source
  alone_source = source ptr alloc (codes "stdin.wit") alone 0 refl refl (lit< tt) (lit< tt) (lit< tt)

  abbrev alone_tree : SourceFile
  alone_tree = file_with None (id ptr alloc (codes "i") (at 10 11) refl) (vec ptr alloc [] (lit< tt))

  alone_read : IsReadAs alone 0 (see_file alone_tree)
  unfolding all_rules reading
  alone_read = (record { source = alone; offset = 0; place = 14 }, refl)

  alone_first : IsFirstOfSources (alone_source ∷ []) (Tree alone_tree ∷ []) no_header
  alone_first = only_first alone_source alone_tree no_header (read_is_spelled alone 0 (see_file alone_tree) alone_read) refl (walks_to a_walk.0 a_walk.1 (alone_tree.file ∷ []) (Some no_header) (λ steps. refl))

  pub headerless_output : IsOutput alone 1 headerless_line
  headerless_output = OfSources (lit≤ tt) (alone_source ∷ []) (record { are = refl }) (Line (Tree alone_tree ∷ []) no_header alone_first refl (headerless (alone_source ∷ [])))

  -- a text that ends too early
  abbrev cut : List ℕ
  cut = codes "package foo:foo; interface i {"

  abbrev cut_source : Source
  cut_source = source ptr alloc (codes "stdin.wit") cut 0 refl refl (lit< tt) (lit< tt) (lit< tt)

  cut_stops : StopsAt cut 0 Token 30 30
  unfolding all_rules reading
  cut_stops = refl

  cut_line : IsFaultLine (cut_source ∷ []) (stop_fault 0 Token 30 30) (codes "error E47 stdin.wit \"\": unexpected token\n")
  unfolding digits
  cut_line = (Some (place (codes "stdin.wit") []), placed (cut_source ∷ []) 0 cut_source 47 (at 30 30) (codes "stdin.wit") [] refl refl (located cut_source (at 30 30) refl (lit≤ tt) (lit≤ tt) (lit≤ tt) refl), refl)

  pub cut_output : IsOutput cut 1 (codes "error E47 stdin.wit \"\": unexpected token\n")
  cut_output = OfSources (lit≤ tt) (cut_source ∷ []) (record { are = refl }) (Line (Stop (stop_fault 0 Token 30 30) ∷ []) (stop_fault 0 Token 30 30) (stopped_first cut_source Token 30 30 cut_stops) refl cut_line)

  -- a comment that does not end
  abbrev endless : List ℕ
  endless = codes "/* a"

  abbrev endless_source : Source
  endless_source = source ptr alloc (codes "stdin.wit") endless 0 refl refl (lit< tt) (lit< tt) (lit< tt)

  endless_stops : StopsAt endless 0 Comment 0 2
  unfolding all_rules reading
  endless_stops = refl

  endless_line : IsFaultLine (endless_source ∷ []) (stop_fault 0 Comment 0 2) (codes "error E48 stdin.wit \"/*\": unterminated block comment\n")
  unfolding digits
  endless_line = (Some (place (codes "stdin.wit") (codes "/*")), placed (endless_source ∷ []) 0 endless_source 48 (at 0 2) (codes "stdin.wit") (codes "/*") refl refl (located endless_source (at 0 2) refl (lit≤ tt) (lit≤ tt) (lit≤ tt) refl), refl)

  pub endless_output : IsOutput endless 1 (codes "error E48 stdin.wit \"/*\": unterminated block comment\n")
  endless_output = OfSources (lit≤ tt) (endless_source ∷ []) (record { are = refl }) (Line (Stop (stop_fault 0 Comment 0 2) ∷ []) (stop_fault 0 Comment 0 2) (stopped_first endless_source Comment 0 2 endless_stops) refl endless_line)

  -- the old word of a type
  abbrev old_word : List ℕ
  old_word = codes "package foo:foo; interface i { type t = float32; }"

  abbrev old_source : Source
  old_source = source ptr alloc (codes "stdin.wit") old_word 0 refl refl (lit< tt) (lit< tt) (lit< tt)

  abbrev float32 : Id
  float32 = id ptr alloc (codes "float32") (at 40 47) refl

  abbrev old_tree : SourceFile
  old_tree = file_with (Some (header ptr alloc)) (id ptr alloc (codes "i") (at 27 28) refl) (alias (at 36 37) float32)

  old_read : IsReadAs old_word 0 (see_file old_tree)
  unfolding all_rules reading
  old_read = (record { source = old_word; offset = 0; place = 50 }, refl)

  old_first : IsFirstOfSources (old_source ∷ []) (Tree old_tree ∷ []) (missing_type_at float32)
  old_first = only_first old_source old_tree (missing_type_at float32) (read_is_spelled old_word 0 (see_file old_tree) old_read) refl (walks_to a_walk.0 a_walk.1 (old_tree.file ∷ []) (Some (missing_type_at float32)) (λ steps. refl))

  abbrev old_words : List ℕ
  old_words = codes "error E15 stdin.wit \"float32\": type `float32` does not exist; the `float32` type has been renamed to `f32` and is no longer accepted, but the `WIT_REQUIRE_F32_F64=0` environment variable can be used to temporarily disable this error\n"

  old_line : IsFaultLine (old_source ∷ []) (missing_type_at float32) old_words
  unfolding digits
  old_line = (Some (place (codes "stdin.wit") (codes "float32")), placed (old_source ∷ []) 0 old_source 15 (at 40 47) (codes "stdin.wit") (codes "float32") refl refl (located old_source (at 40 47) refl (lit≤ tt) (lit≤ tt) (lit≤ tt) refl), refl)

  pub hint_output : IsOutput old_word 1 old_words
  hint_output = OfSources (lit≤ tt) (old_source ∷ []) (record { are = refl }) (Line (Tree old_tree ∷ []) (missing_type_at float32) old_first refl old_line)

  -- two sources, the second of which has a name that is missing
  abbrev first_text : List ℕ
  first_text = codes "package foo:foo; interface a {}\n"

  abbrev second_text : List ℕ
  second_text = codes "interface b { type t = nonexistent; }"

  abbrev first_source : Source
  first_source = source ptr alloc (codes "a.wit") first_text 0 refl refl (lit< tt) (lit< tt) (lit< tt)

  abbrev second_source : Source
  second_source = source ptr alloc (codes "b.wit") second_text 33 refl refl (lit< tt) (lit< tt) (lit< tt)

  abbrev nonexistent : Id
  nonexistent = id ptr alloc (codes "nonexistent") (at 56 67) refl

  abbrev first_tree : SourceFile
  first_tree = file_with (Some (header ptr alloc)) (id ptr alloc (codes "a") (at 27 28) refl) (vec ptr alloc [] (lit< tt))

  abbrev second_tree : SourceFile
  second_tree = file_with None (id ptr alloc (codes "b") (at 43 44) refl) (alias (at 52 53) nonexistent)

  first_read : IsReadAs first_text 0 (see_file first_tree)
  unfolding all_rules reading
  first_read = (record { source = first_text; offset = 0; place = 31 }, refl)

  second_read : IsReadAs second_text 33 (see_file second_tree)
  unfolding all_rules reading
  second_read = (record { source = second_text; offset = 33; place = 37 }, refl)

  abbrev missing : Fault
  missing = missing_type_at nonexistent

  missing_first : IsFirstOfSources (first_source ∷ second_source ∷ []) (Tree first_tree ∷ Tree second_tree ∷ []) missing
  missing_first = record {
    ordered = first_source ∷ second_source ∷ [];
    by_path = two_by_path first_source second_source refl;
    walk = a_walk.0;
    walks = a_walk.1;
    is = (
      read_is_spelled first_text 0 (see_file first_tree) first_read,
      (
        read_is_spelled second_text 33 (see_file second_tree) second_read,
        joined_fault a_walk.0 (first_tree ∷ second_tree ∷ []) missing (walks_to a_walk.0 a_walk.1 (first_tree.file ∷ second_tree.file ∷ []) (Some missing) (λ steps. refl)),
      ),
    );
  }

  abbrev missing_words : List ℕ
  missing_words = codes "error E15 b.wit \"nonexistent\": type `nonexistent` does not exist\n"

  missing_line : IsFaultLine (first_source ∷ second_source ∷ []) missing missing_words
  unfolding digits
  missing_line = (Some (place (codes "b.wit") (codes "nonexistent")), placed (first_source ∷ second_source ∷ []) 1 second_source 15 (at 56 67) (codes "b.wit") (codes "nonexistent") refl refl (located second_source (at 56 67) refl (lit≤ tt) (lit≤ tt) (lit≤ tt) refl), refl)

  pub missing_type_output : IsOutput (codes "=== a.wit\npackage foo:foo; interface a {}\n=== b.wit\ninterface b { type t = nonexistent; }") 1 missing_words
  missing_type_output = OfSources (lit≤ tt) (first_source ∷ second_source ∷ []) (record { are = refl }) (Line (Tree first_tree ∷ Tree second_tree ∷ []) missing missing_first refl missing_line)

  -- two sources with headers of two packages
  abbrev short_text : List ℕ
  short_text = codes "package foo:foo;\n"

  abbrev other_text : List ℕ
  other_text = codes "package foo:foo@1.0.0;"

  abbrev short_source : Source
  short_source = source ptr alloc (codes "a.wit") short_text 0 refl refl (lit< tt) (lit< tt) (lit< tt)

  abbrev other_source : Source
  other_source = source ptr alloc (codes "b.wit") other_text 18 refl refl (lit< tt) (lit< tt) (lit< tt)

  abbrev version : Version
  version = record { major = 1; minor = 0; patch = 0; pre = record { identifier = None }; build = record { identifier = None } }

  abbrev versioned : Header
  versioned = record { docs = no_comments ptr alloc; span = at 26 39; namespace = id ptr alloc (codes "foo") (at 26 29) refl; name = id ptr alloc (codes "foo") (at 30 33) refl; version = Some version }

  abbrev short_tree : SourceFile
  short_tree = file_of (Some (header ptr alloc)) (vec ptr alloc [] (lit< tt))

  abbrev other_tree : SourceFile
  other_tree = file_of (Some versioned) (vec ptr alloc [] (lit< tt))

  short_read : IsReadAs short_text 0 (see_file short_tree)
  unfolding all_rules reading
  short_read = (record { source = short_text; offset = 0; place = 16 }, refl)

  other_read : IsReadAs other_text 18 (see_file other_tree)
  unfolding all_rules reading
  other_read = (record { source = other_text; offset = 18; place = 22 }, refl)

  abbrev other_package : Fault
  other_package = fault_in 1 (at 26 39) (mismatch (package_of versioned) (package_of (header ptr alloc)))

  other_first : IsFirstOfSources (short_source ∷ other_source ∷ []) (Tree short_tree ∷ Tree other_tree ∷ []) other_package
  other_first = record {
    ordered = short_source ∷ other_source ∷ [];
    by_path = two_by_path short_source other_source refl;
    walk = a_walk.0;
    walks = a_walk.1;
    is = (read_is_spelled short_text 0 (see_file short_tree) short_read, (read_is_spelled other_text 18 (see_file other_tree) other_read, refl));
  }

  abbrev other_words : List ℕ
  other_words = codes "error E1 b.wit \"foo:foo@1.0.0\": package identifier `foo:foo@1.0.0` does not match previous package name of `foo:foo`\n"

  other_line : IsFaultLine (short_source ∷ other_source ∷ []) other_package other_words
  unfolding digits
  other_line = (Some (place (codes "b.wit") (codes "foo:foo@1.0.0")), placed (short_source ∷ other_source ∷ []) 1 other_source 1 (at 26 39) (codes "b.wit") (codes "foo:foo@1.0.0") refl refl (located other_source (at 26 39) refl (lit≤ tt) (lit≤ tt) (lit≤ tt) refl), refl)

  pub other_package_output : IsOutput (codes "=== a.wit\npackage foo:foo;\n=== b.wit\npackage foo:foo@1.0.0;") 1 other_words
  other_package_output = OfSources (lit≤ tt) (short_source ∷ other_source ∷ []) (record { are = refl }) (Line (Tree short_tree ∷ Tree other_tree ∷ []) other_package other_first refl other_line)
