-- First faults of sources, and the places of their lines.
use Rattle.std.proofs.Common.{◌≡◌, ℕ, ◌+◌, ◌-◌, ◌≤◌, true, List, [], ◌∷◌, length, None, Some, string_bytes, refl, arith}
use Rattle.wit_arena.proofs.Common.{Fault, IsCharBoundary-from_ascii, SourceFile, Span, slice_get, slice_range}
use Rattle.wit_lex.specs.declared.fault.ReadFault.{ReadFault}
use Rattle.wit_lex.specs.declared.source.Source.{Source}
use Rattle.wit_lex.specs.Sources.{IsLocated}
use Rattle.wit_grammar.specs.Laws.{IsReadAs, StopsAt}
use Rattle.wit_grammar.specs.Seen.{see_file}
use Rattle.wit_grammar.proofs.Whole.{read_is_spelled}
use Rattle.wit_listing.specs.ErrorLine.{IsPlaceAt, Place, has_place, line_text}
use Rattle.wit_walk.proofs.Common.{first_fault}
use Rattle.wit_tool.specs.FaultLine.{fault_text}
use Rattle.wit_tool.specs.Output.{IsSourcesOutput, Line}
use Rattle.wit_groups.specs.Groups.{IsTree}
use Rattle.wit_groups.specs.SourceFaults.{IsFirstOfSources, Stop, Tree, stop_fault}
use Rattle.wit_groups.proofs.Pushes.{a_walk}
use Rattle.wit_groups.specs.PushFaults.{source_fault}
use Rattle.wit_output_rows.proofs.Values.{is_plain, plain_ascii}
use Rattle.wit_output_rows.proofs.Outcomes.{outcome}
use Rattle.wit_output_rows.proofs.Walks.{one_by_path, joined_fault, no_earlier, walks_to}

-- reading the only source stops
pub stopped_first : (s : Source) (stop : ReadFault) (from to : ℕ) → StopsAt (string_bytes s.contents) s.offset stop from to → IsFirstOfSources (s ∷ []) (Stop (stop_fault s.offset stop from to) ∷ []) (stop_fault s.offset stop from to)
stopped_first s stop from to stops = record { ordered = s ∷ []; by_path = one_by_path s; walk = a_walk.0; walks = a_walk.1; is = ((stop, from, to, stops, refl), refl) }

-- the file of the only source comes to a fault
pub only_first : (s : Source) (tree : SourceFile) (f : Fault) → IsTree s tree → source_fault a_walk.0 [] tree ≡ None → a_walk.0 (tree.file ∷ []) ≡ Some f → IsFirstOfSources (s ∷ []) (Tree tree ∷ []) f
only_first s tree f is_tree pushed walked = record {
  ordered = s ∷ [];
  by_path = one_by_path s;
  walk = a_walk.0;
  walks = a_walk.1;
  is = (is_tree, no_earlier (source_fault a_walk.0 [] tree) (Some f) _ pushed (joined_fault a_walk.0 (tree ∷ []) f walked));
}

-- a span in a source of ASCII characters
pub located : (s : Source) (span : Span) → is_plain (string_bytes s.contents) ≡ true → s.offset ≤ span.start → span.start ≤ span.end → span.end ≤ s.offset + length (string_bytes s.contents)
    → length (slice_range (string_bytes s.contents) (span.start - s.offset) (span.end - s.offset)) + span.start ≡ span.end
    → IsLocated s span (string_bytes s.path) (slice_range (string_bytes s.contents) (span.start - s.offset) (span.end - s.offset))
located s span plain first order within whole = record {
  path_bytes = refl;
  first = first;
  order = order;
  within = within;
  low = IsCharBoundary-from_ascii (string_bytes s.contents) (span.start - s.offset) (plain_ascii (string_bytes s.contents) plain) (omega (arith, first, order, within));
  high = IsCharBoundary-from_ascii (string_bytes s.contents) (span.end - s.offset) (plain_ascii (string_bytes s.contents) plain) (omega (arith, first, order, within));
  part = refl;
  whole = whole;
}

-- the place of a line
abbrev pub place : (path slice : List ℕ) → Place
place path slice = (record { ref_ptr = (0, 0); now = path }, record { ref_ptr = (0, 0); now = slice })

pub placed : (sources : List Source) (i : ℕ) (s : Source) (rule : ℕ) (span : Span) (path slice : List ℕ) → slice_get sources i ≡ Some s → has_place rule ≡ true → IsLocated s span path slice → IsPlaceAt sources rule span (Some (place path slice))
placed sources i s rule span path slice present has there = (has, i, s, present, there)

-- the output of the only source, whose file comes to a fault that has a place
pub refused : (s : Source) (tree : SourceFile) (f : Fault) (slice output : List ℕ) → IsReadAs (string_bytes s.contents) s.offset (see_file tree) → source_fault a_walk.0 [] tree ≡ None
    → ((steps : ℕ) → first_fault (tree.file ∷ []) (record { outcome = outcome; steps = steps }) ≡ Some f) → has_place f.rule ≡ true → IsLocated s f.span (string_bytes s.path) slice
    → output ≡ line_text f.rule (Some (place (string_bytes s.path) slice)) (fault_text f) → IsSourcesOutput (s ∷ []) 1 output
refused s tree f slice output is_read pushed computed has there line =
    let first = only_first s tree f (read_is_spelled (string_bytes s.contents) s.offset (see_file tree) is_read) pushed (walks_to a_walk.0 a_walk.1 (tree.file ∷ []) (Some f) computed) in
    Line (Tree tree ∷ []) f first refl (Some (place (string_bytes s.path) slice), placed (s ∷ []) 0 s f.rule f.span (string_bytes s.path) slice refl has there, line)
