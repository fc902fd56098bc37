-- Sources one after the other, and the places in them.
use Rattle.std.specs.Prelude.{◌≡◌, ℕ, ◌+◌, ◌-◌, ◌<◌, ◌≤◌, List, codes, length, map, slice_range, string_bytes, sum_by}
use Rattle.std.specs.Str.{IsCharBoundary}
use Rattle.wit_values.specs.declared.span.Span.{Span}
use Rattle.wit_type_tree.specs.declared.error.ParseError.{ParseError}
use Rattle.wit_type_tree.specs.declared.error.ParseErrorKind.{ParseErrorKind}
use Rattle.wit_type_tree.specs.declared.error.ParseErrorKind.TheVariants.{Syntax, ItemNotFound, TypeCycle, OutOfMemory}
use Rattle.wit_lex.specs.declared.source.Source.{Source}

-- the source of a path and a text, whose first byte has this place
pub record IsSource (path text : List ℕ) (place : ℕ) (s : Source) : Type 0 where
  pub path_bytes : string_bytes s.path ≡ path
  pub contents : string_bytes s.contents ≡ text
  pub offset : s.offset ≡ place

-- what a source is: its path, its text and its place
abbrev pub stated_of : Source → List ℕ × List ℕ × ℕ
stated_of s = (string_bytes s.path, string_bytes s.contents, s.offset)

abbrev pub as_stated : List Source → List (List ℕ × List ℕ × ℕ)
as_stated sources = map stated_of sources

-- the places that sources take: as many as they have bytes, and one more for each
abbrev pub space : List Source → ℕ
space sources = sum_by (λ s. length (string_bytes s.contents) + 1) sources

-- the source's path, and the slice of its text at the span, both of whose ends lie in it on character borders
pub record IsLocated (s : Source) (span : Span) (path slice : List ℕ) : Type 0 where
  pub path_bytes : path ≡ string_bytes s.path
  pub first : s.offset ≤ span.start
  pub order : span.start ≤ span.end
  pub within : span.end ≤ s.offset + length (string_bytes s.contents)
  pub low : IsCharBoundary (string_bytes s.contents) (span.start - s.offset)
  pub high : IsCharBoundary (string_bytes s.contents) (span.end - s.offset)
  pub part : slice ≡ slice_range (string_bytes s.contents) (span.start - s.offset) (span.end - s.offset)
  pub whole : length slice + span.start ≡ span.end

-- both ends lie in the source, its end included, on character borders
pub record LiesIn (s : Source) (span : Span) : Type 0 where
  pub first : s.offset ≤ span.start
  pub order : span.start ≤ span.end
  pub low : IsCharBoundary (string_bytes s.contents) (span.start - s.offset)
  pub high : IsCharBoundary (string_bytes s.contents) (span.end - s.offset)

-- sources that would take so many places are too large, or an allocation failed
abbrev pub ReportsTooLarge : ℕ → ℕ → ParseErrorKind → Type 0
ReportsTooLarge end number (Syntax span message) =
    (number ≡ 52) × (4294967295 < end) × (span.start ≡ 0) × (span.end ≡ 0) × (string_bytes message ≡ codes "sources too large")
ReportsTooLarge end number (ItemNotFound span name kind hint) = ⊥
ReportsTooLarge end number (TypeCycle span name kind) = ⊥
ReportsTooLarge end number OutOfMemory = number ≡ 45

pub record IsTooLarge (end : ℕ) (e : ParseError) : Type 0 where
  pub gives : ReportsTooLarge end e.rule e.kind
