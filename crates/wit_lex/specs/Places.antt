-- Where an offset lies in a text, as an editor shows it: a line, a column, and what the line says.
use Rattle.std.specs.Prelude.{◌≡◌, ◌≢◌, ◌⊎◌, ℕ, ◌+◌, ◌-◌, ◌<◌, ◌≤◌, List, length, slice_index, slice_range, string_bytes, take}
use Rattle.std.specs.Str.{chars}
use Rattle.memchr.specs.Find.{is_byte, places}
use Rattle.wit_values.specs.declared.span.Span.{Span}
use Rattle.wit_lex.specs.declared.place.Place.{Place}
use Rattle.wit_lex.specs.declared.source.Source.{Source}
use Rattle.wit_lex.specs.Sources.{LiesIn}

-- no byte from one offset up to another is a line feed
abbrev pub IsOneLine : List ℕ → ℕ → ℕ → Type 0
IsOneLine text from to = (i : ℕ) → from ≤ i → i < to → slice_index text i ≢ 10

-- the line that an offset lies in begins with the text, or after a line feed
pub record IsLineStart (text : List ℕ) (at start : ℕ) : Type 0 where
  pub order : start ≤ at
  pub begins : (start ≡ 0) ⊎ ((0 < start) × (slice_index text (start - 1) ≡ 10))
  pub inside : IsOneLine text start at

-- it ends with the text, or before a line feed
pub record IsLineEnd (text : List ℕ) (at end : ℕ) : Type 0 where
  pub order : at ≤ end
  pub within : end ≤ length text
  pub ends : end < length text → slice_index text end ≡ 10
  pub inside : IsOneLine text at end

-- the number of the line that begins at an offset
abbrev pub line_number : List ℕ → ℕ → ℕ
line_number text start = length (places (is_byte 10) (take start text)) + 1

-- where an offset of a text lies: the line from `start` to `end`, its number, and the column
pub record IsPlaceAt (text : List ℕ) (at : ℕ) (p : Place) : Type 0 where
  pub start : ℕ
  pub end : ℕ
  pub begins : IsLineStart text at start
  pub ends : IsLineEnd text at end
  pub line : p.line ≡ line_number text start
  pub column : p.column ≡ length (chars (slice_range text start at)) + 1
  pub said : p.text.now ≡ slice_range text start end

-- where a span of a source begins
pub record IsPlace (s : Source) (span : Span) (p : Place) : Type 0 where
  pub lies : LiesIn s span
  pub path : p.path.now ≡ string_bytes s.path
  pub place : IsPlaceAt (string_bytes s.contents) (span.start - s.offset) p
