-- The line of a refusal: its number, where it is, and what it says.
use Rattle.std.specs.Prelude.{◌≡◌, ℕ, ◌==◌, ◌&&◌, ◌||◌, Bool, true, not, List, [], ◌∷◌, ◌++◌, Option, Some, None, codes, slice_get, if◌then◌else◌}
use Rattle.std.specs.Borrow.{Bor}
use Rattle.std.specs.Fmt.{decimal}
use Rattle.wit_values.specs.declared.span.Span.{Span}
use Rattle.wit_type_tree.specs.declared.error.ParseError.{ParseError}
use Rattle.wit_type_tree.specs.RefusalText.{span_of, kind_text}
use Rattle.wit_lex.specs.declared.source.Source.{Source}
use Rattle.wit_lex.specs.Sources.{IsLocated, LiesIn}

-- the start of a text up to its first LF or CR
abbrev pub first_line : List ℕ → List ℕ
first_line [] = []
first_line (b ∷ rest) = if b == 10 || b == 13 then [] else (b ∷ first_line rest)

-- whether a refusal of this number has a place in a source
abbrev pub has_place : ℕ → Bool
has_place rule = not (rule == 4) && not (rule == 45) && not (rule == 52)

-- a path, and a slice of what is in the source
abbrev pub Place : Type 0
Place = Bor (List ℕ) × Bor (List ℕ)

-- the place of a refusal of this number at this span; none where it has no place, or lies in no source
abbrev pub IsPlaceAt : List Source → ℕ → Span → Option Place → Type 0
IsPlaceAt sources rule span None = has_place rule ≡ true → (i : ℕ) (s : Source) → slice_get sources i ≡ Some s → LiesIn s span → ⊥
IsPlaceAt sources rule span (Some place) =
    (has_place rule ≡ true) × (i : ℕ) × (s : Source) × (slice_get sources i ≡ Some s) × IsLocated s span place.0.now place.1.now

abbrev pub IsPlaceOf : List Source → ParseError → Option Place → Type 0
IsPlaceOf sources e place = IsPlaceAt sources e.rule (span_of e.kind) place

-- the path, and the first line of the slice in quotes
abbrev pub place_text : Option Place → List ℕ
place_text None = codes "- \"\""
place_text (Some place) = place.0.now ++ (codes " \"" ++ (first_line place.1.now ++ codes "\""))

-- the line of a refusal of this number, at this place and in these words
abbrev pub line_text : ℕ → Option Place → List ℕ → List ℕ
line_text rule place words = codes "error E" ++ (decimal rule ++ (32 ∷ (place_text place ++ (codes ": " ++ (words ++ (10 ∷ []))))))

abbrev pub error_text : ParseError → Option Place → List ℕ
error_text e place = line_text e.rule place (kind_text e.kind)

-- the line of a refusal of these sources
abbrev pub IsErrorLine : List Source → ParseError → List ℕ → Type 0
IsErrorLine sources e text = (place : Option Place) × IsPlaceOf sources e place × (text ≡ error_text e place)
