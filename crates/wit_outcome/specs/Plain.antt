-- A refusal in plain values: its number, its place in the text of a source, and its words.
use Rattle.std.specs.Prelude.{◌≡◌, ℕ, ◌+◌, true, false, List, [], Some, slice_get, string_bytes}
use Rattle.wit_type_tree.specs.declared.error.ParseError.{ParseError}
use Rattle.wit_type_tree.specs.RefusalText.{span_of, kind_text}
use Rattle.wit_lex.specs.declared.source.Source.{Source}
use Rattle.wit_lex.specs.Sources.{LiesIn}
use Rattle.wit_listing.specs.ErrorLine.{has_place}
use Rattle.wit_outcome.specs.declared.plain.Plain.{Plain}

-- the refusal has a place, and this is one of the sources, in which it lies
pub record IsHolding (sources : List Source) (e : ParseError) (s : Source) : Type 0 where
  pub has : has_place e.rule ≡ true
  pub place : ℕ
  pub among : slice_get sources place ≡ Some s
  pub lies : LiesIn s (span_of e.kind)

-- the path of the source, and the range of its text where the refusal is
pub record IsPlacedIn (s : Source) (e : ParseError) (p : Plain) : Type 0 where
  pub placed : p.placed ≡ true
  pub path : p.path ≡ string_bytes s.path
  pub start : s.offset + p.start ≡ (span_of e.kind).start
  pub end : s.offset + p.end ≡ (span_of e.kind).end

-- no place
pub record IsUnplaced (p : Plain) : Type 0 where
  pub placed : p.placed ≡ false
  pub path : p.path ≡ []
  pub start : p.start ≡ 0
  pub end : p.end ≡ 0

-- the place of a refusal of sources; none where it has none, or lies in none of them
pub data IsPlaced (sources : List Source) (e : ParseError) (p : Plain) : Type 0 where
  Within : (s : Source) → IsHolding sources e s → IsPlacedIn s e p → IsPlaced sources e p
  Nowhere : ((s : Source) → IsHolding sources e s → ⊥) → IsUnplaced p → IsPlaced sources e p

-- a refusal of sources
pub record IsPlain (sources : List Source) (e : ParseError) (p : Plain) : Type 0 where
  pub rule : p.rule ≡ e.rule
  pub place : IsPlaced sources e p
  pub message : p.message ≡ kind_text e.kind

-- no refusal
abbrev pub no_refusal : Plain
no_refusal = record { rule = 0; placed = false; start = 0; end = 0; path = []; message = [] }
