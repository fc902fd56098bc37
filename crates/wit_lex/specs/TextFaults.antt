-- What the refusal of a text says: which fault, in which words, and at which place of the source.
use Rattle.std.specs.Prelude.{◌≡◌, ℕ, ◌≤◌, ◌+◌, List, length, codes, string_bytes}
use Rattle.wit_values.specs.declared.span.Span.{Span}
use Rattle.wit_type_tree.specs.declared.error.ParseError.{ParseError}
use Rattle.wit_type_tree.specs.declared.error.ParseErrorKind.{ParseErrorKind}
use Rattle.wit_type_tree.specs.declared.error.ParseErrorKind.TheVariants.{Syntax, ItemNotFound, TypeCycle, OutOfMemory}
use Rattle.wit_type_tree.specs.RefusalText.{IsAllocationFailure}
use Rattle.wit_lex.specs.Blanks.{IsEndless, IsFirst, IsSkipped}
use Rattle.wit_lex.specs.Starts.{IsStrange}
use Rattle.wit_lex.specs.declared.fault.ReadError.{ReadError}
use Rattle.wit_lex.specs.declared.fault.ReadError.TheVariants.{Fault, OutOfMemory as Wanting}
use Rattle.wit_lex.specs.declared.fault.ReadFault.{ReadFault}
use Rattle.wit_lex.specs.declared.fault.ReadFault.TheVariants.{Character, Token, Comment, Nesting, Version, Number}

-- the number of the refusal
abbrev pub rule_of : ReadFault → ℕ
rule_of Character = 46
rule_of Token = 47
rule_of Comment = 48
rule_of Nesting = 49
rule_of Version = 50
rule_of Number = 51

abbrev pub words_of : ReadFault → List ℕ
words_of Character = codes "unexpected character"
words_of Token = codes "unexpected token"
words_of Comment = codes "unterminated block comment"
words_of Nesting = codes "nested too deeply"
words_of Version = codes "invalid version"
words_of Number = codes "number too large"

-- this fault in its words, from one place to another
pub record IsFaultAt (fault : ReadFault) (from to number : ℕ) (span : Span) (message : List ℕ) : Type 0 where
  pub rule : number ≡ rule_of fault
  pub words : message ≡ words_of fault
  pub start : span.start ≡ from
  pub end : span.end ≡ to

-- this fault from one place to another, or a failed allocation for its words
abbrev pub ReportsFault : ReadFault → ℕ → ℕ → ℕ → ParseErrorKind → Type 0
ReportsFault fault from to number (Syntax span message) = IsFaultAt fault from to number span (string_bytes message)
ReportsFault fault from to number (ItemNotFound span name kind hint) = ⊥
ReportsFault fault from to number (TypeCycle span name kind) = ⊥
ReportsFault fault from to number OutOfMemory = number ≡ 45

-- why reading ended, stated of a source whose first byte has the place `offset`
abbrev pub IsRefusalOf : ReadError → ℕ → ParseError → Type 0
IsRefusalOf (Fault fault start end) offset e = ReportsFault fault (offset + start) (offset + end) e.rule e.kind
IsRefusalOf Wanting offset e = IsAllocationFailure e

-- what is at fault is in the source
abbrev pub IsWithin : List ℕ → ReadError → Type 0
IsWithin source (Fault fault start end) = (start ≤ end) × (end ≤ length source)
IsWithin source Wanting = Unit {0}

-- the character at a place begins no token
abbrev pub IsNoToken : List ℕ → ℕ → ReadError → Type 0
IsNoToken source at (Fault Character start end) = (start ≡ at) × IsStrange source start end
IsNoToken source at (Fault Comment start end) = ⊥
IsNoToken source at (Fault Token start end) = ⊥
IsNoToken source at (Fault Nesting start end) = ⊥
IsNoToken source at (Fault Version start end) = ⊥
IsNoToken source at (Fault Number start end) = ⊥
IsNoToken source at Wanting = ⊥

-- after the blanks and comments from a place on is a character that begins no token, or a comment that has no end
abbrev pub IsUnread : List ℕ → ℕ → ReadError → Type 0
IsUnread source from (Fault Character start end) = IsFirst source from start × IsStrange source start end
IsUnread source from (Fault Comment start end) = IsSkipped source from start × IsEndless source start × (end ≡ start + 2)
IsUnread source from (Fault Token start end) = ⊥
IsUnread source from (Fault Nesting start end) = ⊥
IsUnread source from (Fault Version start end) = ⊥
IsUnread source from (Fault Number start end) = ⊥
IsUnread source from Wanting = ⊥

-- after the blanks and comments from a place on is a comment that has no end, or an allocation failed
abbrev pub IsUnended : List ℕ → ℕ → ReadError → Type 0
IsUnended source from (Fault Comment start end) = IsSkipped source from start × IsEndless source start × (end ≡ start + 2)
IsUnended source from (Fault Character start end) = ⊥
IsUnended source from (Fault Token start end) = ⊥
IsUnended source from (Fault Nesting start end) = ⊥
IsUnended source from (Fault Version start end) = ⊥
IsUnended source from (Fault Number start end) = ⊥
IsUnended source from Wanting = Unit {0}
