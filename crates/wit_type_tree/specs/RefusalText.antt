-- What a refusal says: where, of which name, and in which words.
use Rattle.std.specs.Prelude.{◌≡◌, ℕ, List, [], ◌++◌, Option, Some, None, String, string_bytes, codes}
use Rattle.std.specs.declared.alloc.Global.{Global}
use Rattle.wit_values.specs.declared.span.Span.{Span}
use Rattle.wit_type_tree.specs.declared.error.ParseErrorKind.{ParseErrorKind}
use Rattle.wit_type_tree.specs.declared.error.ParseErrorKind.TheVariants.{Syntax, ItemNotFound, TypeCycle, OutOfMemory}
use Rattle.wit_type_tree.specs.declared.error.ParseError.{ParseError}

-- where it is
abbrev pub span_of : ParseErrorKind → Span
span_of (Syntax span message) = span
span_of (ItemNotFound span name kind hint) = span
span_of (TypeCycle span name kind) = span
span_of OutOfMemory = record { start = 0; end = 0 }

-- an allocation failed
pub record IsAllocationFailure (e : ParseError) : Type 0 where
  pub kind : e.kind ≡ OutOfMemory
  pub rule : e.rule ≡ 45

-- nothing of this sort has the name written at the span
abbrev pub IsItemNotFound : Span → List ℕ → List ℕ → ParseErrorKind → Type 0
IsItemNotFound at name sort (ItemNotFound s n k h) = (s ≡ at) × (string_bytes n ≡ name) × (string_bytes k ≡ sort)
IsItemNotFound at name sort _ = ⊥

-- what the name written at the span means depends on itself
abbrev pub IsTypeCycle : Span → List ℕ → List ℕ → ParseErrorKind → Type 0
IsTypeCycle at name sort (TypeCycle s n k) = (s ≡ at) × (string_bytes n ≡ name) × (string_bytes k ≡ sort)
IsTypeCycle at name sort _ = ⊥

abbrev pub hint_text : Option (String Global) → List ℕ
hint_text None = []
hint_text (Some hint) = codes "; " ++ string_bytes hint

-- the words
abbrev pub kind_text : ParseErrorKind → List ℕ
kind_text (Syntax span message) = string_bytes message
kind_text (ItemNotFound span name kind hint) = string_bytes kind ++ (codes " `" ++ (string_bytes name ++ codes "` does not exist")) ++ hint_text hint
kind_text (TypeCycle span name kind) = string_bytes kind ++ (codes " `" ++ (string_bytes name ++ codes "` depends on itself"))
kind_text OutOfMemory = codes "out of memory"
