-- How single tokens are read: what one says, and the place after it, or the first fault.
use Rattle.std.specs.Prelude.{ℕ, ◌+◌, ◌==◌, ◌&&◌, ◌||◌, Bool, false, List, [], ◌∷◌, cond, nat_lt, slice_range, Option, Some, None, Result, Ok, Err, if◌then◌else◌}
use Rattle.std.specs.Str.{bytes_eq}
use Rattle.std.specs.Str.Parse.{digits_value}
use Rattle.semver.specs.declared.error.Error.{Error}
use Rattle.semver.specs.Parse.{version_parts}
use Rattle.wit_names.specs.Label.{is_label}
use Rattle.wit_values.specs.declared.span.Span.{Span}
use Rattle.wit_type_tree.specs.declared.types.Primitive.{Primitive}
use Rattle.wit_type_tree.specs.declared.types.Primitive.TheVariants as prim
use Rattle.wit_lex.specs.Words.{unescaped}
use Rattle.wit_lex.specs.declared.fault.ReadError.{ReadError}
use Rattle.wit_lex.specs.declared.fault.ReadError.TheVariants.{Fault}
use Rattle.wit_lex.specs.declared.fault.ReadFault.{ReadFault}
use Rattle.wit_lex.specs.declared.fault.ReadFault.TheVariants as fault
use Rattle.wit_lex.specs.declared.kind.Kind.{Kind}
use Rattle.wit_lex.specs.declared.kind.Kind.TheVariants as kind
use Rattle.wit_lex.specs.declared.word.Word.TheVariants as word
use Rattle.wit_lex.specs.Lexis.{Lexeme, first_token}
use Rattle.wit_lex.specs.DocsLexis.{docs_from, docs_text, docs_span}
use Rattle.wit_lex.specs.VersionLexis.{version_to}
use Rattle.wit_grammar.specs.TokenKinds.{same_kind}
use Rattle.wit_grammar.specs.Trees.{Text, Name, Documents, Release, Ty, primitive}

infixl 10 ◌>>=◌
abbrev pub ◌>>=◌ : {A B : Type 0} → Result A ReadError → (A → Result B ReadError) → Result B ReadError
(Ok x) >>= f = f x
(Err e) >>= f = Err e

-- a place in a source, whose first byte has the place `offset`
pub record Spot : Type 0 where
  pub source : List ℕ
  pub offset : ℕ
  pub place : ℕ

-- a value and the spot after it, or a fault
abbrev pub Read : Type 0 → Type 0
Read A = Result (A × Spot) ReadError

abbrev pub moved : Spot → ℕ → Spot
moved s place = record { source = s.source; offset = s.offset; place = place }

-- the first token after the spot
abbrev pub lexed : Spot → Result Lexeme ReadError
lexed s = first_token s.source s.place

abbrev pub text_of : Spot → Lexeme → Text
text_of s t = slice_range s.source t.start t.end

abbrev pub span_of : Spot → Lexeme → Span
span_of s t = record { start = s.offset + t.start; end = s.offset + t.end }

abbrev pub stop : {A : Type 0} → ReadFault → Lexeme → Result A ReadError
stop f t = Err (Fault f t.start t.end)

-- after the token, which is not the end: what follows is a token too
unfoldable pub past : Spot → Lexeme → Result Spot ReadError
past s t = if t.start == t.end then stop fault.Token t else first_token s.source t.end >>= λ _. Ok (moved s t.end)

-- a token of a kind
unfoldable pub mark_at : Kind → Spot → Result Spot ReadError
mark_at k s = do
  t ← lexed s
  if same_kind t.kind k then past s t else stop fault.Token t

unfoldable pub spanned_at : Kind → Spot → Read Span
spanned_at k s = do
  t ← lexed s
  next ← mark_at k s
  Ok (span_of s t, next)

abbrev pub is_in : Text → List Text → Bool
is_in text [] = false
is_in text (w ∷ ws) = bytes_eq text w || is_in text ws

-- a name of this very text, without a `%` in front
unfoldable pub text_at : Text → Spot → Read Span
text_at w s = do
  t ← lexed s
  if same_kind t.kind kind.Name && bytes_eq (text_of s t) w then (past s t >>= λ next. Ok (span_of s t, next)) else stop fault.Token t

abbrev pub name_of : Spot → Lexeme → Name
name_of s t = record { text = unescaped (text_of s t); span = span_of s t }

-- a label, perhaps with a `%` in front
unfoldable pub name_at : Spot → Read Name
name_at s = do
  t ← lexed s
  if same_kind t.kind kind.Name && is_label (unescaped (text_of s t)) then (past s t >>= λ next. Ok (name_of s t, next)) else stop fault.Token t

-- the same, where it is none of these texts
unfoldable pub name_but_at : List Text → Spot → Read Name
name_but_at ws s = do
  t ← lexed s
  if is_in (text_of s t) ws then stop fault.Token t else name_at s

-- a number below 2 ^ 32
unfoldable pub number_at : Spot → Read ℕ
number_at s = do
  t ← lexed s
  if same_kind t.kind kind.Number
      then (if nat_lt (digits_value 10 (text_of s t)) 4294967296 then (past s t >>= λ next. Ok (digits_value 10 (text_of s t), next)) else stop fault.Number t)
      else stop fault.Token t

-- ---- versions
-- what `semver` reads of a version from a place to another, which a token follows
abbrev pub release_at : Spot → (start end : ℕ) → Result Release Error → Read (Span × Release)
release_at s start end (Err e) = Err (Fault fault.Version start end)
release_at s start end (Ok release) = first_token s.source end >>= λ _. Ok ((record { start = s.offset + start; end = s.offset + end }, release), moved s end)

abbrev pub release_to : Spot → (start : ℕ) → Result ℕ ℕ → Read (Span × Release)
release_to s start (Err at) = first_token s.source at >>= λ t. stop fault.Token t
release_to s start (Ok end) = release_at s start end (version_parts (slice_range s.source start end))

-- a version, whose first number is the token
unfoldable pub version_at : Spot → Read (Span × Release)
version_at s = do
  t ← lexed s
  if same_kind t.kind kind.Number then release_to s t.start (version_to s.source t.end) else stop fault.Token t

-- ---- docs
abbrev pub docs_of : Spot → Documents
docs_of s = record { texts = docs_text s.source (docs_from s.source s.place); span = docs_span s.offset (docs_from s.source s.place) }

-- the docs before the token; the spot moves to the token itself
unfoldable pub docs_at : Spot → Read Documents
docs_at s = do
  t ← lexed s
  Ok (docs_of s, moved s t.start)

-- ---- primitive types
abbrev pub primitive_of : Kind → Option Primitive
primitive_of (kind.Word word.Bool) = Some prim.Bool
primitive_of (kind.Word word.U8) = Some prim.U8
primitive_of (kind.Word word.U16) = Some prim.U16
primitive_of (kind.Word word.U32) = Some prim.U32
primitive_of (kind.Word word.U64) = Some prim.U64
primitive_of (kind.Word word.S8) = Some prim.S8
primitive_of (kind.Word word.S16) = Some prim.S16
primitive_of (kind.Word word.S32) = Some prim.S32
primitive_of (kind.Word word.S64) = Some prim.S64
primitive_of (kind.Word word.F32) = Some prim.F32
primitive_of (kind.Word word.F64) = Some prim.F64
primitive_of (kind.Word word.Char) = Some prim.Char
primitive_of (kind.Word word.String) = Some prim.String
primitive_of (kind.Word word.ErrorContext) = Some prim.ErrorContext
primitive_of other = None

abbrev pub primitive_with : Spot → Lexeme → Option Primitive → Read Ty
primitive_with s t None = stop fault.Token t
primitive_with s t (Some p) = past s t >>= λ next. Ok (primitive (span_of s t) p, next)

-- the word of a primitive type
unfoldable pub primitive_at : Spot → Read Ty
primitive_at s = do
  t ← lexed s
  primitive_with s t (primitive_of t.kind)

-- ---- where no further level is read
abbrev pub is_among : List Kind → Kind → Bool
is_among [] k = false
is_among (j ∷ js) k = same_kind k j || is_among js k

-- what begins with one of these would be a level too many
unfoldable pub deeper_at : {A : Type 0} → List Kind → Spot → Read A
deeper_at ks s = do
  t ← lexed s
  stop (cond (is_among ks t.kind) fault.Nesting fault.Token) t

unfoldable pub nothing_at : {A : Type 0} → Spot → Read A
nothing_at s = do
  t ← lexed s
  stop fault.Token t
