-- The tokens of a text, as a function: the first token from a place on, or the fault that is found there.
use Rattle.std.specs.Prelude.{◌≡◌, ℕ, zero, suc, ◌+◌, ◌==◌, Bool, ◌&&◌, List, [], ◌∷◌, drop, length, min, slice_range, Result, Ok, Err, if◌then◌else◌}
use Rattle.std.specs.Char.{is_ascii_digit}
use Rattle.std.specs.Str.{bytes_eq}
use Rattle.wit_type_tree.specs.Comments.{is_blank}
use Rattle.wit_lex.specs.declared.fault.ReadError.{ReadError}
use Rattle.wit_lex.specs.declared.fault.ReadError.TheVariants.{Fault, OutOfMemory}
use Rattle.wit_lex.specs.declared.fault.ReadFault.TheVariants as fault
use Rattle.wit_lex.specs.declared.kind.Kind.{Kind}
use Rattle.wit_lex.specs.declared.kind.Kind.TheVariants as kind
use Rattle.wit_lex.specs.declared.token.Token.{Token}
use Rattle.wit_lex.specs.declared.word.Word.{Word}
use Rattle.wit_lex.specs.declared.word.Word.TheVariants as word
use Rattle.wit_lex.specs.Starts.{is_letter, is_in_word, is_sign, width_of}
use Rattle.wit_lex.specs.Words.{word_text}

-- where a place lies: between tokens, in a comment up to the end of its line that begins at a place, or in a block comment that begins at
-- one, and in that many further ones inside it
pub data Mode : Type 0 where
  between : Mode
  in_line : (start : ℕ) → Mode
  in_block : (start inner : ℕ) → Mode

-- where the blanks and comments end that the text goes on with; else where the comment begins that has no end
unfoldable pub skipped : Mode → ℕ → List ℕ → Result ℕ ℕ
skipped between at [] = Ok at
skipped between at (c ∷ []) = if is_blank c then Ok (at + 1) else Ok at
skipped between at (c ∷ d ∷ rest) =
    if is_blank c then skipped between (at + 1) (d ∷ rest)
    else if c == 47 && d == 47 then skipped (in_line at) (at + 1) (d ∷ rest)
    else if c == 47 && d == 42 then skipped (in_block at 0) (at + 2) rest
    else Ok at
skipped (in_line start) at [] = Ok at
skipped (in_line start) at (c ∷ rest) = if c == 10 then skipped between (at + 1) rest else skipped (in_line start) (at + 1) rest
skipped (in_block start inner) at [] = Err start
skipped (in_block start inner) at (c ∷ []) = Err start
skipped (in_block start zero) at (c ∷ d ∷ rest) =
    if c == 42 && d == 47 then skipped between (at + 2) rest
    else if c == 47 && d == 42 then skipped (in_block start 1) (at + 2) rest
    else skipped (in_block start 0) (at + 1) (d ∷ rest)
skipped (in_block start (suc inner)) at (c ∷ d ∷ rest) =
    if c == 42 && d == 47 then skipped (in_block start inner) (at + 2) rest
    else if c == 47 && d == 42 then skipped (in_block start (suc (suc inner))) (at + 2) rest
    else skipped (in_block start (suc inner)) (at + 1) (d ∷ rest)

-- the end of the longest run of bytes that pass a test
unfoldable pub run_end : (ℕ → Bool) → ℕ → List ℕ → ℕ
run_end test at [] = at
run_end test at (c ∷ rest) = if test c then run_end test (at + 1) rest else at

-- what a token is, and where it begins and ends
pub record Lexeme : Type 0 where
  pub kind : Kind
  pub start : ℕ
  pub end : ℕ

-- the token of the code
abbrev pub lexeme : Token → Lexeme
lexeme t = record { kind = t.kind; start = t.start; end = t.end }

-- the words of the grammar
abbrev pub words : List Word
words =
    word.Use ∷ word.Type ∷ word.Func ∷ word.Async ∷ word.Resource ∷ word.Own ∷ word.Borrow ∷ word.Record ∷ word.Flags ∷ word.Variant ∷ word.Enum
    ∷ word.Bool ∷ word.U8 ∷ word.U16 ∷ word.U32 ∷ word.U64 ∷ word.S8 ∷ word.S16 ∷ word.S32 ∷ word.S64 ∷ word.F32 ∷ word.F64 ∷ word.Char ∷ word.String
    ∷ word.Option ∷ word.Result ∷ word.Future ∷ word.Stream ∷ word.List ∷ word.Map ∷ word.Tuple ∷ word.ErrorContext ∷ word.As ∷ word.Static
    ∷ word.Interface ∷ word.Import ∷ word.Export ∷ word.World ∷ word.Package ∷ word.Constructor ∷ word.Include ∷ word.With ∷ []

-- the word that a text is, or a name
abbrev pub word_among : List Word → List ℕ → Kind
word_among [] text = kind.Name
word_among (w ∷ ws) text = if bytes_eq text (word_text w) then kind.Word w else word_among ws text

unfoldable pub word_kind : List ℕ → Kind
word_kind text = word_among words text

-- the token that a sign is
abbrev pub sign_kind : ℕ → Kind
sign_kind c =
    if c == 61 then kind.Equals else if c == 44 then kind.Comma else if c == 58 then kind.Colon else if c == 59 then kind.Semicolon
    else if c == 40 then kind.OpenParen else if c == 41 then kind.CloseParen else if c == 123 then kind.OpenBrace else if c == 125 then kind.CloseBrace
    else if c == 60 then kind.OpenAngle else if c == 62 then kind.CloseAngle else if c == 46 then kind.Dot else if c == 47 then kind.Slash
    else if c == 64 then kind.At else kind.Underscore

-- the character at a place begins no token
abbrev pub no_token : List ℕ → ℕ → ℕ → Result Lexeme ReadError
no_token source at c = Err (Fault fault.Character at (min (at + width_of c) (length source)))

-- `->`, or `%` and a word
abbrev pub arrow_or_escaped : List ℕ → ℕ → ℕ → List ℕ → Result Lexeme ReadError
arrow_or_escaped source at c [] = no_token source at c
arrow_or_escaped source at c (d ∷ rest) =
    if c == 45 && d == 62 then Ok (record { kind = kind.Arrow; start = at; end = at + 2 })
    else if c == 37 && is_letter d then Ok (record { kind = kind.Name; start = at; end = run_end is_in_word (at + 1) (d ∷ rest) })
    else no_token source at c

-- a word of the grammar, or a name
abbrev pub word_token : List ℕ → ℕ → ℕ → Lexeme
word_token source at end = record { kind = word_kind (slice_range source at end); start = at; end = end }

-- the token that begins at a place
abbrev pub token_here : List ℕ → ℕ → List ℕ → Result Lexeme ReadError
token_here source at [] = Ok (record { kind = kind.End; start = at; end = at })
token_here source at (c ∷ rest) =
    if is_letter c then Ok (word_token source at (run_end is_in_word at (c ∷ rest)))
    else if is_sign c then Ok (record { kind = sign_kind c; start = at; end = at + 1 })
    else if is_ascii_digit c then Ok (record { kind = kind.Number; start = at; end = run_end is_ascii_digit at (c ∷ rest) })
    else arrow_or_escaped source at c rest

-- the token at the place where blanks and comments end
abbrev pub token_after : List ℕ → Result ℕ ℕ → Result Lexeme ReadError
token_after source (Ok at) = token_here source at (drop at source)
token_after source (Err at) = Err (Fault fault.Comment at (at + 2))

-- the first token from a place on, or the fault that is found there
unfoldable pub first_token : List ℕ → ℕ → Result Lexeme ReadError
first_token source from = token_after source (skipped between from (drop from source))

-- memory ran out, or it is this error that is found
abbrev pub Stops : {A : Type 0} → Result A ReadError → ReadError → Type 0
Stops r OutOfMemory = Unit {0}
Stops r (Fault f start end) = r ≡ Err (Fault f start end)
