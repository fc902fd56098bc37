-- Tokens of a source.
use Rattle.std.specs.Prelude.{◌≡◌, ℕ, ◌+◌, ◌≤◌, ◌<◌, ◌⊎◌, true, false, List, length, slice_index, slice_range}
use Rattle.std.specs.Char.{is_ascii_digit}
use Rattle.wit_type_tree.specs.Comments.{IsPair}
use Rattle.wit_lex.specs.declared.kind.Kind.{Kind}
use Rattle.wit_lex.specs.declared.kind.Kind.TheVariants as kind
use Rattle.wit_lex.specs.declared.token.Token.{Token}
use Rattle.wit_lex.specs.declared.word.Word.{Word}
use Rattle.wit_lex.specs.Starts.{IsEscaped, IsRun, is_in_word, is_letter, is_sign}
use Rattle.wit_lex.specs.Words.{IsPlain, word_text}

-- the byte is a token of this kind by itself
abbrev pub IsSign : ℕ → Kind → Type 0
IsSign c kind.Equals = c ≡ 61
IsSign c kind.Comma = c ≡ 44
IsSign c kind.Colon = c ≡ 58
IsSign c kind.Semicolon = c ≡ 59
IsSign c kind.OpenParen = c ≡ 40
IsSign c kind.CloseParen = c ≡ 41
IsSign c kind.OpenBrace = c ≡ 123
IsSign c kind.CloseBrace = c ≡ 125
IsSign c kind.OpenAngle = c ≡ 60
IsSign c kind.CloseAngle = c ≡ 62
IsSign c kind.Dot = c ≡ 46
IsSign c kind.Slash = c ≡ 47
IsSign c kind.At = c ≡ 64
IsSign c kind.Underscore = c ≡ 95
IsSign c (kind.Word _) = ⊥
IsSign c kind.Name = ⊥
IsSign c kind.Number = ⊥
IsSign c kind.Arrow = ⊥
IsSign c kind.End = ⊥

-- neither a letter, a sign, `%` nor `-`
pub record IsOther (c : ℕ) : Type 0 where
  pub letter : is_letter c ≡ false
  pub sign : is_sign c ≡ false
  pub escape : c ≡ 37 → ⊥
  pub dash : c ≡ 45 → ⊥

-- what a token is that begins with a byte and has a text: after a letter it is the word that the text is, or a name where it is none;
-- `%` begins a name, `-` an arrow, a sign is a token by itself, and all else is a number
abbrev pub IsKindOf : ℕ → List ℕ → Kind → Type 0
IsKindOf first text (kind.Word word) = (is_letter first ≡ true) × (text ≡ word_text word)
IsKindOf first text kind.Name = ((is_letter first ≡ true) × IsPlain text) ⊎ (first ≡ 37)
IsKindOf first text kind.Arrow = first ≡ 45
IsKindOf first text kind.Number = IsOther first
IsKindOf first text sign = IsSign first sign

-- a letter begins a word of the grammar or a name, which goes on as long as letters, digits and `-` do; `%` and such a run are a name too;
-- digits are a number, as long as they go on; `->` is an arrow, a sign is a token by itself, and at its end is the end of the text
abbrev pub IsFound : List ℕ → ℕ → ℕ → List ℕ → Kind → Type 0
IsFound source start end text (kind.Word word) = (is_letter (slice_index source start) ≡ true) × IsRun is_in_word source start end × (text ≡ word_text word)
IsFound source start end text kind.Name = ((is_letter (slice_index source start) ≡ true) × IsRun is_in_word source start end × IsPlain text) ⊎ IsEscaped source start end
IsFound source start end text kind.Number = (is_ascii_digit (slice_index source start) ≡ true) × IsRun is_ascii_digit source start end
IsFound source start end text kind.Arrow = IsPair source start 45 62 × (end ≡ start + 2)
IsFound source start end text kind.End = (start ≡ length source) × (end ≡ start)
IsFound source start end text sign = IsSign (slice_index source start) sign × (end ≡ start + 1)

-- a word of the grammar is written as it is stated
abbrev pub IsWritten : Kind → List ℕ → Type 0
IsWritten kind text = (word : Word) → kind ≡ Kind.Word word → text ≡ word_text word

-- a part of the source with what it is; a number begins in ASCII
pub record IsToken (source : List ℕ) (t : Token) : Type 0 where
  pub order : t.start ≤ t.end
  pub within : t.end ≤ length source
  pub digit : t.kind ≡ Kind.Number → slice_index source t.start < 128
  pub text : t.text.now ≡ slice_range source t.start t.end
  pub written : IsWritten t.kind t.text.now
