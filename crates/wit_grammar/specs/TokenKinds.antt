-- Kinds of tokens, compared as numbers.
use Rattle.std.specs.Prelude.{ℕ, ◌+◌, ◌==◌, Bool}
use Rattle.wit_lex.specs.declared.kind.Kind.{Kind}
use Rattle.wit_lex.specs.declared.kind.Kind.TheVariants as kind
use Rattle.wit_lex.specs.declared.word.Word.{Word}
use Rattle.wit_lex.specs.declared.word.Word.TheVariants as word

abbrev pub word_code : Word → ℕ
word_code word.Use = 0
word_code word.Type = 1
word_code word.Func = 2
word_code word.Async = 3
word_code word.Resource = 4
word_code word.Own = 5
word_code word.Borrow = 6
word_code word.Record = 7
word_code word.Flags = 8
word_code word.Variant = 9
word_code word.Enum = 10
word_code word.Bool = 11
word_code word.U8 = 12
word_code word.U16 = 13
word_code word.U32 = 14
word_code word.U64 = 15
word_code word.S8 = 16
word_code word.S16 = 17
word_code word.S32 = 18
word_code word.S64 = 19
word_code word.F32 = 20
word_code word.F64 = 21
word_code word.Char = 22
word_code word.String = 23
word_code word.Option = 24
word_code word.Result = 25
word_code word.Future = 26
word_code word.Stream = 27
word_code word.List = 28
word_code word.Map = 29
word_code word.Tuple = 30
word_code word.ErrorContext = 31
word_code word.As = 32
word_code word.Static = 33
word_code word.Interface = 34
word_code word.Import = 35
word_code word.Export = 36
word_code word.World = 37
word_code word.Package = 38
word_code word.Constructor = 39
word_code word.Include = 40
word_code word.With = 41

abbrev pub kind_code : Kind → ℕ
kind_code kind.Name = 0
kind_code kind.Number = 1
kind_code kind.Arrow = 2
kind_code kind.Equals = 3
kind_code kind.Comma = 4
kind_code kind.Colon = 5
kind_code kind.Semicolon = 6
kind_code kind.OpenParen = 7
kind_code kind.CloseParen = 8
kind_code kind.OpenBrace = 9
kind_code kind.CloseBrace = 10
kind_code kind.OpenAngle = 11
kind_code kind.CloseAngle = 12
kind_code kind.Dot = 13
kind_code kind.Slash = 14
kind_code kind.At = 15
kind_code kind.Underscore = 16
kind_code kind.End = 17
kind_code (kind.Word w) = 18 + word_code w

unfoldable pub same_kind : Kind → Kind → Bool
same_kind a b = kind_code a == kind_code b
