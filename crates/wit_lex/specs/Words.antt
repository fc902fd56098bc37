-- The words of the grammar, as they are written, and names without their `%`.
use Rattle.std.specs.Prelude.{◌≡◌, ℕ, ◌==◌, List, codes, drop, if◌then◌else◌, slice_index}
use Rattle.wit_lex.specs.declared.word.Word.{Word}
use Rattle.wit_lex.specs.declared.word.Word.TheVariants as word

abbrev pub word_text : Word → List ℕ
word_text word.Use = codes "use"
word_text word.Type = codes "type"
word_text word.Func = codes "func"
word_text word.Async = codes "async"
word_text word.Resource = codes "resource"
word_text word.Own = codes "own"
word_text word.Borrow = codes "borrow"
word_text word.Record = codes "record"
word_text word.Flags = codes "flags"
word_text word.Variant = codes "variant"
word_text word.Enum = codes "enum"
word_text word.Bool = codes "bool"
word_text word.U8 = codes "u8"
word_text word.U16 = codes "u16"
word_text word.U32 = codes "u32"
word_text word.U64 = codes "u64"
word_text word.S8 = codes "s8"
word_text word.S16 = codes "s16"
word_text word.S32 = codes "s32"
word_text word.S64 = codes "s64"
word_text word.F32 = codes "f32"
word_text word.F64 = codes "f64"
word_text word.Char = codes "char"
word_text word.String = codes "string"
word_text word.Option = codes "option"
word_text word.Result = codes "result"
word_text word.Future = codes "future"
word_text word.Stream = codes "stream"
word_text word.List = codes "list"
word_text word.Map = codes "map"
word_text word.Tuple = codes "tuple"
word_text word.ErrorContext = codes "error-context"
word_text word.As = codes "as"
word_text word.Static = codes "static"
word_text word.Interface = codes "interface"
word_text word.Import = codes "import"
word_text word.Export = codes "export"
word_text word.World = codes "world"
word_text word.Package = codes "package"
word_text word.Constructor = codes "constructor"
word_text word.Include = codes "include"
word_text word.With = codes "with"

-- the text is none of these words
abbrev pub IsPlain : List ℕ → Type 0
IsPlain text = (word : Word) → text ≡ word_text word → ⊥

-- a prefix `%` taken off
abbrev pub unescaped : List ℕ → List ℕ
unescaped text = if slice_index text 0 == 37 then drop 1 text else text
