-- What is refused where no further level of types is read.
use Rattle.std.specs.Prelude.{Bool, true, false, cond}
use Rattle.wit_lex.specs.declared.fault.ReadError.{ReadError}
use Rattle.wit_lex.specs.declared.fault.ReadError.TheVariants.{Fault}
use Rattle.wit_lex.specs.declared.fault.ReadFault.TheVariants as fault
use Rattle.wit_lex.specs.declared.kind.Kind.{Kind}
use Rattle.wit_lex.specs.declared.kind.Kind.TheVariants as kind
use Rattle.wit_lex.specs.declared.token.Token.{Token}
use Rattle.wit_lex.specs.declared.word.Word.{Word}
use Rattle.wit_lex.specs.declared.word.Word.TheVariants as word
use Rattle.wit_reader.specs.Primitives.{is_primitive}

-- the word of a type that is made of others, of a handle, or of a primitive type
abbrev pub word_begins_type : Word → Bool
word_begins_type word.List = true
word_begins_type word.Map = true
word_begins_type word.Option = true
word_begins_type word.Result = true
word_begins_type word.Tuple = true
word_begins_type word.Future = true
word_begins_type word.Stream = true
word_begins_type word.Own = true
word_begins_type word.Borrow = true
word_begins_type other = is_primitive other

abbrev pub kind_begins_type : Kind → Bool
kind_begins_type kind.Name = true
kind_begins_type (kind.Word word) = word_begins_type word
kind_begins_type other = false

-- a type is nested too deeply, or the token begins none
abbrev pub deeper_fault : Token → ReadError
deeper_fault t = Fault (cond (kind_begins_type t.kind) fault.Nesting fault.Token) t.start t.end
