-- The words for what a type is.
use Rattle.std.specs.Prelude.{ℕ, List, codes}
use Rattle.wit_types.specs.declared.types.TypeDefKind.{TypeDefKind}
use Rattle.wit_types.specs.declared.types.TypeDefKind.TheVariants as kind
use Rattle.wit_types.specs.declared.types.Handle.TheVariants as handle

-- the word for a kind of types
abbrev pub word_of : TypeDefKind → List ℕ
word_of (kind.Record r) = codes "record"
word_of kind.Resource = codes "resource"
word_of (kind.Handle (handle.Own r)) = codes "own"
word_of (kind.Handle (handle.Borrow r)) = codes "borrow"
word_of (kind.Flags f) = codes "flags"
word_of (kind.Tuple t) = codes "tuple"
word_of (kind.Variant v) = codes "variant"
word_of (kind.Enum e) = codes "enum"
word_of (kind.Option t) = codes "option"
word_of (kind.Result r) = codes "result"
word_of (kind.List t) = codes "list"
word_of (kind.Map k v) = codes "map"
word_of (kind.FixedLengthList t n) = codes "fixed-length list"
word_of (kind.Future t) = codes "future"
word_of (kind.Stream t) = codes "stream"
word_of (kind.Type_ t) = codes "type"
word_of kind.Unknown = codes "unknown"
