-- What an unnamed type is found by: its form and its parts.
use Rattle.std.specs.Prelude.{◌≡◌, Option, Some, None}
use Rattle.wit_types.specs.declared.types.TypeDefKind.{TypeDefKind}
use Rattle.wit_types.specs.declared.types.TypeDefKind.TheVariants as kind
use Rattle.wit_types.specs.declared.types.Handle.TheVariants as handle
use Rattle.wit_intern.specs.declared.key.InternKey.{InternKey}
use Rattle.wit_intern.specs.declared.key.InternKey.TheVariants as key

-- the key of a kind, unless no unnamed type has it
abbrev pub key_of : TypeDefKind → Option InternKey
key_of (kind.Record r) = None
key_of kind.Resource = None
key_of (kind.Handle (handle.Own i)) = None
key_of (kind.Handle (handle.Borrow i)) = Some (key.Borrow i)
key_of (kind.Flags f) = None
key_of (kind.Tuple t) = Some (key.Tuple t.types)
key_of (kind.Variant v) = None
key_of (kind.Enum e) = None
key_of (kind.Option t) = Some (key.Option t)
key_of (kind.Result r) = Some (key.Result r.ok r.err)
key_of (kind.List t) = Some (key.List t)
key_of (kind.Map k v) = Some (key.Map k v)
key_of (kind.FixedLengthList t n) = Some (key.FixedLengthList t n)
key_of (kind.Future t) = Some (key.Future t)
key_of (kind.Stream t) = Some (key.Stream t)
key_of (kind.Type_ t) = None
key_of kind.Unknown = None

-- two kinds with one key are the same kind
abbrev pub KeysDetermine : TypeDefKind → TypeDefKind → Type 0
KeysDetermine a b = (k : InternKey) → key_of a ≡ Some k → key_of b ≡ Some k → a ≡ b
