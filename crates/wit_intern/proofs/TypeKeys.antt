-- Keys say kinds: each form and its parts are in the key.
use Rattle.std.proofs.Common.{◌≡◌, ◌∙◌, Some, ap, sym}
use Rattle.wit_types.specs.declared.types.TypeDefKind.{TypeDefKind}
use Rattle.wit_types.specs.declared.types.TypeDefKind.TheVariants as kind
use Rattle.wit_types.specs.declared.types.Handle.TheVariants as handle
use Rattle.wit_intern.specs.declared.key.InternKey.{InternKey}
use Rattle.wit_intern.specs.declared.key.InternKey.TheVariants as key
use Rattle.wit_intern.specs.TypeKeys.{KeysDetermine, key_of}

-- the kind of a key
abbrev kind_of : InternKey → TypeDefKind
kind_of (key.Borrow i) = kind.Handle (handle.Borrow i)
kind_of (key.Tuple types) = kind.Tuple (record { types = types })
kind_of (key.List t) = kind.List t
kind_of (key.Map k v) = kind.Map k v
kind_of (key.FixedLengthList t n) = kind.FixedLengthList t n
kind_of (key.Option t) = kind.Option t
kind_of (key.Result ok err) = kind.Result (record { ok = ok; err = err })
kind_of (key.Future t) = kind.Future t
kind_of (key.Stream t) = kind.Stream t

-- a kind that has a key is that key's kind
kind_of-key : (a : TypeDefKind) (k : InternKey) → key_of a ≡ Some k → a ≡ kind_of k
kind_of-key (kind.Record r) k h = cc
kind_of-key kind.Resource k h = cc
kind_of-key (kind.Handle (handle.Own i)) k h = cc
kind_of-key (kind.Handle (handle.Borrow i)) k h = let same : key.Borrow i ≡ k = cc in ap kind_of same
kind_of-key (kind.Flags f) k h = cc
kind_of-key (kind.Tuple t) k h = let same : key.Tuple t.types ≡ k = cc in ap kind_of same
kind_of-key (kind.Variant v) k h = cc
kind_of-key (kind.Enum e) k h = cc
kind_of-key (kind.Option t) k h = let same : key.Option t ≡ k = cc in ap kind_of same
kind_of-key (kind.Result r) k h = let same : key.Result r.ok r.err ≡ k = cc in ap kind_of same
kind_of-key (kind.List t) k h = let same : key.List t ≡ k = cc in ap kind_of same
kind_of-key (kind.Map u v) k h = let same : key.Map u v ≡ k = cc in ap kind_of same
kind_of-key (kind.FixedLengthList t n) k h = let same : key.FixedLengthList t n ≡ k = cc in ap kind_of same
kind_of-key (kind.Future t) k h = let same : key.Future t ≡ k = cc in ap kind_of same
kind_of-key (kind.Stream t) k h = let same : key.Stream t ≡ k = cc in ap kind_of same
kind_of-key (kind.Type_ t) k h = cc
kind_of-key kind.Unknown k h = cc

pub keys_determine : (a b : TypeDefKind) → KeysDetermine a b
keys_determine a b k ha hb = kind_of-key a k ha ∙ sym (kind_of-key b k hb)
