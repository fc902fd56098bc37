-- Tables that know the unnamed entries of an arena, and the type that a list or an option is made of.
use Rattle.std.specs.Prelude.{◌≡◌, ◌⊎◌, ℕ, List, Option, Some, None, ◌+◌}
use Rattle.std.specs.Hash.FoldHasher.{initial, write, finish}
use Rattle.wit_arena.specs.Common.{At, IsUnnamedOf, TypeDef, TypeDefKind, fold}
use Rattle.wit_types.specs.declared.types.«Type».TheVariants.{Id}
use Rattle.wit_types.specs.declared.types.TypeDefKind.TheVariants as kind
use Rattle.wit_intern.specs.contracts.key.InternKeyHash.TheImpl.{hash_input-value as key_writes}
use Rattle.wit_intern.specs.declared.key.InternKey.{InternKey}
use Rattle.wit_intern.specs.TypeKeys.{key_of}
use Rattle.wit_intern.specs.FiniteMap.{FiniteMap, set_at}
use Rattle.std.specs.BTreeMap as tree
use Rattle.std.specs.Ordering.{nat_cmp}
use Rattle.wit_intern.specs.contracts.key.InternKeyOrd.TheImpl.{cmp-value as key_cmp}
use Rattle.wit_entries.specs.declared.unnamed_table.KeyTable.{KeyTable}

-- the hash of a key
abbrev pub key_hash_of : InternKey → ℕ
key_hash_of key = finish (fold write initial (key_writes.it key))

-- each unnamed entry has its place at the hash of the key of its kind, or at the key
abbrev pub AreKnown : (ℕ → Option ℕ) → FiniteMap → List TypeDef → Type 0
AreKnown key_hashes keys es = (j : ℕ) (e : TypeDef) (k : InternKey) → At es j e → e.name ≡ None → key_of e.kind ≡ Some k → (key_hashes (key_hash_of k) ≡ Some j) ⊎ (keys k ≡ Some j)

-- with a place at a key, if there is a key: at its hash, or at itself
pub data IsSet (key : Option InternKey) (i : ℕ) (key_hashes : ℕ → Option ℕ) (keys : FiniteMap) (new_key_hashes : ℕ → Option ℕ) (new_keys : FiniteMap) : Type 0 where
  Keyless : key ≡ None → new_key_hashes ≡ key_hashes → new_keys ≡ keys → IsSet key i key_hashes keys new_key_hashes new_keys
  AtKeyHash : (k : InternKey) → key ≡ Some k → ((n j : ℕ) → key_hashes n ≡ Some j → new_key_hashes n ≡ Some j) → new_key_hashes (key_hash_of k) ≡ Some i → new_keys ≡ keys → IsSet key i key_hashes keys new_key_hashes new_keys
  AtKey : (k : InternKey) → key ≡ Some k → new_key_hashes ≡ key_hashes → new_keys ≡ set_at k i keys → IsSet key i key_hashes keys new_key_hashes new_keys

-- no unnamed entry is of a kind
abbrev pub IsMissing : TypeDefKind → List TypeDef → Type 0
IsMissing kind es = (j : ℕ) (e : TypeDef) → At es j e → IsUnnamedOf kind e → ⊥

-- the unnamed entry of a kind is at a place, or where there is no place this is so
abbrev pub IsFoundOr : Type 0 → List TypeDef → TypeDefKind → Option ℕ → Type 0
IsFoundOr Other es kind (Some i) = (e : TypeDef) × At es i e × IsUnnamedOf kind e
IsFoundOr Other es kind None = Other

-- the place of the type that a list or an option is made of, unless that is a primitive
abbrev pub inner_of : TypeDefKind → Option ℕ
inner_of (kind.List (Id i)) = Some i
inner_of (kind.Option (Id i)) = Some i
inner_of k = None

-- the unnamed type of a kind is not right after the unnamed type that it is made of
abbrev pub IsNotAfter : List TypeDef → TypeDefKind → Type 0
IsNotAfter types kind = (i : ℕ) (inner e : TypeDef) → inner_of kind ≡ Some i → At types i inner → inner.name ≡ None → At types (i + 1) e → IsUnnamedOf kind e → ⊥

-- the place at a hash, if one is there
abbrev pub key_hashes_at : KeyTable → ℕ → Option ℕ
key_hashes_at table = tree.get nat_cmp table.key_hashes

-- the place at a key itself, if one is there
abbrev pub keys_at : KeyTable → FiniteMap
keys_at table = tree.get key_cmp.it table.keys
