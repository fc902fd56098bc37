-- Numbers made of texts.
use Rattle.std.specs.Prelude.{ℕ, List}
use Rattle.std.specs.Hash.FoldHasher.{initial, write, finish}

-- the hash of a text's bytes
abbrev pub key_hash_of : List ℕ → ℕ
key_hash_of text = finish (write initial text)
