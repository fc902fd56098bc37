use Rattle.std.proofs.Common.{◌≡◌, map, take}
use Rattle.wit_refusals.specs.KeyHashes.{key_hash_of}
use Rattle.wit_refusals.proofs.key_hashes.key_hashes_of.Given as goal

abbrev pub invariant-loop-text : goal.invariant-loop-text
invariant-loop-text l = l.key_hashes.items ≡ map (λ t. key_hash_of t.now) (take l.text-index l.texts)
