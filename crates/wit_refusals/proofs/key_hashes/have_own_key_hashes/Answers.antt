use Rattle.std.proofs.Common.{◌≡◌, map, subst, sym, ◌∙◌}
use Rattle.wit_syntax.proofs.Common.{IsPermutation, IsStrictlyIncreasing, map_map}
use Rattle.wit_refusals.specs.KeyHashes.{key_hash_of}
use Rattle.wit_refusals.proofs.Apart.{differ_by_key_hashes}
use Rattle.wit_refusals.proofs.key_hashes.have_own_key_hashes.Goals as goal

pub returns : goal.returns
returns c = λ own.
    let texts = map (λ t. t.now) c.args.texts.now in
    let sorted = c.sort_unstable.new.self.items in
    let made : c.in_ok-key_hashes.key_hashes.items ≡ map key_hash_of texts = c.in_ok-key_hashes.ensures ∙ sym (map_map key_hash_of (λ t. t.now) c.args.texts.now) in
    differ_by_key_hashes texts sorted (subst (λ ds. IsPermutation ds sorted) made c.sort_unstable.ensures.permutation) (subst IsStrictlyIncreasing c.deref.ensures.value (c.rise.ensures own))
