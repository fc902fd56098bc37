use Rattle.std.proofs.Common.{List, ℕ, Bor, map, ap, ◌∙◌}
use Rattle.wit_syntax.proofs.Common.{take_all}
use Rattle.wit_refusals.specs.KeyHashes.{key_hash_of}
use Rattle.wit_refusals.proofs.key_hashes.key_hashes_of.Goals as goal

pub returns : goal.returns
returns c = c.loop-text.invariant ∙ ap (map (λ (t : Bor (List ℕ)). key_hash_of t.now)) (take_all c.loop-text.text-index c.args.texts.now c.loop-text-test.false)
