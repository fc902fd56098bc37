use Rattle.std.proofs.Common.{refl}
use Rattle.wit_entries.specs.Known.{key_hashes_at, keys_at}
use Rattle.wit_entries.proofs.Known.{known_named}
use Rattle.wit_entries.proofs.entries.Entries.add_named.Goals as goal

pub invariant_of-self-2 : goal.invariant_of-self-2
invariant_of-self-2 c = (known_named (key_hashes_at c.self.inside.table) (keys_at c.self.inside.table) _ _ _ c.in_ok-id.ensures.added refl c.self.invariant.0, c.in_ok-id.ensures.as_stated c.self.invariant.1)
