use Rattle.std.proofs.Common.{refl, sym, ap, ◌∙◌}
use Rattle.wit_entries.specs.Known.{AtKeyHash, AtKey, key_hashes_at}
use Rattle.wit_entries.proofs.Digested.{key_hashes_kept, key_hash_there}
use Rattle.wit_entries.proofs.unnamed_table.KeyTable.insert.Goals as goal

pub returns-in-Ok-clause-set : goal.returns-in-Ok-clause-set
returns-in-Ok-clause-set c = AtKey c.args.key refl refl c.in-Ok.ensures.set

pub returns-in-Ok-insert-clause-set : goal.returns-in-Ok-insert-clause-set
returns-in-Ok-insert-clause-set c =
    let old = c.args.self.now.key_hashes in
    let new = c.insert-else-contains_key.new.self in
    let key_hash = c.key_hash-key_hash.result in
    AtKeyHash c.args.key refl
    (key_hashes_kept old new key_hash c.args.id (sym c.contains_key.ensures ∙ c.if-contains_key.false) c.in-Ok-insert.ensures.updates)
    (ap (key_hashes_at (record { key_hashes = new; keys = c.args.self.now.keys })) (sym c.key_hash-key_hash.ensures) ∙ key_hash_there old new key_hash c.args.id c.in-Ok-insert.ensures.updates)
    refl
