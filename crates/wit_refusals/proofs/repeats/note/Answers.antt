use Rattle.std.proofs.lemmas.Map.Text.{btree_map_updates_str}
use Rattle.wit_refusals.proofs.repeats.note.Goals as goal

pub returns-in-Ok-clause-noted : goal.returns-in-Ok-clause-noted
returns-in-Ok-clause-noted c = btree_map_updates_str c.args.text.now c.args.seen.now c.insert.new.self _ c.in-Ok.ensures.updates
