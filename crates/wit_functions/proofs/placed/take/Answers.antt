use Rattle.std.proofs.Common.{ap, ◌∙◌}
use Rattle.std.proofs.lemmas.Map.Text.{btree_map_updates_text}
use Rattle.std.specs.BTreeMap.{get_by_text}
use Rattle.wit_functions.specs.Parted.{without}
use Rattle.wit_functions.proofs.placed.take.Goals as goal

pub returns-in-Some-clause-left : goal.returns-in-Some-clause-left
returns-in-Some-clause-left g c = λ name. btree_map_updates_text c.in-Some.name.now c.args.waiting.now c.remove.new.self _ c.remove.ensures.updates name ∙ ap (λ o. without o (get_by_text c.args.waiting.now) name) c.in-Some.ensures
