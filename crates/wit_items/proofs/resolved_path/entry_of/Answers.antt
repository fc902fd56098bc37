use Rattle.std.proofs.Common.{ap, ◌∙◌}
use Rattle.wit_items.specs.ItemPaths.{entry_at}
use Rattle.wit_items.proofs.resolved_path.entry_of.Goals as goal

pub returns : goal.returns
returns c = c.entry_there.ensures ∙ ap (entry_at c.args.files.now) c.target.ensures
