use Rattle.std.proofs.Common.{map}
use Rattle.wit_grammar.specs.Trees.{world_uses}
use Rattle.wit_grammar.specs.Seen.{see_attribute}
use Rattle.wit_grammar.specs.Rules.{used, use_of}
use Rattle.wit_text.proofs.Makings.{wrapped}
use Rattle.wit_text.proofs.world.add_use.Goals as goal

pub returns-clause-reads : goal.returns-clause-reads
returns-clause-reads c = record { item = _; items = c.in_ok-add.ensures; reads = wrapped world_uses (use_of (map see_attribute c.args.attributes.items)) used c.in_ok-names.ensures.reads }
