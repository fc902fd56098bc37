use Rattle.wit_grammar.specs.Trees.{world_defines}
use Rattle.wit_grammar.specs.Seen.{see_prefix}
use Rattle.wit_grammar.specs.ItemRules.{definition, definition_of}
use Rattle.wit_text.proofs.Makings.{wrapped}
use Rattle.wit_text.proofs.world.add_definition.Goals as goal

pub returns-clause-reads : goal.returns-clause-reads
returns-clause-reads c = record { item = _; items = c.in_ok-add.ensures; reads = wrapped world_defines (definition_of (see_prefix c.args.prefix.docs c.args.prefix.attributes.items)) definition c.in_ok-definition.ensures.reads }
