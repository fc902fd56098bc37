use Rattle.std.proofs.Common.{map}
use Rattle.wit_grammar.specs.Trees.{includes}
use Rattle.wit_grammar.specs.Seen.{see_attribute}
use Rattle.wit_grammar.specs.ItemRules.{include, include_of}
use Rattle.wit_text.proofs.Makings.{wrapped}
use Rattle.wit_text.proofs.world.add_include.Goals as goal

pub returns-clause-reads : goal.returns-clause-reads
returns-clause-reads c = record { item = _; items = c.in_ok-add.ensures; reads = wrapped includes (include_of (map see_attribute c.args.attributes.items)) include c.in_ok-include.ensures.reads }
