use Rattle.wit_grammar.specs.Trees.{crosses}
use Rattle.wit_grammar.specs.Seen.{see_prefix}
use Rattle.wit_grammar.specs.ItemRules.{extern, extern_of}
use Rattle.wit_text.proofs.Makings.{wrapped}
use Rattle.wit_text.proofs.world.add_side.Goals as goal

pub returns-clause-reads : goal.returns-clause-reads
returns-clause-reads c = record { item = _; items = c.in_ok-add.ensures; reads = wrapped crosses (extern_of (see_prefix c.args.prefix.docs c.args.prefix.attributes.items)) extern c.in_ok-side.ensures.reads }
