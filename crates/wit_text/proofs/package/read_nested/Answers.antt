use Rattle.wit_grammar.specs.Seen.{see_package_id}
use Rattle.wit_text.proofs.Kept.{nested_parsed}
use Rattle.wit_text.proofs.package.read_nested.Goals as goal

pub returns-clause-reads : goal.returns-clause-reads
returns-clause-reads c = rw c.in_ok-header.ensures.both.0 (nested_parsed (see_package_id c.args.name) (rw c.in_ok-header.ensures.both.1 at c.read_nested_items.ensures.reads))
