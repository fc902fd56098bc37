use Rattle.std.proofs.Common.{◌-◌, length}
use Rattle.wit_lex.specs.declared.kind.Kind.TheVariants.{OpenBrace, CloseBrace}
use Rattle.wit_grammar.specs.Seen.{see_renamed}
use Rattle.wit_grammar.specs.Grammar.{listed, run}
use Rattle.wit_grammar.specs.ItemRules.{renamed}
use Rattle.wit_reader.specs.Reading.{spot}
use Rattle.wit_reader.proofs.Lists.{IsListing}
use Rattle.wit_text.proofs.world.read_renamed_names.Given as goal

abbrev pub invariant-names : goal.invariant-names
invariant-names l = IsListing see_renamed (run renamed) CloseBrace l.fn.reader (run (listed OpenBrace CloseBrace renamed) (spot l.fn.reader)) l.names.items l.more l.reader

abbrev pub decreases-names : goal.decreases-names
decreases-names l = length l.fn.reader.source.now - l.reader.before
