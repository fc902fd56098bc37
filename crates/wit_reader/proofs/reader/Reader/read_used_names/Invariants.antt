use Rattle.std.proofs.Common.{◌-◌, length}
use Rattle.wit_lex.specs.declared.kind.Kind.TheVariants.{CloseBrace}
use Rattle.wit_grammar.specs.Seen.{see_used}
use Rattle.wit_grammar.specs.Grammar.{run}
use Rattle.wit_grammar.specs.Rules.{used_name, used_names}
use Rattle.wit_reader.specs.Reading.{spot}
use Rattle.wit_reader.proofs.Lists.{IsListing}
use Rattle.wit_reader.proofs.reader.Reader.read_used_names.Given as goal

abbrev pub invariant-names : goal.invariant-names
invariant-names l = IsListing see_used (run used_name) CloseBrace l.fn.self (run used_names (spot l.fn.self)) l.names.items l.more l.self

abbrev pub decreases-names : goal.decreases-names
decreases-names l = length l.fn.self.source.now - l.self.before
