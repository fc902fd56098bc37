use Rattle.std.proofs.Common.{◌-◌, length}
use Rattle.wit_grammar.specs.Seen.{see_attribute}
use Rattle.wit_grammar.specs.Grammar.{run, starts}
use Rattle.wit_grammar.specs.Rules.{attribute, attributes}
use Rattle.wit_reader.specs.Reading.{spot}
use Rattle.wit_reader.proofs.Several.{IsSeveral}
use Rattle.wit_reader.proofs.reader.Reader.read_attributes.Given as goal

abbrev pub invariant-attributes : goal.invariant-attributes
invariant-attributes l = IsSeveral see_attribute (starts attribute) (run attribute) l.fn.self (run attributes (spot l.fn.self)) l.attributes.items l.self

abbrev pub decreases-attributes : goal.decreases-attributes
decreases-attributes l = length l.fn.self.source.now - l.self.before
