use Rattle.std.proofs.Common.{◌-◌, length}
use Rattle.wit_lex.specs.declared.kind.Kind.TheVariants.{CloseParen}
use Rattle.wit_grammar.specs.Seen.{see_param}
use Rattle.wit_grammar.specs.Grammar.{run}
use Rattle.wit_grammar.specs.Rules.{param, params}
use Rattle.wit_reader.specs.Reading.{spot}
use Rattle.wit_reader.proofs.Lists.{IsListing}
use Rattle.wit_interface_reader.proofs.function.read_params.Given as goal

abbrev pub invariant-params : goal.invariant-params
invariant-params l =
    IsListing see_param (run param) CloseParen l.fn.reader (run params (spot l.fn.reader)) l.params.items l.more l.reader

abbrev pub decreases-params : goal.decreases-params
decreases-params l = length l.fn.reader.source.now - l.reader.before
