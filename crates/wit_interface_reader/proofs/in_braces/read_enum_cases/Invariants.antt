use Rattle.std.proofs.Common.{◌-◌, length}
use Rattle.wit_lex.specs.declared.kind.Kind.TheVariants.{CloseBrace}
use Rattle.wit_grammar.specs.Seen.{see_enum_case}
use Rattle.wit_grammar.specs.Grammar.{run}
use Rattle.wit_grammar.specs.ItemRules.{flag}
use Rattle.wit_reader.specs.Reading.{spot}
use Rattle.wit_reader.proofs.Lists.{IsListing}
use Rattle.wit_interface_reader.specs.ReadParts.{braced_list}
use Rattle.wit_interface_reader.proofs.in_braces.read_enum_cases.Given as goal

abbrev pub invariant-cases : goal.invariant-cases
invariant-cases l =
    IsListing see_enum_case (run flag) CloseBrace l.fn.reader (run (braced_list flag) (spot l.fn.reader)) l.cases.items l.more l.reader

abbrev pub decreases-cases : goal.decreases-cases
decreases-cases l = length l.fn.reader.source.now - l.reader.before
