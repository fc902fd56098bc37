use Rattle.std.proofs.Common.{◌-◌, length}
use Rattle.wit_lex.specs.declared.kind.Kind.TheVariants.{CloseBrace}
use Rattle.wit_grammar.specs.Seen.{see_field}
use Rattle.wit_grammar.specs.Grammar.{run}
use Rattle.wit_grammar.specs.ItemRules.{field}
use Rattle.wit_reader.specs.Reading.{spot}
use Rattle.wit_reader.proofs.Lists.{IsListing}
use Rattle.wit_interface_reader.specs.ReadParts.{braced_list}
use Rattle.wit_interface_reader.proofs.in_braces.read_fields.Given as goal

abbrev pub invariant-fields : goal.invariant-fields
invariant-fields l =
    IsListing see_field (run field) CloseBrace l.fn.reader (run (braced_list field) (spot l.fn.reader)) l.fields.items l.more l.reader

abbrev pub decreases-fields : goal.decreases-fields
decreases-fields l = length l.fn.reader.source.now - l.reader.before
