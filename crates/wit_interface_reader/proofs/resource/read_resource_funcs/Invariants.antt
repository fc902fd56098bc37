use Rattle.std.proofs.Common.{◌-◌, length}
use Rattle.wit_grammar.specs.Seen.{see_resource_func}
use Rattle.wit_grammar.specs.ItemRules.{resource_function}
use Rattle.wit_interface_reader.proofs.Braces.{IsInBraces}
use Rattle.wit_interface_reader.proofs.resource.read_resource_funcs.Given as goal

abbrev pub invariant-funcs : goal.invariant-funcs
invariant-funcs l = IsInBraces see_resource_func resource_function l.fn.reader l.funcs.items l.reader

abbrev pub decreases-funcs : goal.decreases-funcs
decreases-funcs l = length l.fn.reader.source.now - l.reader.before
