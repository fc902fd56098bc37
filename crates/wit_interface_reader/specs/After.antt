-- What is read after docs and attributes that were read before.
use Rattle.wit_reader.specs.declared.before_item.Prefix.{Prefix as WrittenPrefix}
use Rattle.wit_grammar.specs.Trees.{Prefix, NamedFunction, ResourceFunction, Definition}
use Rattle.wit_grammar.specs.Seen.{see_prefix}
use Rattle.wit_grammar.specs.Grammar.{Gram, act}
use Rattle.wit_grammar.specs.ItemRules.{named_function, named_func_of, constructed, maker_of, member, member_of, definition, definition_of}

abbrev pub prefix_of : WrittenPrefix → Prefix
prefix_of f = see_prefix f.docs f.attributes.items

abbrev pub named_after : WrittenPrefix → Gram NamedFunction
named_after f = act (λ x. named_func_of (prefix_of f) x.0 x.1) named_function

abbrev pub constructed_after : WrittenPrefix → Gram ResourceFunction
constructed_after f = act (maker_of (prefix_of f)) constructed

abbrev pub member_after : WrittenPrefix → Gram ResourceFunction
member_after f = act (member_of (prefix_of f)) member

abbrev pub defined_after : WrittenPrefix → Gram Definition
defined_after f = act (definition_of (prefix_of f)) definition
