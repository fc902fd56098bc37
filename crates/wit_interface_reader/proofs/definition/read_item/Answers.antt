use Rattle.std.proofs.Common.{refl, rules}
use Rattle.std.proofs.lemmas.Result.{err_from_is_err_and}
use Rattle.wit_grammar.specs.Trees.{uses, has_func, defines}
use Rattle.wit_grammar.specs.Rules.{prefix, used, use_of}
use Rattle.wit_grammar.specs.ItemRules.{named_function, named_func_of, definition, definition_of, interface_item}
use Rattle.wit_interface_reader.proofs.Items.{any_item, at_use, at_func, at_definition, use_item, func_item, defined_item}
use Rattle.wit_interface_reader.proofs.Prefixed.{read_after, stops_after}
use Rattle.wit_interface_reader.proofs.definition.read_item.Goals as goal

pub returns-then-at_word-clause-reads : goal.returns-then-at_word-clause-reads
unfolding interface_item
returns-then-at_word-clause-reads c =
    read_after prefix any_item used (use_of _) uses use_item (at_use c.in_ok-prefix.ensures.reads (search rules)) (λ x. refl) c.in_ok-prefix.ensures.reads c.in_ok-names.ensures.reads

pub returns-then-at-clause-reads : goal.returns-then-at-clause-reads
unfolding interface_item
returns-then-at-clause-reads c =
    read_after prefix any_item named_function (λ x. named_func_of _ x.0 x.1) has_func func_item (at_func c.in_ok-prefix.ensures.reads (search rules) (search rules)) (λ x. refl) c.in_ok-prefix.ensures.reads c.in_ok-func.ensures.reads

pub returns-clause-reads : goal.returns-clause-reads
unfolding interface_item
returns-clause-reads c =
    read_after prefix any_item definition (definition_of _) defines defined_item (at_definition c.in_ok-prefix.ensures.reads (search rules) (search rules)) (λ x. refl) c.in_ok-prefix.ensures.reads c.in_ok-definition.ensures.reads

pub returns-in_err-names-clause-stops : goal.returns-in_err-names-clause-stops
unfolding interface_item
returns-in_err-names-clause-stops c =
    let p = err_from_is_err_and c.from_residual-in_err-names.result c.from_residual-in_err-names.ensures.1 in
    rw (p.1, p.2) (stops_after prefix any_item used use_item _ (at_use c.in_ok-prefix.ensures.reads (search rules)) c.in_ok-prefix.ensures.reads c.in_err-names.ensures.stops)

pub returns-in_err-func-clause-stops : goal.returns-in_err-func-clause-stops
unfolding interface_item
returns-in_err-func-clause-stops c =
    let p = err_from_is_err_and c.from_residual-in_err-func.result c.from_residual-in_err-func.ensures.1 in
    rw (p.1, p.2) (stops_after prefix any_item named_function func_item _ (at_func c.in_ok-prefix.ensures.reads (search rules) (search rules)) c.in_ok-prefix.ensures.reads c.in_err-func.ensures.stops)

pub returns-in_err-definition-clause-stops : goal.returns-in_err-definition-clause-stops
unfolding interface_item
returns-in_err-definition-clause-stops c =
    let p = err_from_is_err_and c.from_residual-in_err-definition.result c.from_residual-in_err-definition.ensures.1 in
    rw (p.1, p.2) (stops_after prefix any_item definition defined_item _ (at_definition c.in_ok-prefix.ensures.reads (search rules) (search rules)) c.in_ok-prefix.ensures.reads c.in_err-definition.ensures.stops)
