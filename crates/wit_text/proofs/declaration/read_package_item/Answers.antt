use Rattle.std.proofs.Common.{rules, refl, map}
use Rattle.std.proofs.lemmas.Result.{err_from_is_err_and}
use Rattle.wit_grammar.specs.Seen.{see_attribute, see_prefix}
use Rattle.wit_grammar.specs.Rules.{prefix, top_used, top_use_of}
use Rattle.wit_grammar.specs.Trees.{of_interface, of_use, of_world}
use Rattle.wit_grammar.specs.ItemRules.{declaration, interface_of, interface_rule, world_of, world_rule}
use Rattle.wit_reader.specs.Reading.{spot}
use Rattle.wit_interface_reader.proofs.Prefixed.{read_after, stops_after}
use Rattle.wit_text.proofs.Declared.{any_declaration, at_interface, at_use, at_world, declaration_stops, declared_item, declared_stops, docs_stop_item, prefix_parsed, interface_way, use_way, world_way}
use Rattle.wit_text.proofs.declaration.read_package_item.Goals as goal

pub returns-then-at_word-clause-reads : goal.returns-then-at_word-clause-reads
returns-then-at_word-clause-reads c = record { reads = c.in_ok-docs.ensures.reads; word = search rules }

pub returns-then-at_word-2-clause-reads : goal.returns-then-at_word-2-clause-reads
unfolding declaration
returns-then-at_word-2-clause-reads c = λ n.
    declared_item n c.in_ok-docs.ensures.reads (search rules) (
    read_after prefix any_declaration top_used (top_use_of (map see_attribute c.in_ok-attributes.attributes.items)) of_use use_way (at_use c.in_ok-attributes.ensures.reads (search rules)) (λ x. refl) (prefix_parsed c.in_ok-docs.ensures.reads c.in_ok-attributes.ensures.reads) c.in_ok-used.ensures.reads)

pub returns-then-at_word-3-clause-reads : goal.returns-then-at_word-3-clause-reads
unfolding declaration
returns-then-at_word-3-clause-reads c = λ n.
    declared_item n c.in_ok-docs.ensures.reads (search rules) (
    read_after prefix any_declaration world_rule (world_of (see_prefix c.in_ok-docs.docs c.in_ok-attributes.attributes.items)) of_world world_way (at_world c.in_ok-attributes.ensures.reads (search rules) (search rules)) (λ x. refl) (prefix_parsed c.in_ok-docs.ensures.reads c.in_ok-attributes.ensures.reads) c.in_ok-world.ensures.reads)

pub returns-clause-reads : goal.returns-clause-reads
unfolding declaration
returns-clause-reads c = λ n.
    declared_item n c.in_ok-docs.ensures.reads (search rules) (
    read_after prefix any_declaration interface_rule (interface_of (see_prefix c.in_ok-docs.docs c.in_ok-attributes.attributes.items)) of_interface interface_way (at_interface c.in_ok-attributes.ensures.reads (search rules) (search rules)) (λ x. refl)
    (prefix_parsed c.in_ok-docs.ensures.reads c.in_ok-attributes.ensures.reads) c.in_ok-interface.ensures.reads)

pub returns-in_err-docs-clause-stops : goal.returns-in_err-docs-clause-stops
returns-in_err-docs-clause-stops c =
    let p = err_from_is_err_and c.from_residual.result c.from_residual.ensures.1 in
    rw (p.1, p.2) (λ n. docs_stop_item n (spot c.args.reader.now) c.in_err-docs.field-0.0 c.in_err-docs.ensures.stops)

pub returns-in_err-attributes-clause-stops : goal.returns-in_err-attributes-clause-stops
returns-in_err-attributes-clause-stops c =
    let p = err_from_is_err_and c.from_residual-in_err-attributes.result c.from_residual-in_err-attributes.ensures.1 in
    rw (p.1, p.2) (λ n. declared_stops n c.in_err-attributes.field-0.0 c.in_ok-docs.ensures.reads (search rules) (declaration_stops c.in_err-attributes.field-0.0 c.in_ok-docs.ensures.reads c.in_err-attributes.ensures.stops))

pub returns-in_err-used-clause-stops : goal.returns-in_err-used-clause-stops
unfolding declaration
returns-in_err-used-clause-stops c =
    let p = err_from_is_err_and c.from_residual-in_err-used.result c.from_residual-in_err-used.ensures.1 in
    rw (p.1, p.2) (λ n. declared_stops n c.in_err-used.field-0.0 c.in_ok-docs.ensures.reads (search rules) (
    stops_after prefix any_declaration top_used use_way c.in_err-used.field-0.0 (at_use c.in_ok-attributes.ensures.reads (search rules)) (prefix_parsed c.in_ok-docs.ensures.reads c.in_ok-attributes.ensures.reads) c.in_err-used.ensures.stops))

pub returns-in_err-world-clause-stops : goal.returns-in_err-world-clause-stops
unfolding declaration
returns-in_err-world-clause-stops c =
    let p = err_from_is_err_and c.from_residual-in_err-world.result c.from_residual-in_err-world.ensures.1 in
    rw (p.1, p.2) (λ n. declared_stops n c.in_err-world.field-0.0 c.in_ok-docs.ensures.reads (search rules) (
    stops_after prefix any_declaration world_rule world_way c.in_err-world.field-0.0 (at_world c.in_ok-attributes.ensures.reads (search rules) (search rules)) (prefix_parsed c.in_ok-docs.ensures.reads c.in_ok-attributes.ensures.reads) c.in_err-world.ensures.stops))

pub returns-in_err-interface-clause-stops : goal.returns-in_err-interface-clause-stops
unfolding declaration
returns-in_err-interface-clause-stops c =
    let p = err_from_is_err_and c.from_residual-in_err-interface.result c.from_residual-in_err-interface.ensures.1 in
    rw (p.1, p.2) (λ n. declared_stops n c.in_err-interface.field-0.0 c.in_ok-docs.ensures.reads (search rules) (
    stops_after prefix any_declaration interface_rule interface_way c.in_err-interface.field-0.0 (at_interface c.in_ok-attributes.ensures.reads (search rules) (search rules)) (prefix_parsed c.in_ok-docs.ensures.reads c.in_ok-attributes.ensures.reads)
    c.in_err-interface.ensures.stops))
