use Rattle.std.proofs.Common.{rules}
use Rattle.std.proofs.lemmas.Result.{err_from_is_err_and}
use Rattle.wit_grammar.specs.Seen.{see_item}
use Rattle.wit_grammar.specs.ItemRules.{interface_item, interface_items}
use Rattle.wit_interface_reader.proofs.Braces.{braces_opened, braces_more, braces_closed, braces_stop, braces_unclosed}
use Rattle.wit_interface_reader.proofs.definition.read_interface_items.Goals as goal

pub items-init : goal.items-init
items-init c = rw c.new-items.ensures.items (braces_opened see_item interface_item c.in_ok-expect.ensures.reads)

pub items-preserved : goal.items-preserved
items-preserved c =
    braces_more interface_item c.add.new.items.items _ c.items.invariant (search rules) c.in_ok-item.ensures.reads c.in_ok-add.ensures

pub returns-clause-reads : goal.returns-clause-reads
unfolding interface_items
returns-clause-reads c = rw c.shrunk.ensures (braces_closed interface_item c.items.invariant (search rules) c.in_ok-bump.ensures.reads)

pub returns-in_err-item-clause-stops : goal.returns-in_err-item-clause-stops
unfolding interface_items
returns-in_err-item-clause-stops c =
    let p = err_from_is_err_and c.from_residual-in_err-item.result c.from_residual-in_err-item.ensures.1 in
    rw (p.1, p.2) (braces_stop interface_item _ c.items.invariant (search rules) c.in_err-item.ensures.stops)

pub returns-in_err-bump-clause-stops : goal.returns-in_err-bump-clause-stops
unfolding interface_items
returns-in_err-bump-clause-stops c =
    let p = err_from_is_err_and c.from_residual-in_err-bump.result c.from_residual-in_err-bump.ensures.1 in
    rw (p.1, p.2) (braces_unclosed interface_item _ c.items.invariant (search rules) c.in_err-bump.ensures.stops)
