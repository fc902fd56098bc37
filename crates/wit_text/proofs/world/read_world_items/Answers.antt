use Rattle.std.proofs.Common.{rules}
use Rattle.std.proofs.lemmas.Result.{err_from_is_err_and}
use Rattle.wit_grammar.specs.Seen.{see_world_item}
use Rattle.wit_grammar.specs.ItemRules.{world_item, world_items}
use Rattle.wit_interface_reader.proofs.Braces.{braces_opened, braces_more, braces_closed, braces_stop, braces_unclosed}
use Rattle.wit_text.proofs.world.read_world_items.Goals as goal

pub items-init : goal.items-init
items-init c = rw c.new-items.ensures.items (braces_opened see_world_item world_item c.in_ok-expect.ensures.reads)

pub items-preserved : goal.items-preserved
items-preserved c =
    let added = c.in_ok-add_world_item.ensures.reads in
    braces_more world_item _ added.item c.items.invariant (search rules) added.reads added.items

pub returns-clause-reads : goal.returns-clause-reads
unfolding world_items
returns-clause-reads c = rw c.shrunk.ensures (braces_closed world_item c.items.invariant (search rules) c.in_ok-bump.ensures.reads)

pub returns-in_err-add_world_item-clause-stops : goal.returns-in_err-add_world_item-clause-stops
unfolding world_items
returns-in_err-add_world_item-clause-stops c =
    let p = err_from_is_err_and c.from_residual-in_err-add_world_item.result c.from_residual-in_err-add_world_item.ensures.1 in
    rw (p.1, p.2) (braces_stop world_item c.in_err-add_world_item.field-0.0 c.items.invariant (search rules) c.in_err-add_world_item.ensures.stops)

pub returns-in_err-bump-clause-stops : goal.returns-in_err-bump-clause-stops
unfolding world_items
returns-in_err-bump-clause-stops c =
    let p = err_from_is_err_and c.from_residual-in_err-bump.result c.from_residual-in_err-bump.ensures.1 in
    rw (p.1, p.2) (braces_unclosed world_item c.in_err-bump.field-0.0 c.items.invariant (search rules) c.in_err-bump.ensures.stops)
