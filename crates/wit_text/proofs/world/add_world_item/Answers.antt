use Rattle.std.proofs.Common.{rules}
use Rattle.std.proofs.lemmas.Result.{err_from_is_err_and}
use Rattle.wit_grammar.specs.Rules.{used}
use Rattle.wit_grammar.specs.ItemRules.{definition, extern, include}
use Rattle.wit_text.proofs.WorldItems.{at_definition, at_include, at_side, at_use, extern_part_item, defined_item, included_item, item_added, item_stops, used_item}
use Rattle.wit_text.proofs.world.add_world_item.Goals as goal

pub returns-then-at_word-clause-reads : goal.returns-then-at_word-clause-reads
returns-then-at_word-clause-reads c = item_added used used_item (at_use c.in_ok-prefix.ensures.reads (search rules)) c.in_ok-prefix.ensures.reads c.in_ok-add_use.ensures.reads

pub returns-then-at_word-2-clause-reads : goal.returns-then-at_word-2-clause-reads
returns-then-at_word-2-clause-reads c = item_added include included_item (at_include c.in_ok-prefix.ensures.reads (search rules) (search rules)) c.in_ok-prefix.ensures.reads c.in_ok-add_include.ensures.reads

pub returns-then-at_side-clause-reads : goal.returns-then-at_side-clause-reads
returns-then-at_side-clause-reads c =
    item_added extern extern_part_item (at_side c.in_ok-prefix.ensures.reads (search rules) (search rules) (search rules)) c.in_ok-prefix.ensures.reads c.in_ok-add_side.ensures.reads

pub returns-clause-reads : goal.returns-clause-reads
returns-clause-reads c =
    item_added definition defined_item (at_definition c.in_ok-prefix.ensures.reads (search rules) (search rules) (search rules)) c.in_ok-prefix.ensures.reads c.in_ok-add_definition.ensures.reads

pub returns-in_err-add_use-clause-stops : goal.returns-in_err-add_use-clause-stops
returns-in_err-add_use-clause-stops c =
    let p = err_from_is_err_and c.from_residual-in_err-add_use.result c.from_residual-in_err-add_use.ensures.1 in
    rw (p.1, p.2) (item_stops used used_item c.in_err-add_use.field-0.0 (at_use c.in_ok-prefix.ensures.reads (search rules)) c.in_ok-prefix.ensures.reads c.in_err-add_use.ensures.stops)

pub returns-in_err-add_include-clause-stops : goal.returns-in_err-add_include-clause-stops
returns-in_err-add_include-clause-stops c =
    let p = err_from_is_err_and c.from_residual-in_err-add_include.result c.from_residual-in_err-add_include.ensures.1 in
    rw (p.1, p.2) (item_stops include included_item c.in_err-add_include.field-0.0 (at_include c.in_ok-prefix.ensures.reads (search rules) (search rules)) c.in_ok-prefix.ensures.reads c.in_err-add_include.ensures.stops)

pub returns-in_err-add_side-clause-stops : goal.returns-in_err-add_side-clause-stops
returns-in_err-add_side-clause-stops c =
    let p = err_from_is_err_and c.from_residual-in_err-add_side.result c.from_residual-in_err-add_side.ensures.1 in
    rw (p.1, p.2) (item_stops extern extern_part_item c.in_err-add_side.field-0.0 (at_side c.in_ok-prefix.ensures.reads (search rules) (search rules) (search rules)) c.in_ok-prefix.ensures.reads c.in_err-add_side.ensures.stops)

pub returns-in_err-add_definition-clause-stops : goal.returns-in_err-add_definition-clause-stops
returns-in_err-add_definition-clause-stops c =
    let p = err_from_is_err_and c.from_residual-in_err-add_definition.result c.from_residual-in_err-add_definition.ensures.1 in
    rw (p.1, p.2) (item_stops definition defined_item c.in_err-add_definition.field-0.0 (at_definition c.in_ok-prefix.ensures.reads (search rules) (search rules) (search rules)) c.in_ok-prefix.ensures.reads c.in_err-add_definition.ensures.stops)
