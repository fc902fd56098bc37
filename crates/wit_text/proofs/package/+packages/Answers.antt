use Rattle.std.proofs.Common.{rules, arith, [], ◌-◌}
use Rattle.std.proofs.lemmas.Result.{err_from_is_err_and}
use Rattle.wit_grammar.specs.Seen.{see_docs}
use Rattle.wit_grammar.specs.ItemRules.{item_to}
use Rattle.wit_reader.specs.Reading.{spot}
use Rattle.wit_interface_reader.proofs.Braces.{braces_opened}
use Rattle.wit_text.proofs.Kept.{declaration_read, inner_deeper, inner_named_stops, inner_parsed, inner_stops, items_stop, items_unclosed, items_unopened, itself, package_begun, package_item, package_item_stops, passed_closed, passed_more}
use Rattle.wit_text.proofs.package.+packages.Goals as goal

pub pass_items-items-init : goal.pass_items-items-init
pass_items-items-init t c = ([], braces_opened itself (item_to c.args.left) c.in_ok-expect.ensures.reads)

pub pass_items-items-preserved : goal.pass_items-items-preserved
pass_items-items-preserved t c = passed_more c.args.left c.items.invariant (search rules) c.in_ok-pass_item.ensures.reads

pub pass_items-returns-clause-reads : goal.pass_items-returns-clause-reads
pass_items-returns-clause-reads t c = passed_closed c.args.left c.items.invariant (search rules) c.in_ok-bump.ensures.reads

pub pass_items-returns-in_err-expect-clause-stops : goal.pass_items-returns-in_err-expect-clause-stops
pass_items-returns-in_err-expect-clause-stops t c =
    let p = err_from_is_err_and c.from_residual.result c.from_residual.ensures.1 in
    rw (p.1, p.2) (items_unopened (spot c.args.reader.now) (item_to c.args.left) c.in_err-expect.field-0.0 c.in_err-expect.ensures.stops)

pub pass_items-returns-in_err-pass_item-clause-stops : goal.pass_items-returns-in_err-pass_item-clause-stops
pass_items-returns-in_err-pass_item-clause-stops t c =
    let p = err_from_is_err_and c.from_residual-in_err-pass_item.result c.from_residual-in_err-pass_item.ensures.1 in
    rw (p.1, p.2) (items_stop c.args.left c.in_err-pass_item.field-0.0 c.items.invariant.1 (search rules) c.in_err-pass_item.ensures.stops)

pub pass_items-returns-in_err-bump-clause-stops : goal.pass_items-returns-in_err-bump-clause-stops
pass_items-returns-in_err-bump-clause-stops t c =
    let p = err_from_is_err_and c.from_residual-in_err-bump.result c.from_residual-in_err-bump.ensures.1 in
    rw (p.1, p.2) (items_unclosed c.args.left c.in_err-bump.field-0.0 c.items.invariant.1 (search rules) c.in_err-bump.ensures.stops)

pub pass_item-returns-in-Declaration-clause-reads : goal.pass_item-returns-in-Declaration-clause-reads
pass_item-returns-in-Declaration-clause-reads t c = record { value = _; reads = declaration_read _ _ c.in-Declaration.is c.in_ok-item.ensures.reads c.args.left }

pub read_inner-returns-clause-reads : goal.read_inner-returns-clause-reads
read_inner-returns-clause-reads t c =
    rw c.in_ok-name.ensures.both.0 (inner_parsed (see_docs c.args.docs) c.args.left (c.args.left - 1) (omega arith) c.in_ok-header.ensures.reads (rw c.in_ok-name.ensures.both.1 at c.pass_items.ensures.reads))

pub pass_item-returns-in_ok-read_inner-in-Package-clause-reads : goal.pass_item-returns-in_ok-read_inner-in-Package-clause-reads
pass_item-returns-in_ok-read_inner-in-Package-clause-reads t c =
    let p = package_item c.args.left (package_begun _ _ c.in-Package.is c.in_ok-item.ensures.reads) c.in_ok-read_inner-in-Package.ensures.reads in
    record { value = _; reads = p.1 }

pub pass_item-returns-in_err-item-clause-stops : goal.pass_item-returns-in_err-item-clause-stops
pass_item-returns-in_err-item-clause-stops t c =
    let p = err_from_is_err_and c.from_residual.result c.from_residual.ensures.1 in
    rw (p.1, p.2) (c.in_err-item.ensures.stops c.args.left)

pub pass_item-returns-in_err-read_inner-in-Package-clause-stops : goal.pass_item-returns-in_err-read_inner-in-Package-clause-stops
pass_item-returns-in_err-read_inner-in-Package-clause-stops t c =
    let p = err_from_is_err_and c.from_residual-in_err-read_inner-in-Package.result c.from_residual-in_err-read_inner-in-Package.ensures.1 in
    let begun = package_begun _ _ c.in-Package.is c.in_ok-item.ensures.reads in
    rw (p.1, p.2) (package_item_stops c.args.left c.in_err-read_inner-in-Package.field-0.0 begun c.in_err-read_inner-in-Package.ensures.stops)

pub read_inner-returns-then-left-eq0-clause-stops : goal.read_inner-returns-then-left-eq0-clause-stops
read_inner-returns-then-left-eq0-clause-stops t c = rw c.refuse_level.ensures (inner_deeper c.args.reader.now c.args.left (search rules))

pub read_inner-returns-in_err-header-clause-stops : goal.read_inner-returns-in_err-header-clause-stops
read_inner-returns-in_err-header-clause-stops t c =
    let p = err_from_is_err_and c.from_residual.result c.from_residual.ensures.1 in
    rw (p.1, p.2) (inner_named_stops c.args.reader.now c.args.left (c.args.left - 1) c.in_err-header.field-0.0 (omega arith) c.in_err-header.ensures.stops)

pub read_inner-returns-in_err-name-clause-stops : goal.read_inner-returns-in_err-name-clause-stops
read_inner-returns-in_err-name-clause-stops t c =
    let p = err_from_is_err_and c.from_residual-in_err-name.result c.from_residual-in_err-name.ensures.1 in
    let stops = rw c.in_err-name.ensures.refused at c.pass_items.ensures.stops in
    rw (p.1, p.2) (inner_stops (see_docs c.args.docs) c.args.left (c.args.left - 1) c.in_err-name.field-0.0 (omega arith) c.in_ok-header.ensures.reads stops)
