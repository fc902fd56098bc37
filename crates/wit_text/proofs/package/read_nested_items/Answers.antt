use Rattle.std.proofs.Common.{rules, refl, []}
use Rattle.std.proofs.lemmas.Result.{err_from_is_err_and}
use Rattle.wit_grammar.specs.ItemRules.{item_to}
use Rattle.wit_reader.specs.Reading.{spot}
use Rattle.wit_interface_reader.proofs.Braces.{braces_opened}
use Rattle.wit_text.proofs.Kept.{declaration_kept, declaration_read, items_stop, items_unclosed, items_unopened, itself, kept_closed, name_kept, package_begun, package_item, package_item_stops}
use Rattle.wit_text.proofs.package.read_nested_items.Goals as goal

pub items-init : goal.items-init
items-init c = rw (c.new-items.ensures.items, c.new-inner.ensures.items) (
    record { items = []; reads = braces_opened itself (item_to 99) c.in_ok-expect.ensures.reads; declarations = refl; names = refl }
    )

pub items-preserved-in-Continue-branch-3 : goal.items-preserved-in-Continue-branch-3
items-preserved-in-Continue-branch-3 c =
    declaration_kept c.add.new.items.items _ c.items.invariant (search rules) (declaration_read _ _ c.in-Declaration.is c.in_ok-item.ensures.reads 99) c.in_ok-add-in-Declaration.ensures

pub items-preserved : goal.items-preserved
items-preserved c =
    let p = package_item 99 (package_begun _ _ c.in-Package.is c.in_ok-item.ensures.reads) c.in_ok-name-in-Package.ensures.reads in
    name_kept c.push.new.items.items _ p.0 c.items.invariant (search rules) p.1 c.in_ok-push-in-Package.ensures

pub returns-clause-reads : goal.returns-clause-reads
returns-clause-reads c = kept_closed c.items.invariant (search rules) c.in_ok-bump.ensures.reads

pub returns-in_err-expect-clause-stops : goal.returns-in_err-expect-clause-stops
returns-in_err-expect-clause-stops c =
    let p = err_from_is_err_and c.from_residual.result c.from_residual.ensures.1 in
    rw (p.1, p.2) (items_unopened (spot c.args.reader.now) (item_to 99) c.in_err-expect.field-0.0 c.in_err-expect.ensures.stops)

pub returns-in_err-item-clause-stops : goal.returns-in_err-item-clause-stops
returns-in_err-item-clause-stops c =
    let p = err_from_is_err_and c.from_residual-in_err-item.result c.from_residual-in_err-item.ensures.1 in
    rw (p.1, p.2) (items_stop 99 c.in_err-item.field-0.0 c.items.invariant.reads (search rules) (c.in_err-item.ensures.stops 99))

pub returns-in_err-bump-clause-stops : goal.returns-in_err-bump-clause-stops
returns-in_err-bump-clause-stops c =
    let p = err_from_is_err_and c.from_residual-in_err-bump.result c.from_residual-in_err-bump.ensures.1 in
    rw (p.1, p.2) (items_unclosed 99 c.in_err-bump.field-0.0 c.items.invariant.reads (search rules) c.in_err-bump.ensures.stops)

pub returns-in_err-name-in-Package-clause-stops : goal.returns-in_err-name-in-Package-clause-stops
returns-in_err-name-in-Package-clause-stops c =
    let p = err_from_is_err_and c.from_residual-in_err-name-in-Package.result c.from_residual-in_err-name-in-Package.ensures.1 in
    let e = c.in_err-name-in-Package.field-0.0 in
    rw (p.1, p.2) (items_stop 99 e c.items.invariant.reads (search rules) (package_item_stops 99 e (package_begun _ _ c.in-Package.is c.in_ok-item.ensures.reads) c.in_err-name-in-Package.ensures.stops))
