use Rattle.std.proofs.lemmas.Result.{err_from_is_err_and}
use Rattle.wit_text.proofs.FileBeginning.{declaration_added, name_stops_item, nested_stops_item, package_added, whole_package}
use Rattle.wit_text.proofs.Kept.{declaration_read, package_begun}
use Rattle.wit_text.proofs.file.add_item.Goals as goal

pub returns-in_ok-push-in-Declaration-clause-adds : goal.returns-in_ok-push-in-Declaration-clause-adds
returns-in_ok-push-in-Declaration-clause-adds c = record {
  item = _;
  reads = declaration_read _ _ c.in-Declaration.is c.in_ok-item.ensures.reads 100;
  added = declaration_added c.args.items.now c.push.new.items c.args.nested.now _ c.in_ok-push-in-Declaration.ensures;
}

pub returns-in_ok-push-in-Package-clause-adds : goal.returns-in_ok-push-in-Package-clause-adds
returns-in_ok-push-in-Package-clause-adds c =
    let p = whole_package (package_begun _ _ c.in-Package.is c.in_ok-item.ensures.reads) c.in_ok-name-in-Package.ensures.reads c.in_ok-package-in-Package.ensures.reads in
    record { item = _; reads = p.1; added = package_added c.args.items.now c.args.nested.now c.push-in-Package.new.items c.in_ok-package-in-Package.package _ p.0 c.in_ok-push-in-Package.ensures p.2 }

pub returns-in_err-item-clause-stops : goal.returns-in_err-item-clause-stops
returns-in_err-item-clause-stops c =
    let p = err_from_is_err_and c.from_residual.result c.from_residual.ensures.1 in
    rw (p.1, p.2) (c.in_err-item.ensures.stops 100)

pub returns-in_err-name-in-Package-clause-stops : goal.returns-in_err-name-in-Package-clause-stops
returns-in_err-name-in-Package-clause-stops c =
    let p = err_from_is_err_and c.from_residual-in_err-name-in-Package.result c.from_residual-in_err-name-in-Package.ensures.1 in
    rw (p.1, p.2) (name_stops_item c.in_err-name-in-Package.field-0.0 (package_begun _ _ c.in-Package.is c.in_ok-item.ensures.reads) c.in_err-name-in-Package.ensures.stops)

pub returns-in_err-package-in-Package-clause-stops : goal.returns-in_err-package-in-Package-clause-stops
returns-in_err-package-in-Package-clause-stops c =
    let p = err_from_is_err_and c.from_residual-in_err-package-in-Package.result c.from_residual-in_err-package-in-Package.ensures.1 in
    let begun = package_begun _ _ c.in-Package.is c.in_ok-item.ensures.reads in
    rw (p.1, p.2) (nested_stops_item c.in_err-package-in-Package.field-0.0 begun c.in_ok-name-in-Package.ensures.reads c.in_err-package-in-Package.ensures.stops)
