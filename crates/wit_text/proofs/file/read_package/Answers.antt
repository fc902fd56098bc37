use Rattle.std.proofs.Common.{rules, refl, []}
use Rattle.std.proofs.lemmas.Result.{err_from_is_err_and}
use Rattle.wit_grammar.specs.Seen.{see_nested}
use Rattle.wit_text.proofs.FileBeginning.{docs_stop, header_parsed, header_stops, name_stops, nested_first, nested_stops, none_more, one_nested}
use Rattle.wit_text.proofs.file.read_package.Goals as goal

pub returns-then-at-clause-adds : goal.returns-then-at-clause-adds
returns-then-at-clause-adds c =
    let p = nested_first c.in_ok-docs.ensures.reads c.in_ok-name.ensures.reads (search rules) c.in_ok-package.ensures.reads in
    record { begins = _; reads = p.1; header = refl; none = refl; added = one_nested c.args.nested.now c.push.new.items _ _ p.0 c.in_ok-push.ensures p.2 }

pub returns-clause-adds : goal.returns-clause-adds
returns-clause-adds c = rw c.in_ok-header.ensures.value (
    record {
      begins = _;
      reads = header_parsed c.in_ok-docs.ensures.reads c.in_ok-name.ensures.reads (search rules) c.in_ok-header.ensures.reads;
      header = refl;
      none = refl;
      added = none_more see_nested c.args.nested.now.items [] refl;
    }
    )

pub returns-in_err-docs-clause-stops : goal.returns-in_err-docs-clause-stops
returns-in_err-docs-clause-stops c =
    let p = err_from_is_err_and c.from_residual.result c.from_residual.ensures.1 in
    rw (p.1, p.2) (docs_stop c.args.reader.now c.in_err-docs.field-0.0 c.in_err-docs.ensures.stops)

pub returns-in_err-name-clause-stops : goal.returns-in_err-name-clause-stops
returns-in_err-name-clause-stops c =
    let p = err_from_is_err_and c.from_residual-in_err-name.result c.from_residual-in_err-name.ensures.1 in
    rw (p.1, p.2) (name_stops c.in_err-name.field-0.0 c.in_ok-docs.ensures.reads c.in_err-name.ensures.stops)

pub returns-in_err-package-clause-stops : goal.returns-in_err-package-clause-stops
returns-in_err-package-clause-stops c =
    let p = err_from_is_err_and c.from_residual-in_err-package.result c.from_residual-in_err-package.ensures.1 in
    rw (p.1, p.2) (nested_stops c.in_err-package.field-0.0 c.in_ok-docs.ensures.reads c.in_ok-name.ensures.reads (search rules) c.in_err-package.ensures.stops)

pub returns-in_err-header-clause-stops : goal.returns-in_err-header-clause-stops
returns-in_err-header-clause-stops c =
    let p = err_from_is_err_and c.from_residual-in_err-header.result c.from_residual-in_err-header.ensures.1 in
    rw (p.1, p.2) (header_stops c.in_err-header.field-0.0 c.in_ok-docs.ensures.reads c.in_ok-name.ensures.reads (search rules) c.in_err-header.ensures.stops)
