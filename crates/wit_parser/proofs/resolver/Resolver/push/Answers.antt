use Rattle.wit_items.proofs.Common.{err_from_is_err_and, finds_memory, headers, nesting_fault, none_both, option_or, push_fault, reports_back, reports_prefix, second_docs_fault}
use Rattle.wit_parser.proofs.resolver.Resolver.push.Goals as goal

pub returns-in_err-check_header-clause-first : goal.returns-in_err-check_header-clause-first
returns-in_err-check_header-clause-first c =
    let p = err_from_is_err_and c.from_residual.result c.from_residual.ensures.1 in
    let files = c.args.self.now.files.items in
    let source = c.args.source in
    rw (p.1, p.2) (reports_prefix (option_or (second_docs_fault (headers files) source.file.package_id) (nesting_fault source.nested.items)) (rw c.last_header.ensures at c.in_err-check_header.ensures))

pub returns-in_err-check_docs-clause-first : goal.returns-in_err-check_docs-clause-first
returns-in_err-check_docs-clause-first c =
    let p = err_from_is_err_and c.from_residual-in_err-check_docs.result c.from_residual-in_err-check_docs.ensures.1 in
    let files = c.args.self.now.files.items in
    rw (p.1, p.2) (reports_back (rw c.last_header.ensures at c.in_ok-check_header.ensures) (reports_prefix (nesting_fault c.args.source.nested.items) (c.in_err-check_docs.ensures (headers files) c.args.self.now.docs)))

pub returns-in_err-check_nested-clause-first : goal.returns-in_err-check_nested-clause-first
returns-in_err-check_nested-clause-first c =
    let p = err_from_is_err_and c.from_residual-in_err-check_nested.result c.from_residual-in_err-check_nested.ensures.1 in
    let files = c.args.self.now.files.items in
    rw (p.1, p.2) (reports_back (rw c.last_header.ensures at c.in_ok-check_header.ensures) (reports_back (c.in_ok-check_docs.ensures (headers files) c.args.self.now.docs) (rw c.deref.ensures.value at c.in_err-check_nested.ensures)))

pub returns-clause-first : goal.returns-clause-first
returns-clause-first c = finds_memory (push_fault c.args.self.now.files.items c.args.source) c.keep.result (none_both (rw c.last_header.ensures at c.in_ok-check_header.ensures) (none_both (c.in_ok-check_docs.ensures (headers c.args.self.now.files.items) c.args.self.now.docs) (rw c.deref.ensures.value at c.in_ok-check_nested.ensures))) c.keep.ensures.wanted
