use Rattle.std.proofs.Common.{refl}
use Rattle.wit_contents.proofs.Names.{err_from_is_err_and, none_both, reports_back, reports_prefix}
use Rattle.wit_contents.proofs.FileFaults.{memory_found}
use Rattle.wit_contents.proofs.walk.put_resolved.Goals as goal

pub returns-clause-seen : goal.returns-clause-seen
returns-clause-seen c = λ xs seen. c.in_ok-seen.ensures xs c.args.inline.now.written.now c.args.inline.now.name c.args.inline.now.items.now refl seen

pub returns-clause-puts : goal.returns-clause-puts
returns-clause-puts c = c.in_ok-put_inline.ensures.puts c.args.inline.now.items.now

pub returns-in_err-check_metadata-clause-first : goal.returns-in_err-check_metadata-clause-first
returns-in_err-check_metadata-clause-first c =
    let p = err_from_is_err_and c.from_residual.result c.from_residual.ensures.1 in
    let said = rw c.deref.ensures.value at c.in_err-check_metadata.ensures in
    rw (p.1, p.2) (reports_prefix _ said)

pub returns-in_err-put_inline-clause-first : goal.returns-in_err-put_inline-clause-first
returns-in_err-put_inline-clause-first c =
    let p = err_from_is_err_and c.from_residual-in_err-put_inline.result c.from_residual-in_err-put_inline.ensures.1 in
    let noted = rw c.deref.ensures.value at c.in_ok-check_metadata.ensures in
    rw (p.1, p.2) (reports_back noted (c.in_err-put_inline.ensures.first c.args.inline.now.items.now))

pub returns-in_err-seen-clause-first : goal.returns-in_err-seen-clause-first
returns-in_err-seen-clause-first c = memory_found _ c.from_residual-in_err-seen.result c.from_residual-in_err-seen.ensures.1

pub returns-clause-first : goal.returns-clause-first
returns-clause-first c =
    let noted = rw c.deref.ensures.value at c.in_ok-check_metadata.ensures in
    none_both noted (c.in_ok-put_inline.ensures.first c.args.inline.now.items.now)
