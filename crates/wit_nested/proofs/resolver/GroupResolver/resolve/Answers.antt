use Rattle.wit_items.proofs.Common.{err_from_is_err_and}
use Rattle.wit_nested.proofs.FirstFaults.{files_stop, joined_none, names_stop}
use Rattle.wit_nested.proofs.Joining.{broken_files, repeated_package}
use Rattle.wit_nested.proofs.resolver.GroupResolver.resolve.Goals as goal

pub returns-in_err-made-clause-refused : goal.returns-in_err-made-clause-refused
returns-in_err-made-clause-refused c =
    let p = err_from_is_err_and c.from_residual.result c.from_residual.ensures.1 in
    rw (p.1, p.2) (broken_files c.args.self.main.files.items c.args.self.nested.items _ c.in_err-made.ensures.refused)

pub returns-in_err-check_names-clause-refused : goal.returns-in_err-check_names-clause-refused
returns-in_err-check_names-clause-refused c =
    let p = err_from_is_err_and c.from_residual-in_err-check_names.result c.from_residual-in_err-check_names.ensures.1 in
    let made = c.in_ok-made.ensures in
    let again = rw c.deref.ensures.value at c.in_err-check_names.ensures.refused in
    rw
    (p.1, p.2)
    (repeated_package c.args.self.main.files.items c.in_ok-made.made c.args.self.nested.items _ (record { legal = made.legal; whole = made.made }) again)

pub returns-in_err-made-clause-first : goal.returns-in_err-made-clause-first
returns-in_err-made-clause-first c =
    let p = err_from_is_err_and c.from_residual.result c.from_residual.ensures.1 in
    rw (p.1, p.2) (files_stop c.args.self.main.files.items c.args.self.nested.items _ c.in_err-made.ensures.first)

pub returns-in_err-check_names-clause-first : goal.returns-in_err-check_names-clause-first
returns-in_err-check_names-clause-first c =
    let p = err_from_is_err_and c.from_residual-in_err-check_names.result c.from_residual-in_err-check_names.ensures.1 in
    let made = c.in_ok-made.ensures in
    let again = rw c.deref.ensures.value at c.in_err-check_names.ensures.refused in
    rw
    (p.1, p.2)
    (λ sources same each walk walks. names_stop c.args.self.main.files.items c.in_ok-made.made c.args.self.nested.items made.first (record { legal = made.legal; whole = made.made }) sources same each walk walks _ again)

pub returns-clause-first : goal.returns-clause-first
returns-clause-first c =
    let made = c.in_ok-made.ensures in
    let apart = rw c.deref.ensures.value at c.in_ok-check_names.ensures.apart in
    λ sources same each walk walks. joined_none c.args.self.main.files.items c.in_ok-made.made c.args.self.nested.items made.first (record { legal = made.legal; whole = made.made }) sources same each walk walks apart
