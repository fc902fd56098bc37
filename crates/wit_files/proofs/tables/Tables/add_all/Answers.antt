use Rattle.std.proofs.Common.{None, subst}
use Rattle.wit_syntax.proofs.Common.{IsOrder, err_from_is_err_and, item_rows}
use Rattle.wit_first.specs.FileFaults.{files_fault}
use Rattle.wit_first.specs.OrderFaults.{IsItemOrderFault, items_prefix}
use Rattle.wit_first.proofs.Bridge.{item_names_differ}
use Rattle.wit_first.proofs.First.{none_both, reports_back, reports_prefix}
use Rattle.wit_first.proofs.OrderFaults.{or_back, reports_later, reports_or}
use Rattle.wit_files.proofs.tables.Tables.add_all.Goals as goal

pub returns-in_err-declared-clause-first : goal.returns-in_err-declared-clause-first
returns-in_err-declared-clause-first c =
    let p = err_from_is_err_and c.from_residual.result c.from_residual.ensures.1 in
    let files = c.args.files.now in
    rw (p.1, p.2) (reports_or (IsItemOrderFault files) (items_prefix files) _ (reports_prefix (files_fault files) c.in_err-declared.ensures.first))

pub add_files-requires-clause-distinct : goal.add_files-requires-clause-distinct
add_files-requires-clause-distinct c = item_names_differ c.args.files.now c.in_ok-declared.ensures.first

pub returns-in_err-add_files-clause-first : goal.returns-in_err-add_files-clause-first
returns-in_err-add_files-clause-first c =
    let p = err_from_is_err_and c.from_residual-in_err-add_files.result c.from_residual-in_err-add_files.ensures.1 in
    let files = c.args.files.now in
    rw (p.1, p.2) (reports_or (IsItemOrderFault files) (items_prefix files) _ (reports_back c.in_ok-declared.ensures.first c.in_err-add_files.ensures.first))

pub returns-in_err-names-clause-first : goal.returns-in_err-names-clause-first
returns-in_err-names-clause-first c =
    let p = err_from_is_err_and c.from_residual-in_err-names.result c.from_residual-in_err-names.ensures.1 in
    let files = c.args.files.now in
    rw (p.1, p.2) (reports_later (IsItemOrderFault files) (items_prefix files) _ (none_both c.in_ok-declared.ensures.first c.in_ok-add_files.ensures.first) (rw c.in_ok-add_files.ensures.names.items at c.in_err-names.ensures.first))

pub returns-clause-names : goal.returns-clause-names
returns-clause-names c = let d = c.in_ok-add_files.ensures.names in record { items = d.items; kinds = d.kinds; tops = d.tops }

pub returns-clause-order : goal.returns-clause-order
returns-clause-order c = subst (λ rs. IsOrder rs c.in_ok-names.field-0.items) c.in_ok-add_files.ensures.names.items c.in_ok-names.ensures.order

pub returns-clause-first : goal.returns-clause-first
returns-clause-first c =
    let files = c.args.files.now in
    let places = c.in_ok-names.field-0.items in
    let order : IsOrder (item_rows files) places = subst (λ rs. IsOrder rs places) c.in_ok-add_files.ensures.names.items c.in_ok-names.ensures.order in
    or_back (IsItemOrderFault files) (items_prefix files) None (none_both c.in_ok-declared.ensures.first c.in_ok-add_files.ensures.first) (places, order)
