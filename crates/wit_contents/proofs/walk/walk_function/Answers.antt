use Rattle.wit_contents.proofs.Names.{err_from_is_err_and, none_both, reports_back, reports_prefix, stage, walk_of}
use Rattle.wit_item_entries.proofs.ReachedFaults.{done, failed}
use Rattle.wit_rules.specs.Signatures.{function_view}
use Rattle.wit_externs.proofs.DoneFunctions.{same_name}
use Rattle.wit_contents.proofs.FileFaults.{memory_found}
use Rattle.wit_contents.proofs.MemberFaults.{function_found, function_next, function_owners, function_scoped, function_within}
use Rattle.wit_contents.proofs.Members.{member_function}
use Rattle.wit_contents.proofs.walk.walk_function.Goals as goal

pub resolve_function-requires-clause-owners : goal.resolve_function-requires-clause-owners
resolve_function-requires-clause-owners c = rw c.deref.ensures.value (function_owners c.requires)

pub resolve_function-requires-clause-place : goal.resolve_function-requires-clause-place
resolve_function-requires-clause-place c = rw c.deref.ensures.value (function_within c.requires)

pub put_function-requires-clause-mangled : goal.put_function-requires-clause-mangled
put_function-requires-clause-mangled c = c.in_ok-function.ensures.adds.mangled

pub put_function-requires-clause-borrowed : goal.put_function-requires-clause-borrowed
put_function-requires-clause-borrowed c =
    let e = rw c.deref.ensures.value at c.in_ok-function.ensures in
    same_name c.in_ok-function.function (function_view c.args.borrowed) (e.adds.named _ (function_next c.requires))

pub returns-clause-adds : goal.returns-clause-adds
returns-clause-adds c = λ n.
    let there = function_next n in
    let says = rw c.deref.ensures.value at c.in_ok-function.ensures in
    member_function (walk_of c.args.item.now c.args.walk.now) n.prefix (stage c.args.growing.now c.args.walked.now) (function_view c.args.borrowed) c.in_ok-function.function c.resolve_function.new.types c.resolve_function.new.required _ (says.adds.adds _ there) (says.adds.handled _ there) says.finds.extended (c.in_ok-put_function.ensures.puts n.keyed) (λ ys seen. c.in_ok-seen.ensures ys _ seen)

pub returns-in_err-function-clause-first : goal.returns-in_err-function-clause-first
returns-in_err-function-clause-first c =
    let p = err_from_is_err_and c.from_residual.result c.from_residual.ensures.1 in
    let e = rw c.deref.ensures.value at c.in_err-function.ensures in
    rw (p.1, p.2) (λ n. function_found n (failed _) (failed _) c.args.growing.now c.resolve_function.new.types e.finds.extended (e.finds.first _ (record { names = function_scoped n; results = n.walk.results }) _ (function_next n)) (λ o. reports_prefix _))

pub returns-in_err-put_function-clause-first : goal.returns-in_err-put_function-clause-first
returns-in_err-put_function-clause-first c =
    let p = err_from_is_err_and c.from_residual-in_err-put_function.result c.from_residual-in_err-put_function.ensures.1 in
    let e = rw c.deref.ensures.value at c.in_ok-function.ensures in
    rw (p.1, p.2) (λ n. function_found n (done c.in_ok-function.function) (failed _) c.args.growing.now c.resolve_function.new.types e.finds.extended (e.finds.first _ (record { names = function_scoped n; results = n.walk.results }) _ (function_next n)) (λ o none. reports_back none c.in_err-put_function.ensures.first))

pub returns-in_err-seen-clause-first : goal.returns-in_err-seen-clause-first
returns-in_err-seen-clause-first c = λ n test right. memory_found _ c.from_residual-in_err-seen.result c.from_residual-in_err-seen.ensures.1

pub returns-clause-first : goal.returns-clause-first
returns-clause-first c = λ n.
    let e = rw c.deref.ensures.value at c.in_ok-function.ensures in
    let f = done c.in_ok-function.function in
    function_found n f f c.args.growing.now c.resolve_function.new.types e.finds.extended (e.finds.first _ (record { names = function_scoped n; results = n.walk.results }) _ (function_next n)) (λ o none. none_both none c.in_ok-put_function.ensures.first)
