use Rattle.wit_arena.proofs.Common.{err_from_is_err_and}
use Rattle.wit_groups.proofs.Outcome.{used_more, used_none, unfit, unread}
use Rattle.wit_groups.proofs.FirstFaults.{push_stops, read_stops}
use Rattle.wit_groups.proofs.group.push_all.Goals as goal

pub loop-source-init : goal.loop-source-init
loop-source-init c = used_none c.args.turn.now c.new-resolver.result.main.files.items c.new-resolver.result.nested.items c.new-resolver.ensures.files c.new-resolver.ensures.nested

pub returns-in_err-file-clause-refused : goal.returns-in_err-file-clause-refused
returns-in_err-file-clause-refused c =
    let p = err_from_is_err_and c.from_residual.result c.from_residual.ensures.1 in
    let l = c.loop-source in
    rw (p.1, p.2) (unread c.args.turn.now l.source-index c.source-item.result l.resolver.main.files.items l.resolver.nested.items c.in_err-file.field-0.0 c.loop-source-test.true c.source-item.is l.invariant c.in_err-file.ensures.unread)

pub returns-in_err-push-clause-refused : goal.returns-in_err-push-clause-refused
returns-in_err-push-clause-refused c =
    let p = err_from_is_err_and c.from_residual-in_err-push.result c.from_residual-in_err-push.ensures.1 in
    let l = c.loop-source in
    rw
    (p.1, p.2)
    (unfit c.args.turn.now l.source-index c.source-item.result l.resolver.main.files.items l.resolver.nested.items c.in_ok-file.file c.in_err-push.field-0.0 c.loop-source-test.true c.source-item.is l.invariant
    c.in_ok-file.ensures.tree
    c.in_err-push.ensures.refused)

pub loop-source-preserved : goal.loop-source-preserved
loop-source-preserved c =
    let l = c.loop-source in
    let extended = c.push.new.self in
    used_more c.args.turn.now l.source-index c.source-item.result l.resolver.main.files.items extended.main.files.items l.resolver.nested.items extended.nested.items c.in_ok-file.file c.loop-source-test.true c.source-item.is
    l.invariant
    c.in_ok-file.ensures.tree
    c.in_ok-push.ensures.accepted
    c.in_ok-push.ensures.files
    c.in_ok-push.ensures.nested

pub returns-in_err-file-clause-first : goal.returns-in_err-file-clause-first
returns-in_err-file-clause-first c =
    let p = err_from_is_err_and c.from_residual.result c.from_residual.ensures.1 in
    let l = c.loop-source in
    rw (p.1, p.2) (read_stops c.args.turn.now l.source-index c.source-item.result l.resolver.main.files.items l.resolver.nested.items c.in_err-file.field-0.0 c.loop-source-test.true c.source-item.is l.invariant c.in_err-file.ensures.unread)

pub returns-in_err-push-clause-first : goal.returns-in_err-push-clause-first
returns-in_err-push-clause-first c =
    let p = err_from_is_err_and c.from_residual-in_err-push.result c.from_residual-in_err-push.ensures.1 in
    let l = c.loop-source in
    rw
    (p.1, p.2)
    (push_stops c.args.turn.now l.source-index c.source-item.result l.resolver.main.files.items l.resolver.nested.items c.in_ok-file.file c.in_err-push.field-0.0 c.loop-source-test.true c.source-item.is l.invariant
    c.in_ok-file.ensures.tree
    c.in_err-push.ensures.first)
