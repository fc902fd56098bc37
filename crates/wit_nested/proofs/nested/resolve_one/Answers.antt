use Rattle.wit_items.proofs.Common.{err_from_is_err_and, refused_by}
use Rattle.wit_parser.proofs.Pushing.{push_agrees}
use Rattle.wit_nested.proofs.FirstFaults.{one_finds, one_stops}
use Rattle.wit_nested.proofs.Making.{inner_broken, one_broken, one_made}
use Rattle.wit_nested.proofs.nested.resolve_one.Goals as goal

pub returns-in_err-push-clause-refused : goal.returns-in_err-push-clause-refused
returns-in_err-push-clause-refused c =
    let p = err_from_is_err_and c.from_residual-in_err-push.result c.from_residual-in_err-push.ensures.1 in
    rw (p.1, p.2) (inner_broken c.args.inner c.new-resolver.result.files.items c.in_ok-source.source _ c.new-resolver.ensures c.in_ok-source.ensures (refused_by (push_agrees c.new-resolver.result.files.items c.in_ok-source.source) c.in_err-push.ensures.first))

pub returns-clause-made : goal.returns-clause-made
returns-clause-made c =
    let r = c.resolve.ensures in
    one_made c.args.inner c.in_ok-source.source c.new-resolver.result.files.items c.push.new.self.files.items c.resolve.result c.new-resolver.ensures c.in_ok-source.ensures c.in_ok-push.ensures.ok ((push_agrees c.new-resolver.result.files.items c.in_ok-source.source).unbroken c.in_ok-push.ensures.first) r.legal r.made

pub returns-clause-refused : goal.returns-clause-refused
returns-clause-refused c =
    one_broken c.args.inner c.in_ok-source.source c.new-resolver.result.files.items c.push.new.self.files.items c.resolve.result c.new-resolver.ensures c.in_ok-source.ensures c.in_ok-push.ensures.ok c.resolve.ensures.refused

pub returns-in_err-push-clause-first : goal.returns-in_err-push-clause-first
returns-in_err-push-clause-first c =
    let p = err_from_is_err_and c.from_residual-in_err-push.result c.from_residual-in_err-push.ensures.1 in
    rw (p.1, p.2) (one_stops c.args.inner c.new-resolver.result.files.items c.in_ok-source.source _ c.new-resolver.ensures c.in_ok-source.ensures c.in_err-push.ensures.first)

pub returns-clause-first : goal.returns-clause-first
returns-clause-first c =
    one_finds c.args.inner c.new-resolver.result.files.items c.push.new.self.files.items c.in_ok-source.source c.resolve.result c.new-resolver.ensures c.in_ok-source.ensures c.in_ok-push.ensures.ok c.in_ok-push.ensures.first c.resolve.ensures.first
