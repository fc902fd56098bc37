use Rattle.std.proofs.Common.{map}
use Rattle.wit_arena.proofs.Common.{err_from_is_err_and}
use Rattle.wit_groups.specs.Groups.IsRefused.{InTurn}
use Rattle.wit_groups.proofs.FirstFaults.{joined_first, stopped_first}
use Rattle.wit_groups.proofs.Outcome.{not_joined, now_of}
use Rattle.wit_groups.proofs.group.resolve_sources.Goals as goal

pub returns-in_err-resolver-clause-refused : goal.returns-in_err-resolver-clause-refused
returns-in_err-resolver-clause-refused c =
    let p = err_from_is_err_and c.from_residual-in_err-resolver.result c.from_residual-in_err-resolver.ensures.1 in
    rw (p.1, p.2) (InTurn (map now_of c.in_ok-turn.turn.items) c.in_ok-turn.ensures (rw c.deref.ensures.value at c.in_err-resolver.ensures.refused))

pub returns-clause-refused : goal.returns-clause-refused
returns-clause-refused c =
    let made = c.in_ok-resolver.resolver in
    not_joined c.args.sources.now (map now_of c.in_ok-turn.turn.items) made.main.files.items made.nested.items c.resolve.result c.in_ok-turn.ensures (rw c.deref.ensures.value at c.in_ok-resolver.ensures.in_use) c.resolve.ensures.refused

pub returns-in_err-resolver-clause-first : goal.returns-in_err-resolver-clause-first
returns-in_err-resolver-clause-first c =
    let p = err_from_is_err_and c.from_residual-in_err-resolver.result c.from_residual-in_err-resolver.ensures.1 in
    rw (p.1, p.2) (stopped_first c.args.sources.now (map now_of c.in_ok-turn.turn.items) _ c.in_ok-turn.ensures (rw c.deref.ensures.value at c.in_err-resolver.ensures.first))

pub returns-clause-first : goal.returns-clause-first
returns-clause-first c =
    let made = c.in_ok-resolver.resolver in
    joined_first c.args.sources.now (map now_of c.in_ok-turn.turn.items) made.main.files.items made.nested.items c.resolve.result c.in_ok-turn.ensures (rw c.deref.ensures.value at c.in_ok-resolver.ensures.in_use) c.resolve.ensures.first
