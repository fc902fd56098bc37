use Rattle.std.proofs.Common.{List, ℕ, Bor, Vec, Global, Ok, Err}
use Rattle.wit_graph.specs.Table.{rows}
use Rattle.wit_graph.proofs.Forward.{fails_missing, fails_cycle}
use Rattle.wit_order.proofs.least_order.keys_of.Goals as goal

pub returns-in-Ok-names_at-clause-missing : goal.returns-in-Ok-names_at-clause-missing
returns-in-Ok-names_at-clause-missing g c =
    let order = rw c.in-Ok.is at c.requires.ok in
    fails_missing (rows (g.T.NameTable.entries c.args.deps.now)) c.args.kind.now (Ok c.in-Ok-names_at.names) order.complete tt

pub returns-in-Ok-names_at-clause-cycle : goal.returns-in-Ok-names_at-clause-cycle
returns-in-Ok-names_at-clause-cycle g c =
    let order = rw c.in-Ok.is at c.requires.ok in
    fails_cycle (rows (g.T.NameTable.entries c.args.deps.now)) c.args.kind.now (Ok c.in-Ok-names_at.names) (c.in-Ok.places.items, order) tt

pub returns-clause-missing : goal.returns-clause-missing
returns-clause-missing g c = fails_missing {T = Vec (Bor (List ℕ)) Global} (rows (g.T.NameTable.entries c.args.deps.now)) c.args.kind.now (Err c.refusal.result) tt c.refusal.ensures.kind

pub returns-clause-cycle : goal.returns-clause-cycle
returns-clause-cycle g c = fails_cycle {T = Vec (Bor (List ℕ)) Global} (rows (g.T.NameTable.entries c.args.deps.now)) c.args.kind.now (Err c.refusal.result) tt c.refusal.ensures.kind
