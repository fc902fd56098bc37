use Rattle.std.proofs.Common.{ℕ, Vec, Global, Ok, Err}
use Rattle.wit_graph.specs.Table.{rows}
use Rattle.wit_graph.proofs.Forward.{faults_missing, faults_cycle}
use Rattle.wit_order.proofs.least_order.order_places.Goals as goal

pub returns-in-Ok-clause-missing : goal.returns-in-Ok-clause-missing
returns-in-Ok-clause-missing c = faults_missing (rows c.args.deps.now) (Ok c.in-Ok.places) c.in-Ok.ensures.ok.complete tt

pub returns-in-Ok-clause-cycle : goal.returns-in-Ok-clause-cycle
returns-in-Ok-clause-cycle c = faults_cycle (rows c.args.deps.now) (Ok c.in-Ok.places) (c.in-Ok.places.items, c.in-Ok.ensures.ok) tt

pub returns-in-Err-clause-missing : goal.returns-in-Err-clause-missing
returns-in-Err-clause-missing c = faults_missing {T = Vec ℕ Global} (rows c.args.deps.now) (Err c.in-Err.fault) tt c.in-Err.ensures.err

pub returns-in-Err-clause-cycle : goal.returns-in-Err-clause-cycle
returns-in-Err-clause-cycle c = faults_cycle {T = Vec ℕ Global} (rows c.args.deps.now) (Err c.in-Err.fault) tt c.in-Err.ensures.err
