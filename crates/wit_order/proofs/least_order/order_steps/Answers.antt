use Rattle.std.proofs.lemmas.Result.{IfOk-weaker}
use Rattle.wit_graph.specs.Table.{rows}
use Rattle.wit_graph.proofs.Forward.{fails_missing, fails_cycle}
use Rattle.wit_order.proofs.least_order.order_steps.Goals as goal

pub returns-clause-missing : goal.returns-clause-missing
returns-clause-missing g c = fails_missing (rows (g.T.NameTable.entries c.args.deps.now)) c.args.kind.now c.keys_counted.result
    (IfOk-weaker c.keys_counted.result _ _ (λ r o. o.order.complete) c.keys_counted.ensures.ok) c.keys_counted.ensures.err

pub returns-clause-cycle : goal.returns-clause-cycle
returns-clause-cycle g c = fails_cycle (rows (g.T.NameTable.entries c.args.deps.now)) c.args.kind.now c.keys_counted.result
    (IfOk-weaker c.keys_counted.result _ _ (λ r o. (o.places, o.order)) c.keys_counted.ensures.ok) c.keys_counted.ensures.err
