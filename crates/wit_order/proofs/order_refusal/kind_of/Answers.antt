use Rattle.std.proofs.Common.{inl, inr, refl}
use Rattle.std.proofs.lemmas.Result.{IfOk-weaker}
use Rattle.wit_graph.specs.Table.{rows}
use Rattle.wit_graph.proofs.Faults.{refuses_missing, refuses_cycle}
use Rattle.wit_order.proofs.order_refusal.kind_of.Goals as goal

pub need-requires : goal.need-requires
need-requires g c = let f = rw c.in-Missing.is at c.requires in λ k. ((refl, (refl, tt)), (f.id, f.first.is))

pub need-requires-in-Cyclic : goal.need-requires-in-Cyclic
need-requires-in-Cyclic g c = let f = rw c.in-Cyclic.is at c.requires in λ k. ((refl, (refl, tt)), (f.id, f.first.is))

pub returns-in-Missing-clause-ok : goal.returns-in-Missing-clause-ok
returns-in-Missing-clause-ok g c =
    let f = rw c.in-Missing.is at c.requires in
    let at = c.need.ensures in
    IfOk-weaker c.not_found.result _ _ (λ kind says. inr (inl (refuses_missing (rows (g.T.NameTable.entries c.args.deps.now)) c.in-Missing.place c.in-Missing.index c.need.result.now at.0 c.args.kind.now kind f at.1 at.2 says))) c.not_found.ensures.ok

pub returns-in-Cyclic-clause-ok : goal.returns-in-Cyclic-clause-ok
returns-in-Cyclic-clause-ok g c =
    let f = rw c.in-Cyclic.is at c.requires in
    let at = c.need-in-Cyclic.ensures in
    IfOk-weaker c.type_cycle.result _ _ (λ kind says. inr (inr (refuses_cycle (rows (g.T.NameTable.entries c.args.deps.now)) c.in-Cyclic.place c.in-Cyclic.index c.need-in-Cyclic.result.now at.0 c.args.kind.now kind f at.1 at.2 says))) c.type_cycle.ensures.ok
