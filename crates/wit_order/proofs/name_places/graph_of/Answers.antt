use Rattle.std.proofs.Common.{arith, ap, sym, ◌∙◌, map, inl, inr}
use Rattle.std.proofs.lemmas.Result.{err_from_is_err_and}
use Rattle.wit_order.specs.Cut.{cut}
use Rattle.wit_order.proofs.Cut.{row_added}
use Rattle.wit_graph.proofs.Tables.{map_step, miss_edge, has, wants}
use Rattle.wit_graph.specs.Table.{rows}
use Rattle.wit_order.proofs.name_places.graph_of.Goals as goal

pub loop-place-preserved : goal.loop-place-preserved
loop-place-preserved g c =
    let s = c.loop-place.invariant in
    let at = c.needs.ensures in
    let row = rw (sym at.2) at c.in_ok-add_row.ensures.ok in
    let added = row_added c.loop-place.starts.items c.loop-place.targets.items row.0 c.push-in-loop-place.new.self.items c.add_row.new.targets.items c.len.result s.whole s.last row.1
    (omega (arith, c.len.ensures, c.add_row.new.targets.ok)) c.in_ok-push-2.ensures.items in
    record {
      whole = added.0;
      last = added.1;
      rows = ap (map has) added.2 ∙ map_step has (wants (rows (g.T.NameTable.entries c.args.deps.now))) (cut c.loop-place.starts.items c.loop-place.targets.items) _ c.loop-place.place row.0 _
          s.rows at.1 row.2;
    }

pub returns-in_err-add_row-clause-err : goal.returns-in_err-add_row-clause-err
returns-in_err-add_row-clause-err g c =
    let p = err_from_is_err_and c.from_residual-in_err-add_row.result c.from_residual-in_err-add_row.ensures.1 in
    let at = c.needs.ensures in
    rw (p.1, p.2) (elim c.in_err-add_row.ensures.err [
      | inl out ↦ inl out
      | inr r ↦ inr (miss_edge (rows (g.T.NameTable.entries c.args.deps.now)) (cut c.loop-place.starts.items c.loop-place.targets.items) _ c.loop-place.place _ c.loop-place.invariant.rows
          at.1
          (rw (sym at.2) at r))
    ])
