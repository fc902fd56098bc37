use Rattle.std.proofs.Common.{◌<◌, length, ap, subst, refl, ◌∙◌, slice_get}
use Rattle.std.proofs.lemmas.Option.{slice_get_read}
use Rattle.wit_graph.specs.Table.{rows}
use Rattle.wit_graph.proofs.Faults.{edge_index}
use Rattle.wit_order.proofs.order_refusal.need.Goals as goal

pub bounds-ids-index : goal.bounds-ids-index
bounds-ids-index g c =
    let at = c.needs-ids.ensures in
    subst (λ l. c.args.index < length l) at.2 (edge_index (rows (g.T.NameTable.entries c.args.deps.now)) c.args.place c.args.index c.requires.0 at.0 c.requires.1 at.1)

pub returns : goal.returns
returns g c =
    let at = c.needs-ids.ensures in
    let ids = c.needs-ids.result.now in
    let inside : c.args.index < length ids = subst (λ l. c.args.index < length l) at.2 (edge_index (rows (g.T.NameTable.entries c.args.deps.now)) c.args.place c.args.index c.requires.0 at.0 c.requires.1 at.1) in
    (at.0, at.1, ap (λ l. slice_get l c.args.index) at.2 ∙ slice_get_read ids _ c.args.index c.index-ids-index.result refl inside c.index-ids-index.is)
