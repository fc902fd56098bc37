use Rattle.std.proofs.Common.{take}
use Rattle.wit_graph.specs.PlaceGraph.{AddsRow}
use Rattle.wit_graph.specs.Table.{rows}
use Rattle.wit_order.proofs.name_places.add_row.Given as goal

abbrev pub invariant-loop-index : goal.invariant-loop-index
invariant-loop-index g l = AddsRow (rows (g.T.NameTable.entries l.deps)) (take l.index l.ids) l.initial.targets.items l.targets.items
