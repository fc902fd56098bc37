use Rattle.std.proofs.Common.{◌≡◌, ◌-◌, map, take, length, slice_index}
use Rattle.wit_order.specs.Cut.{cut, IsCut}
use Rattle.wit_graph.proofs.Tables.{has, wants}
use Rattle.wit_graph.specs.Table.{rows}
use Rattle.wit_order.proofs.name_places.graph_of.Given as goal

abbrev pub invariant-loop-place : goal.invariant-loop-place
invariant-loop-place g l = record {
  whole : IsCut l.starts.items l.targets.items;
  last : slice_index l.starts.items (length l.starts.items - 1) ≡ length l.targets.items;
  rows : map has (cut l.starts.items l.targets.items) ≡ map (wants (rows (g.T.NameTable.entries l.deps))) (take l.place (rows (g.T.NameTable.entries l.deps)));
}
