use Rattle.std.proofs.Common.{arith}
use Rattle.wit_order.proofs.Cut.{row_within, row_rises, row_ends, row_is}
use Rattle.wit_order.proofs.graph.Graph.row.Goals as goal

pub index-requires : goal.index-requires
index-requires c = omega (arith, row_within _ _ _ c.self.view_is c.self.invariant _ c.requires, c.self.inside.starts.ok)

pub overflow_add-place : goal.overflow_add-place
overflow_add-place c = omega (arith, row_within _ _ _ c.self.view_is c.self.invariant _ c.requires, c.self.inside.starts.ok, c.self.inside.starts.small)

pub index-requires-2 : goal.index-requires-2
index-requires-2 c = omega (arith, row_within _ _ _ c.self.view_is c.self.invariant _ c.requires, c.self.inside.starts.ok)

pub part-requires-clause-within : goal.part-requires-clause-within
part-requires-clause-within c = rw c.deref.ensures.value (row_ends _ _ _ c.self.view_is c.self.invariant _ c.requires _ _ c.index.ensures c.index-2.ensures)

pub part-requires-clause-rises : goal.part-requires-clause-rises
part-requires-clause-rises c = row_rises _ _ _ c.self.view_is c.self.invariant _ c.requires _ _ c.index.ensures c.index-2.ensures

pub returns : goal.returns
returns c = row_is _ _ _ c.self.view_is c.self.invariant _ c.requires _ _ c.index.ensures c.index-2.ensures _ (rw c.deref.ensures.value at c.part.ensures)
