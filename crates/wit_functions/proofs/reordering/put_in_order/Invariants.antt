use Rattle.std.proofs.Common.{◌≡◌, List, length}
use Rattle.wit_functions.specs.Reordered.{AreBrought, ArePositions, IsOrder}
use Rattle.wit_functions.proofs.reordering.put_in_order.Given as goal

abbrev pub invariant-loop-place : goal.invariant-loop-place
invariant-loop-place g l = record {
  same : length (g.E.Entries.entries l.entries) ≡ length l.positions.entries.items;
  inverse : ArePositions (length l.positions.entries.items) l.positions.entries.items l.positions.places.items;
  brought : (now : List _) → IsOrder (g.E.Entries.entries l.initial.entries) l.order.items now → AreBrought (g.E.Entries.entries l.initial.entries) (g.E.Entries.entries l.entries) l.order.items l.positions.entries.items l.place;
}
