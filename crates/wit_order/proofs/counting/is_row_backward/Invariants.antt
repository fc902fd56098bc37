use Rattle.std.proofs.Common.{◌<◌, All, take}
use Rattle.wit_order.proofs.counting.is_row_backward.Given as goal

abbrev pub invariant-loop-w : goal.invariant-loop-w
invariant-loop-w l = All (λ w. w < l.place) (take l.w-index l.row)
