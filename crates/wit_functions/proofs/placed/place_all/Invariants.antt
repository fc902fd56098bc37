use Rattle.std.proofs.Common.{◌≡◌, ◌++◌, reverse}
use Rattle.std.specs.BTreeMap.{get_by_text}
use Rattle.std.specs.Vec.Iter.{into_iter_items}
use Rattle.wit_functions.specs.Parted.{served}
use Rattle.wit_functions.proofs.placed.place_all.Given as goal

abbrev pub invariant-loop-item : goal.invariant-loop-item
invariant-loop-item g l = l.placed.items ++ served g.T.MaybeFunction.function_at (get_by_text l.waiting) (into_iter_items l.item-iterator) ≡ served g.T.MaybeFunction.function_at (get_by_text l.fn.waiting) (reverse l.fn.others.items)
