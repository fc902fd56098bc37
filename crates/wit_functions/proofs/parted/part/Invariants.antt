use Rattle.std.proofs.Common.{◌≡◌, ◌++◌, reverse}
use Rattle.std.specs.BTreeMap.{get_by_text}
use Rattle.std.specs.BTreeSet.{contains_text}
use Rattle.std.specs.Vec.Iter.{into_iter_items}
use Rattle.wit_functions.specs.MaybeFunction.{HaveOwnNames}
use Rattle.wit_functions.specs.Parted.{IsParted}
use Rattle.wit_functions.proofs.parted.part.Given as goal

abbrev pub invariant-loop-item : goal.invariant-loop-item
invariant-loop-item g l = record {
  all : reverse (into_iter_items l.item-iterator) ++ reverse l.yielded ≡ l.fn.items.items;
  parted : HaveOwnNames g.T.MaybeFunction.function_at l.fn.items.items → IsParted g.T.MaybeFunction.function_at (reverse l.yielded) l.parted.others.items (contains_text l.parted.getters) (get_by_text l.parted.waiting);
}
