use Rattle.std.proofs.Common.{◌≡◌, ◌++◌, List, Option, None}
use Rattle.wit_items.proofs.Common.{AllZip, Fault, PackageFile, first_in, into_iter_items}
use Rattle.wit_nested.specs.Nested.{IsMadeByNested}
use Rattle.wit_nested.specs.PushFaults.{IsWalk, nested_fault}
use Rattle.wit_nested.proofs.nested.resolve_all.Given as goal

abbrev pub invariant-loop-inner : goal.invariant-loop-inner
invariant-loop-inner l = record {
  all : l.yielded ++ into_iter_items l.inner-iterator ≡ l.fn.nested.items;
  made : AllZip IsMadeByNested l.yielded l.made.items;
  first : (walk : List PackageFile → Option Fault) → IsWalk walk → first_in (nested_fault walk) l.yielded ≡ None;
}
