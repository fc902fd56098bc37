use Rattle.std.proofs.Common.{◌≡◌, ◌++◌, map}
use Rattle.wit_items.proofs.Common.{into_iter_items}
use Rattle.wit_nested.proofs.nested.named.Given as goal

abbrev pub invariant-loop-name : goal.invariant-loop-name
invariant-loop-name l = record {
  all : l.yielded ++ into_iter_items l.name-iterator ≡ l.fn.names.items;
  named : map (λ n. n.name) l.nested.items ≡ l.yielded;
}
