use Rattle.std.proofs.Common.{map}
use Rattle.wit_items.proofs.Common.{keys_of}
use Rattle.wit_nested.proofs.Naming.{AreSeen}
use Rattle.wit_nested.proofs.package_names.named_again.Given as goal

abbrev pub invariant-loop-package : goal.invariant-loop-package
invariant-loop-package l = AreSeen l.main l.nested l.package-index (map (λ n. n.now) (keys_of l.names))
