use Rattle.std.proofs.Common.{◌≡◌, Some, false, take, length}
use Rattle.std.specs.List.{list_any}
use Rattle.wit_functions.specs.Futures.{has_unknown}
use Rattle.wit_functions.proofs.futures.reaches_unknown.Given as goal

abbrev pub invariant-loop-param : goal.invariant-loop-param
invariant-loop-param l = list_any (λ p. has_unknown l.types (length l.types) (Some p.ty)) (take l.param-index l.function.params) ≡ false
